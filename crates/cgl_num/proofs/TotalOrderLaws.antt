-- At fractions in lowest terms the order is that of the rational numbers.
use Rattle.std.proofs.Common.{◌≡◌, ◌*◌, ap, refl, sym, ◌∙◌, subst, arith}
use Rattle.std.specs.Prelude.{◌*ℤ◌, unsigned_abs}
use Rattle.std.specs.Ordering.{int_cmp, ordering_then}
use Rattle.std.specs.declared.cmp.Ordering.{Ordering}
use Rattle.std.specs.declared.cmp.Ordering.TheVariants.{Less, Equal, Greater}
use Rattle.std.specs.Int.{◌∣◌}
use Rattle.std.proofs.Math.Nat.{dvd-mul_left}
use Rattle.std.proofs.lemmas.Nat.Gcd.{dvd_antisymm}
use Rattle.cgl_num.proofs.GcdLaws.{dvd_other}
use Rattle.cgl_num.proofs.ArithmeticLaws.{gcd_swap}
use Rattle.std.proofs.lemmas.Cmp.{int_cmp_total, int_ranked, tied_itself}
use Rattle.std.proofs.lemmas.Int.{ints, unsigned_abs-mul}
use Rattle.cgl_num.specs.Fraction.{Fraction, IsLowest}
use Rattle.cgl_num.specs.FractionArithmetic.{order_den, cross_cmp, fraction_order, fraction_cmp}

then_equal : (r s : Ordering) → (r ≡ Equal → s ≡ Equal) → ordering_then r s ≡ r
then_equal Less s f = refl
then_equal Equal s f = f refl
then_equal Greater s f = refl

-- ---- fractions in lowest terms

den_is : (f : Fraction) → IsLowest f → order_den f ≡ f.den
den_is f p = omega (arith, ints, p.positive)

divides_den : (f h : Fraction) → IsLowest f → f.num *ℤ h.den ≡ h.num *ℤ f.den → unsigned_abs f.den ∣ unsigned_abs h.den
divides_den f h p e =
    let sizes : unsigned_abs f.num * unsigned_abs h.den ≡ unsigned_abs h.num * unsigned_abs f.den = sym (unsigned_abs-mul f.num h.den) ∙ ap unsigned_abs e ∙ unsigned_abs-mul h.num f.den in
    dvd_other (unsigned_abs f.den) (unsigned_abs f.num) (unsigned_abs h.den) (gcd_swap (unsigned_abs f.den) (unsigned_abs f.num) ∙ p.lowest)
    (subst (λ n. unsigned_abs f.den ∣ n) (sym sizes) (dvd-mul_left (unsigned_abs f.den) (unsigned_abs h.num)))

same_den : (f h : Fraction) → IsLowest f → IsLowest h → f.num *ℤ h.den ≡ h.num *ℤ f.den → f.den ≡ h.den
same_den f h p q e = let size = dvd_antisymm (divides_den f h p e) (divides_den h f q (sym e)) in omega (arith, ints, size, p.positive, q.positive)

pub order_is : (f h : Fraction) → IsLowest f → IsLowest h → fraction_order f h ≡ fraction_cmp f h
order_is f h p q =
    let cross : cross_cmp f h ≡ fraction_cmp f h = ap (λ d. int_cmp (f.num *ℤ d) (h.num *ℤ order_den f)) (den_is h q) ∙ ap (λ d. int_cmp (f.num *ℤ h.den) (h.num *ℤ d)) (den_is f p) in
    then_equal (cross_cmp f h) (int_cmp f.den h.den)
    (λ e. let same : f.num *ℤ h.den ≡ h.num *ℤ f.den = int_ranked _ _ Equal (sym (sym cross ∙ e)) in rw (same_den f h p q same) (tied_itself int_cmp_total h.den))
    ∙ cross
