use Rattle.std.proofs.Common.{◌≡◌, ◌∙◌, ap, ap₂, refl, sym, subst, arith, rules, ℕ, ◌/◌, ◌^◌, ◌<◌, ◌≤◌, nat_le, Bool, true, false, cond, Some, None}
use Rattle.std.specs.Prelude.{ℤ, pos, ◌*ℤ◌, unsigned_abs}
use Rattle.std.specs.Int.{w128}
use Rattle.std.specs.Int.RustNames.{FitsSigned}
use Rattle.std.proofs.lemmas.Bool.Decides.{nat_tests}
use Rattle.std.proofs.lemmas.Int.{ints, to_z-of_z, to_z_pos}
use Rattle.cgl_num.specs.Fraction.{Fraction}
use Rattle.cgl_where.specs.PointFile.{numerator_over}
use Rattle.cgl_where.specs.Limits.{fitting_numerator}
use Rattle.cgl_where.proofs.PointLaws.{below_is}
use Rattle.cgl_where.proofs.denominators.numerator_over.Goals as goal

over_is : (d den : ℕ) (f : Fraction) (x y : ℤ) → x ≡ f.num → y ≡ pos (d / den) → den ≡ unsigned_abs f.den → x *ℤ y ≡ numerator_over d f
over_is d den f x y x_is y_is den_is = ap₂ (λ p q. p *ℤ q) x_is (y_is ∙ ap (λ m. pos (d / m)) den_is)

large_case : (z : ℤ) (b : Bool) → nat_le (2 ^ 100) (unsigned_abs z) ≡ b → (FitsSigned w128 z → ⊥) → None ≡ cond b None (Some z)
large_case z true e large = refl
large_case z false e large =
    let below : unsigned_abs z < 2 ^ 100 = grind (arith, nat_tests) in
    absurd (large (record { sfits = omega (arith, ints, below) }))

large : (d : ℕ) (f : Fraction) (z : ℤ) → z ≡ numerator_over d f → (FitsSigned w128 z → ⊥) → None ≡ fitting_numerator (numerator_over d f)
large d f z is h = subst (λ (n : ℤ). None ≡ fitting_numerator n) is (large_case z (nat_le (2 ^ 100) (unsigned_abs z)) refl h)

kept : (number read : ℤ) → read ≡ number → unsigned_abs read < 2 ^ 100 → Some read ≡ fitting_numerator number
kept number read same below =
    ap Some same ∙ ap (λ b. cond b None (Some number)) (sym (below_is (unsigned_abs number) (2 ^ 100) (subst (λ (z : ℤ). unsigned_abs z < 2 ^ 100) same below)))

at_limit : (z : ℤ) → 2 ^ 100 ≤ unsigned_abs z → None ≡ fitting_numerator z
at_limit z reached = let wide : nat_le (2 ^ 100) (unsigned_abs z) ≡ true = grind (arith, nat_tests) in ap (λ b. cond b None (Some z)) (sym wide)

wide : (number read : ℤ) → read ≡ number → 2 ^ 100 ≤ unsigned_abs read → None ≡ fitting_numerator number
wide number read same reached = at_limit number (subst (λ (z : ℤ). 2 ^ 100 ≤ unsigned_abs z) same reached)

pub nonzero_div-factor : goal.nonzero_div-factor
nonzero_div-factor c = c.den.ensures.positive

pub overflow_cast-factor : goal.overflow_cast-factor
overflow_cast-factor c = search rules

pub returns-in_default : goal.returns-in_default
returns-in_default c =
    let factor : c.args.d / c.den.result < 2 ^ 127 = omega arith in
    large c.args.d c.args.f _
    (over_is c.args.d c.den.result c.args.f _ _ (to_z-of_z w128 c.num.result (record { sfits = c.num.type_inv }) ∙ c.num.ensures.num) (to_z_pos w128 (c.args.d / c.den.result) factor) c.den.ensures.value)
    c.in_default.ensures

pub returns : goal.returns
returns c =
    let fits : FitsSigned w128 c.in-Some.number = search rules in
    let factor : c.args.d / c.den.result < 2 ^ 127 = omega arith in
    kept (numerator_over c.args.d c.args.f) _
    (to_z-of_z w128 c.in-Some.number fits
    ∙ c.in-Some.ensures.1
    ∙ over_is c.args.d c.den.result c.args.f _ _ (to_z-of_z w128 c.num.result (record { sfits = c.num.type_inv }) ∙ c.num.ensures.num) (to_z_pos w128 (c.args.d / c.den.result) factor) c.den.ensures.value)
    (omega arith)

pub returns-then-unsigned_abs-ge-NUMERATOR_END : goal.returns-then-unsigned_abs-ge-NUMERATOR_END
returns-then-unsigned_abs-ge-NUMERATOR_END c =
    let fits : FitsSigned w128 c.in-Some.number = search rules in
    let factor : c.args.d / c.den.result < 2 ^ 127 = omega arith in
    wide (numerator_over c.args.d c.args.f) _
    (to_z-of_z w128 c.in-Some.number fits
    ∙ c.in-Some.ensures.1
    ∙ over_is c.args.d c.den.result c.args.f _ _ (to_z-of_z w128 c.num.result (record { sfits = c.num.type_inv }) ∙ c.num.ensures.num) (to_z_pos w128 (c.args.d / c.den.result) factor) c.den.ensures.value)
    (omega arith)
