-- What is right of known books.
use Rattle.std.proofs.Common.{◌≡◌, ℕ, zero, suc, ◌+◌, ◌*◌, ◌<◌, ◌==◌, ℤ, pos, negsuc, ◌^◌, Bool, true, false, List, [], ◌∷◌, take, Option, Some, None, IfSome, refl, subst, inl, arith}
use Rattle.std.specs.Prelude.{◌+ℤ◌, ◌*ℤ◌, unsigned_abs, slice_get, if◌then◌else◌}
use Rattle.std.proofs.lemmas.Int.{ints}
use Rattle.cgl_num.specs.Gcd.{gcd, gcd_of}
use Rattle.cgl_num.specs.Fraction.{lowest}
use Rattle.cgl_model.specs.declared.linear.Ineq.{Ineq}
use Rattle.cgl_model.specs.IntegerForm.{forms_of, row_shape}
use Rattle.cgl_derive.specs.declared.step.Ref.TheVariants as by
use Rattle.cgl_derive.specs.Books.{BookIsRight, Entry, inequalities}
use Rattle.cgl_derive.specs.Derives.{Derives, LinIsRight, coefficient}
use Rattle.cgl_derive.specs.KnownBooks.{at_most_one_of_three, at_most_one_of_two, beyond_book, circular_book, divided, lacking_book, of_three, of_two, plain_book, shared_book, taken, three_binaries, without_last}
use Rattle.cgl_derive.specs.KnownDerivations.{infeasible, ineq}
use Rattle.cgl_derive.proofs.KnownLaws.{derives, refuted}
use Rattle.cgl_derive.proofs.RoundingLaws.{rounded_right}

abbrev first_lemma : List Ineq
first_lemma = at_most_one_of_three ∷ []

-- -3a - 3b - 3c >= -5
abbrev row_end : Ineq
row_end = ineq ((0, negsuc 2) ∷ (1, negsuc 2) ∷ (2, negsuc 2) ∷ []) (negsuc 4)

divides : (shared : List Ineq) → Derives three_binaries shared (of_three divided).1 at_most_one_of_three
unfolding forms_of row_shape gcd gcd_of lowest
divides shared =
    derives three_binaries shared 64 [] [] (divided ∷ []) at_most_one_of_three (rounded_right three_binaries row_end (pos 3) (omega (arith, ints)) refl (refl, (refl, (refl, tt))), tt) (inl refl)

-- ---- weighted sums

abbrev unit : Bool → ℤ → ℤ
unit b z = if b then z else pos 0

once : (z : ℤ) → pos 1 *ℤ z +ℤ pos 0 ≡ pos 1 *ℤ z
once z = omega (arith, ints)

small : (a b c : Bool) → 1 * unsigned_abs (unit a (negsuc 0) +ℤ (unit b (negsuc 0) +ℤ (unit c (negsuc 0) +ℤ pos 0))) + (1 * unsigned_abs (unit c (pos 1) +ℤ pos 0) + 0) < 2 ^ 127
small true true true = omega arith
small true true false = omega arith
small true false true = omega arith
small true false false = omega arith
small false true true = omega arith
small false true false = omega arith
small false false true = omega arith
small false false false = omega arith

smaller : (n k : ℕ) → n + k < 2 ^ 127 → n + 0 < 2 ^ 127
smaller n k l = omega (arith, l)

cancelled : (u v : ℤ) (c : Bool)
    → pos 1 *ℤ (u +ℤ (v +ℤ (unit c (negsuc 0) +ℤ pos 0))) +ℤ (pos 1 *ℤ (unit c (pos 1) +ℤ pos 0) +ℤ pos 0) ≡ pos 1 *ℤ (u +ℤ (v +ℤ pos 0))
cancelled u v true = omega (arith, ints)
cancelled u v false = omega (arith, ints)

taken_right : LinIsRight three_binaries ((at_most_one_of_three, pos 1) ∷ []) (pos 1) at_most_one_of_three
taken_right = record {
  multipliers = (omega (arith, ints), tt);
  positive = omega (arith, ints);
  columns = (omega arith, (omega arith, (omega arith, tt)));
  left = (λ j. once (coefficient j at_most_one_of_three.terms));
  right = omega (arith, ints);
  narrow_left = (λ j. smaller (1 * unsigned_abs (coefficient j at_most_one_of_three.terms)) _ (small (j == 0) (j == 1) (j == 2)));
  narrow_right = omega arith;
  narrow_terms = (omega arith, (omega arith, (omega arith, tt)));
  narrow_rhs = omega arith;
}

-- c >= 0
abbrev last_above : Ineq
last_above = ineq ((2, pos 1) ∷ []) (pos 0)

without_right : LinIsRight three_binaries ((at_most_one_of_three, pos 1) ∷ (last_above, pos 1) ∷ []) (pos 1) at_most_one_of_two
without_right = record {
  multipliers = (omega (arith, ints), (omega (arith, ints), tt));
  positive = omega (arith, ints);
  columns = (omega arith, (omega arith, tt));
  left = (λ j. cancelled (unit (j == 0) (negsuc 0)) (unit (j == 1) (negsuc 0)) (j == 2));
  right = omega (arith, ints);
  narrow_left = (λ j. small (j == 0) (j == 1) (j == 2));
  narrow_right = omega arith;
  narrow_terms = (omega arith, (omega arith, tt));
  narrow_rhs = omega arith;
}

-- ---- books that are right

plain_last : Derives three_binaries [] (of_two divided).1 at_most_one_of_two
unfolding forms_of row_shape gcd gcd_of lowest
plain_last =
    derives three_binaries [] 64 [] [] (divided ∷ without_last ∷ []) at_most_one_of_two
    (rounded_right three_binaries row_end (pos 3) (omega (arith, ints)) refl (refl, (refl, (refl, tt))), (without_right, tt))
    (inl refl)

takes : Derives three_binaries first_lemma (of_three (taken (by.Shared 0))).1 at_most_one_of_three
takes = derives three_binaries first_lemma 64 [] [] (taken (by.Shared 0) ∷ []) at_most_one_of_three (taken_right, tt) (inl refl)

taken_last : Derives three_binaries first_lemma (of_two (taken (by.Shared 0))).1 at_most_one_of_two
unfolding forms_of row_shape gcd gcd_of lowest
taken_last =
    derives three_binaries first_lemma 64 [] [] (taken (by.Shared 0) ∷ without_last ∷ []) at_most_one_of_two (taken_right, (without_right, tt)) (inl refl)

pub known_plain : BookIsRight three_binaries plain_book
known_plain = record {
  shared_columns = tt;
  cut_columns = ((omega arith, (omega arith, (omega arith, tt))), ((omega arith, (omega arith, tt)), tt));
  shared = (λ k entry is. no_entry entry is);
  cuts = (divides [], (plain_last, tt));
}
  where
    no_entry : {P : Type 0} (entry : Entry) → None ≡ Some entry → P
    no_entry entry e = cc

pub known_shared_book : BookIsRight three_binaries shared_book
known_shared_book = record {
  shared_columns = ((omega arith, (omega arith, (omega arith, tt))), tt);
  cut_columns = ((omega arith, (omega arith, (omega arith, tt))), ((omega arith, (omega arith, tt)), tt));
  shared = lemmas;
  cuts = (takes, (taken_last, tt));
}
  where
    lemmas : (k : ℕ) (entry : Entry) → slice_get (of_three divided ∷ []) k ≡ Some entry → Derives three_binaries (inequalities (take k (of_three divided ∷ []))) entry.1 entry.0
    lemmas zero entry e = let Q : Option Entry → Type 0 = λ o. IfSome o (λ x. Derives three_binaries [] x.1 x.0) in subst Q e (divides [])
    lemmas (suc k) entry e = cc

-- ---- and books that are not

pub lacking : BookIsRight three_binaries lacking_book → ⊥
lacking right = refuted three_binaries first_lemma (taken (by.Shared 1)) [] at_most_one_of_three (λ r. r) right.cuts.0

pub circular : BookIsRight three_binaries circular_book → ⊥
circular right = refuted three_binaries [] (taken (by.Shared 0)) [] at_most_one_of_three (λ r. r) (right.shared 0 (of_three (taken (by.Shared 0))) refl)

pub beyond : BookIsRight infeasible beyond_book → ⊥
beyond right = omega (arith, right.shared_columns.0.0)
