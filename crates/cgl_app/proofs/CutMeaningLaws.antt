-- What the listed cuts of a task are, and the model with them as further rows.
use Rattle.std.proofs.Common.{◌≡◌, ℕ, zero, suc, ℤ, pos, negsuc, ◌^◌, ◌≤◌, ◌<◌, ◌/◌, nat_lt, ap, refl, ◌∙◌, arith, lit<, Bool, true, false, cond, not, ◌&&◌, List, [], ◌∷◌, map, IsTrue}
use Rattle.std.specs.Prelude.{◌↔◌, unsigned_abs, length, slice_get, Some, None, is_some}
use Rattle.std.specs.List.{AllByRecursion, list_all}
use Rattle.std.proofs.lemmas.Bool.{lt-ltb}
use Rattle.std.proofs.Math.Nat.{div-le_self}
use Rattle.std.proofs.Math.IntN.{neg_ℤ}
use Rattle.cgl_num.specs.Decimal.{Decimal, decimal_of, normal_of, zeros_within}
use Rattle.cgl_model.specs.declared.linear.Ineq.{Ineq}
use Rattle.cgl_model.specs.declared.mip.Column.{Column}
use Rattle.cgl_model.specs.declared.mip.Model.{Model}
use Rattle.cgl_model.specs.Feasible.{IsFeasible, SamePoints}
use Rattle.cgl_model.specs.Inequality.{Meets, Term}
use Rattle.cgl_model.specs.Point.{Point}
use Rattle.cgl_model.specs.Rising.{IsRising}
use Rattle.cgl_model.specs.Valid.{IsColumn, IsValid}
use Rattle.cgl_derive.specs.Books.{Entry, inequalities}
use Rattle.cgl_derive.specs.Derives.{AreColumns, Derives}
use Rattle.cgl_gen.specs.CutLaws.{IsCutAt}
use Rattle.cgl_gen.specs.Listable.{IsListable}
use Rattle.cgl_pool.specs.declared.kept.Kept.{Kept}
use Rattle.cgl_pool.specs.Task.{IsTask, Task, listed_cuts}
use Rattle.cgl_deck.specs.Extended.{AreRising, extended, is_decimal, is_known, is_within_sizes, with_rows}
use Rattle.cgl_app.specs.Accepts.{Accepts}
use Rattle.cgl_app.specs.Below.{Below}
use Rattle.cgl_app.specs.CutAnswers.{ExceedsSizes, IsRightCut}
use Rattle.cgl_app.specs.CutMeaning.{AreRight, MeetsListed}
use Rattle.cgl_app.specs.CutOf.{book_of, cuts_of, extension, inequality_of, proof_of}

-- each item has what follows from what each item has
all_follow : {A : Type 0} (P Q : A → Type 0) → ((a : A) → P a → Q a) → (xs : List A) → AllByRecursion P xs → AllByRecursion Q xs
all_follow P Q f [] all = tt
all_follow P Q f (x ∷ xs) all = (f x all.0, all_follow P Q f xs all.1)

abbrev Keeps : Task → Kept → Type 0
Keeps t k = IsCutAt t.setting.model t.setting.point k.candidate

-- ---- the listed cuts are right, and each feasible point meets them

pub cuts_right : Below → (t : Task) → IsTask t → AreRight t
cuts_right below t task =
    all_follow (Keeps t) (IsRightCut t) (λ k has. record { violation_is = has.violation; violated = has.violated; derived = has.derives })
    (listed_cuts t) (below.listed.cuts t task)

pub cuts_met : Below → (t : Task) → IsTask t → (y : Point) → IsFeasible t.setting.model y → MeetsListed t y
cuts_met below t task y feasible =
    all_follow (Keeps t) (λ k. Meets y (inequality_of k))
    (λ k has. below.derived.sound t.setting.model [] k.candidate.derivation k.candidate.cut y task.setting.decimals has.derives feasible tt)
    (listed_cuts t) (below.listed.cuts t task)

-- ---- numbers below 10^24 are decimals

abs_opposite : (n : ℕ) → unsigned_abs (neg_ℤ (pos n)) ≡ n
abs_opposite zero = refl
abs_opposite (suc n) = refl

normal_small : (n : ℤ) → unsigned_abs (normal_of n).m ≤ unsigned_abs n
normal_small (pos zero) = omega arith
normal_small (pos (suc n)) = div-le_self (suc n) (10 ^ zeros_within (suc n) (suc n))
normal_small (negsuc n) = omega (arith, abs_opposite (suc n / (10 ^ zeros_within (suc n) (suc n))), div-le_self (suc n) (10 ^ zeros_within (suc n) (suc n)))

both_small : (a b : Bool) (d : Decimal) → a ≡ true → b ≡ true → is_some (cond (a && b) (Some d) None) ≡ true
both_small true true d e f = refl
both_small true false d e f = f
both_small false b d e f = e

small_decimal : (n : ℤ) → unsigned_abs n < 10 ^ 24 → is_some (decimal_of n) ≡ true
unfolding decimal_of
small_decimal n h =
    let less = normal_small n in
    let wide : 10 ^ 24 < 10 ^ 36 = lit< tt in
    both_small (nat_lt (unsigned_abs (normal_of n).m) (10 ^ 24)) (nat_lt (unsigned_abs n) (10 ^ 36)) (normal_of n) (lt-ltb _ _ (omega arith)) (lt-ltb _ _ (omega arith))

small_decimals : (terms : List Term) → AllByRecursion (λ t. unsigned_abs t.1 < 10 ^ 24) terms → list_all (λ t. is_some (decimal_of t.1)) terms ≡ true
small_decimals [] h = refl
small_decimals (t ∷ terms) h = ap (λ b. b && list_all (λ u. is_some (decimal_of u.1)) terms) (small_decimal t.1 h.0) ∙ small_decimals terms h.1

listable_decimal : (c : Ineq) → IsListable c → is_decimal c ≡ true
listable_decimal c h = ap (λ b. b && is_some (decimal_of c.rhs)) (small_decimals c.terms h.terms) ∙ small_decimal c.rhs h.rhs

-- ---- the listed cuts as rows

all_below : (n : ℕ) (terms : List Term) → AllByRecursion (λ t. t.0 < n) terms → list_all (λ t. nat_lt t.0 n) terms ≡ true
all_below n [] h = refl
all_below n (t ∷ terms) h = ap (λ b. b && list_all (λ u. nat_lt u.0 n) terms) (lt-ltb t.0 n h.0) ∙ all_below n terms h.1

columns_known : Below → (t : Task) (k : Kept) → Keeps t k → is_known t.setting.model (inequality_of k) ≡ true
columns_known below t k has =
    all_below (length t.setting.model.cols) (inequality_of k).terms
    (below.derived.columns t.setting.model [] k.candidate.derivation k.candidate.cut has.derives has.ends)

all_true : (p : Ineq → Bool) (kept : List Kept) → AllByRecursion (λ k. p (inequality_of k) ≡ true) kept → list_all p (map inequality_of kept) ≡ true
all_true p [] all = refl
all_true p (k ∷ kept) all = ap (λ b. b && list_all p (map inequality_of kept)) all.0 ∙ all_true p kept all.1

all_mapped : (P : Ineq → Type 0) (kept : List Kept) → AllByRecursion (λ k. P (inequality_of k)) kept → AllByRecursion P (map inequality_of kept)
all_mapped P [] all = tt
all_mapped P (k ∷ kept) all = (all.0, all_mapped P kept all.1)

cuts_known : Below → (t : Task) → IsTask t → list_all (is_known t.setting.model) (cuts_of t) ≡ true
cuts_known below t task =
    all_true (is_known t.setting.model) (listed_cuts t)
    (all_follow (Keeps t) (λ k. is_known t.setting.model (inequality_of k) ≡ true) (columns_known below t) (listed_cuts t) (below.listed.cuts t task))

cuts_decimal : Below → (t : Task) → IsTask t → list_all is_decimal (cuts_of t) ≡ true
cuts_decimal below t task =
    all_true is_decimal (listed_cuts t)
    (all_follow (Keeps t) (λ k. is_decimal (inequality_of k) ≡ true) (λ k has. listable_decimal (inequality_of k) has.listable) (listed_cuts t) (below.listed.cuts t task))

cuts_rising : Below → (t : Task) → IsTask t → AreRising (cuts_of t)
cuts_rising below t task =
    all_mapped (λ c. IsRising c.terms) (listed_cuts t)
    (all_follow (Keeps t) (λ k. IsRising (inequality_of k).terms) (λ k has. has.rising) (listed_cuts t) (below.listed.cuts t task))

-- ---- the extension

in_rows : (rows : ℕ) (cols : List Column) → AllByRecursion (IsColumn rows) cols → AllByRecursion (λ c. AllByRecursion (λ e. e.0 < rows) c.entries) cols
in_rows rows cols = all_follow (IsColumn rows) (λ c. AllByRecursion (λ e. e.0 < rows) c.entries) (λ c has. has.known) cols

pub same_points : Below → (t : Task) (n : Model) → IsTask t → IsValid t.setting.model → extension t ≡ Some n → SamePoints t.setting.model n
same_points below t n task valid e =
    let m = t.setting.model in
    below.extensions.points m n (cuts_of t) e (in_rows (length m.rows) m.cols valid.columns) (cuts_rising below t task)
    (λ y feasible. all_mapped (Meets y) (listed_cuts t) (cuts_met below t task y feasible))

none_by_size : (a b c : Bool) (n : Model) → a ≡ true → b ≡ true → (cond (a && b && c) (Some n) None ≡ None) ↔ IsTrue (not c)
none_by_size true true true n e f = ((λ h. cc), (λ h. cc))
none_by_size true true false n e f = ((λ h. refl), (λ h. refl))
none_by_size true false c n e f = absurd (cc)
none_by_size false b c n e f = absurd (cc)

pub refused_by_size : Below → (t : Task) → IsTask t → (extension t ≡ None) ↔ ExceedsSizes t
unfolding extended
refused_by_size below t task =
    let m = t.setting.model in
    none_by_size (list_all (is_known m) (cuts_of t)) (list_all is_decimal (cuts_of t)) (is_within_sizes m (cuts_of t)) (with_rows m (cuts_of t))
    (cuts_known below t task) (cuts_decimal below t task)

-- ---- the book of the listed cuts

of_proofs : (kept : List Kept) → inequalities (map proof_of kept) ≡ map inequality_of kept
of_proofs [] = refl
of_proofs (k ∷ kept) = ap (λ cuts. inequality_of k ∷ cuts) (of_proofs kept)

all_proofs : (P : Entry → Type 0) (kept : List Kept) → AllByRecursion (λ k. P (proof_of k)) kept → AllByRecursion P (map proof_of kept)
all_proofs P [] all = tt
all_proofs P (k ∷ kept) all = (all.0, all_proofs P kept all.1)

no_entry : (k : ℕ) (entry : Entry) → slice_get [] k ≡ Some entry → ⊥
no_entry k entry e = cc

pub cuts_accepted : Below → (t : Task) (n : Model) → IsTask t → extension t ≡ Some n → Accepts t.setting.model n (book_of t)
cuts_accepted below t n task e =
    let m = t.setting.model in
    let kept = listed_cuts t in
    record {
      extended_is = ap (extended m) (of_proofs kept) ∙ e;
      right = record {
        shared_columns = tt;
        cut_columns = all_proofs (λ entry. AreColumns m entry.0.terms) kept
            (all_follow (Keeps t) (λ k. AreColumns m (inequality_of k).terms)
            (λ k has. below.derived.columns m [] k.candidate.derivation k.candidate.cut has.derives has.ends) kept (below.listed.cuts t task));
        shared = λ k entry got. absurd (no_entry k entry got);
        cuts = all_proofs (λ entry. Derives m [] entry.1 entry.0) kept
            (all_follow (Keeps t) (λ k. Derives m [] k.candidate.derivation k.candidate.cut) (λ k has. has.derives) kept (below.listed.cuts t task));
      };
    }
