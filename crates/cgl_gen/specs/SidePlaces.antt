-- Each side is the one that stands at its place, and what the side has that stands under a number.
use Rattle.std.proofs.Common.{◌≡◌, ℕ, zero, suc, ◌+◌, ◌≤◌, ◌<◌, ◌==◌, ◌&&◌, ap, refl, ◌∙◌, subst, arith, Bool, true, false, cond, List, [], ◌∷◌}
use Rattle.std.specs.Prelude.{length, Some, option_map, find, slice_get}
use Rattle.std.specs.List.{AllByRecursion}
use Rattle.cgl_model.specs.declared.mip.Model.{Model}
use Rattle.cgl_model.specs.declared.places.End.TheVariants.{Lower, Upper}
use Rattle.cgl_model.specs.declared.places.Place.{Place}
use Rattle.cgl_model.specs.declared.places.Place.TheVariants.{Row, Bound}
use Rattle.cgl_model.specs.declared.places.Side.{Side}
use Rattle.cgl_model.specs.FormList.{same_place}
use Rattle.cgl_model.specs.Inequality.{AreColumnsBelow}
use Rattle.cgl_model.specs.IntegerForm.{forms_of}
use Rattle.cgl_model.specs.PlaceOrder.{rank, RanksRise}
use Rattle.cgl_model.specs.Rising.{IsRising}
use Rattle.cgl_model.specs.Valid.{IsSized}
use Rattle.cgl_model.proofs.ColumnLaws.{sides_below}
use Rattle.cgl_model.proofs.FormListLaws.{same_places}
use Rattle.cgl_model.proofs.SideOrderLaws.{ranks_rise, terms_rise}
use Rattle.cgl_derive.specs.Meaning.{side_at}
use Rattle.cgl_gen.specs.Setting.{Setting, IsSetting}

-- ---- places that differ

at_least_lower : (n k : ℕ) (sides : List Side) → n ≤ k → AllByRecursion (λ t. k ≤ rank t.place) sides → AllByRecursion (λ t. n ≤ rank t.place) sides
at_least_lower n k [] h a = tt
at_least_lower n k (s ∷ sides) h a = (let first = a.0 in omega arith, at_least_lower n k sides h a.1)

at_least : (n : ℕ) (sides : List Side) → RanksRise n sides → AllByRecursion (λ t. n ≤ rank t.place) sides
at_least n [] r = tt
at_least n (s ∷ sides) r = (r.0, at_least_lower n (rank s.place + 1) sides (let first = r.0 in omega arith) (at_least (rank s.place + 1) sides r.1))

by_test : {P : Type 0} (b : Bool) → (b ≡ true → P) → (b ≡ false → P) → P
by_test true f g = f refl
by_test false f g = g refl

apart : (a b : Place) → rank a < rank b → same_place b a ≡ false
apart a b h = by_test (same_place b a) (λ e. absurd (let same : rank b ≡ rank a = ap rank (same_places b a e) in omega (arith, h, same))) (λ e. e)

same_itself : (n : ℕ) → (n == n) ≡ true
same_itself n = search (arith)

place_itself : (place : Place) → same_place place place ≡ true
place_itself (Row r Lower) = ap (λ b. b && true) (same_itself r)
place_itself (Row r Upper) = ap (λ b. b && true) (same_itself r)
place_itself (Bound j Lower) = ap (λ b. b && true) (same_itself j)
place_itself (Bound j Upper) = ap (λ b. b && true) (same_itself j)

-- ---- each side is found

abbrev pub IsFound : List Side → Side → Type 0
IsFound sides s = side_at sides s.place ≡ Some s.ineq

first_found : (s : Side) (sides : List Side) → IsFound (s ∷ sides) s
first_found s sides = ap (λ b. option_map (λ t. t.ineq) (cond b (Some s) (find (λ t. same_place s.place t.place) sides))) (place_itself s.place)

later_found : (s t : Side) (sides : List Side) → rank s.place < rank t.place → IsFound sides t → IsFound (s ∷ sides) t
later_found s t sides h found = ap (λ b. option_map (λ u. u.ineq) (cond b (Some s) (find (λ u. same_place t.place u.place) sides))) (apart s.place t.place h) ∙ found

others_found : (s : Side) (sides some : List Side) → AllByRecursion (λ t. rank s.place + 1 ≤ rank t.place) some → AllByRecursion (IsFound sides) some → AllByRecursion (IsFound (s ∷ sides)) some
others_found s sides [] a f = tt
others_found s sides (t ∷ some) a f = (later_found s t sides (let above = a.0 in omega arith) f.0, others_found s sides some a.1 f.1)

rising_found : (n : ℕ) (sides : List Side) → RanksRise n sides → AllByRecursion (IsFound sides) sides
rising_found n [] r = tt
rising_found n (s ∷ sides) r =
    (first_found s sides, others_found s sides sides (at_least (rank s.place + 1) sides r.1) (rising_found (rank s.place + 1) sides r.1))

pub sides_found : (m : Model) → IsSized m → AllByRecursion (IsFound (forms_of m).sides) (forms_of m).sides
sides_found m sized = rising_found 0 (forms_of m).sides (ranks_rise m sized.rows)

-- ---- the side with a number

-- what all items have, the one at a place has
pub all_at : {A : Type 0} (P : A → Type 0) (xs : List A) (i : ℕ) (x : A) → AllByRecursion P xs → slice_get xs i ≡ Some x → P x
all_at P [] i x all e = cc
all_at P (y ∷ xs) zero x all e = let same : y ≡ x = cc in subst P same all.0
all_at P (y ∷ xs) (suc i) x all e = all_at P xs i x all.1 e

-- it is the one at its place, over columns of the model, and its terms rise
pub record IsSideOf (m : Model) (side : Side) : Type 0 where
  pub found : side_at (forms_of m).sides side.place ≡ Some side.ineq
  pub columns : AreColumnsBelow (length m.cols) side.ineq.terms
  pub rising : IsRising side.ineq.terms

pub side_has : (s : Setting) (number : ℕ) (side : Side) → IsSetting s → slice_get (forms_of s.model).sides number ≡ Some side → IsSideOf s.model side
side_has s number side valid at =
    let sides = (forms_of s.model).sides in
    record {
      found = all_at (IsFound sides) sides number side (sides_found s.model valid.sized) at;
      columns = all_at (λ t. AreColumnsBelow (length s.model.cols) t.ineq.terms) sides number side (sides_below s.model) at;
      rising = all_at (λ t. IsRising t.ineq.terms) sides number side (terms_rise s.model valid.decimals) at;
    }
