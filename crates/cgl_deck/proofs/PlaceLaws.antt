-- Rows and columns of an extended model by their places.
use Rattle.std.proofs.Common.{◌≡◌, List, ℕ, zero, suc, ◌+◌, ◌<◌, [], ◌∷◌, ◌++◌, length, map, ap, refl, sym, ◌∙◌, Bool, true, Option, None, Some, arith, option_map, subst}
use Rattle.std.specs.List.{list_all, AllByRecursion, slice_get, zip}
use Rattle.std.proofs.lemmas.Bool.{and_parts}
use Rattle.cgl_num.specs.NumberText.{Word}
use Rattle.cgl_model.specs.declared.linear.Ineq.{Ineq}
use Rattle.cgl_model.specs.declared.mip.Column.{Column}
use Rattle.cgl_model.specs.declared.mip.Row.{Row}
use Rattle.cgl_deck.specs.Extended.{cut_row, extended_column, extended_columns_from}

pub get_front : {X : Type 0} (a b : List X) (r : ℕ) → r < length a → slice_get (a ++ b) r ≡ slice_get a r
get_front [] b r lt = absurd (omega arith)
get_front (x ∷ a) b zero lt = refl
get_front (x ∷ a) b (suc r) lt = get_front a b r (omega arith)

pub get_back : {X : Type 0} (a b : List X) (r k : ℕ) → r ≡ length a + k → slice_get (a ++ b) r ≡ slice_get b k
get_back [] b r k e = ap (slice_get b) (omega arith)
get_back (x ∷ a) b zero k e = absurd (omega arith)
get_back (x ∷ a) b (suc r) k e = get_back a b r k (omega arith)

pub each_at : {X : Type 0} (P : X → Type 0) (xs : List X) (k : ℕ) (x : X) → AllByRecursion P xs → slice_get xs k ≡ Some x → P x
each_at P [] k x all h = absurd (cc)
each_at P (y ∷ xs) zero x all h = let same : y ≡ x = cc in subst P same all.0
each_at P (y ∷ xs) (suc k) x all h = each_at P xs k x all.1 h

pub passes_at : {X : Type 0} (p : X → Bool) (xs : List X) (k : ℕ) (x : X) → list_all p xs ≡ true → slice_get xs k ≡ Some x → p x ≡ true
passes_at p [] k x all h = absurd (cc)
passes_at p (y ∷ xs) zero x all h = let same : y ≡ x = cc in ap p (sym same) ∙ (and_parts (p y) (list_all p xs) all).0
passes_at p (y ∷ xs) (suc k) x all h = passes_at p xs k x (and_parts (p y) (list_all p xs) all).1 h

pub record IsCutRow (cuts : List Ineq) (k : ℕ) (row : Row) : Type 0 where
  pub name : Word
  pub cut : Ineq
  pub at : slice_get cuts k ≡ Some cut
  pub is : row ≡ cut_row (name, cut)

pub cut_row_at : (names : List Word) (cuts : List Ineq) (k : ℕ) (row : Row) → slice_get (map cut_row (zip names cuts)) k ≡ Some row → IsCutRow cuts k row
cut_row_at [] cuts k row h = absurd (cc)
cut_row_at (n ∷ names) [] k row h = absurd (cc)
cut_row_at (n ∷ names) (c ∷ cuts) zero row h = record { name = n; cut = c; at = refl; is = cc }
cut_row_at (n ∷ names) (c ∷ cuts) (suc k) row h =
    let rest = cut_row_at names cuts k row h in
    record { name = rest.name; cut = rest.cut; at = rest.at; is = rest.is }

pub column_at : (first j i at : ℕ) (cuts : List Ineq) (cols : List Column) → at ≡ j + i → slice_get (extended_columns_from first j cuts cols) i ≡ option_map (extended_column first at cuts) (slice_get cols i)
column_at first j i at cuts [] e = refl
column_at first j zero at cuts (c ∷ cols) e = ap (λ k. Some (extended_column first k cuts c)) (omega arith)
column_at first j (suc i) at cuts (c ∷ cols) e = column_at first (j + 1) i at cuts cols (omega arith)

pub record IsMapped {X Y : Type 0} (f : X → Y) (o : Option X) (y : Y) : Type 0 where
  pub from : X
  pub some : o ≡ Some from
  pub is : f from ≡ y

pub mapped_some : {X Y : Type 0} (f : X → Y) (o : Option X) (y : Y) → option_map f o ≡ Some y → IsMapped f o y
mapped_some f None y h = absurd (cc)
mapped_some f (Some x) y h = record { from = x; some = refl; is = cc }
