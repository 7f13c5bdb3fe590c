-- Sums of terms at numbers for the columns.
use Rattle.std.proofs.Common.{◌≡◌, ℕ, zero, suc, ℤ, pos, ◌+◌, ◌*◌, ◌≤◌, ◌<◌, refl, arith, List, [], ◌∷◌, length, get_or, drop, ap, sym, ◌∙◌, add-one}
use Rattle.std.specs.Prelude.{◌+ℤ◌, ◌*ℤ◌, unsigned_abs}
use Rattle.std.proofs.Math.Seq.{drop-cons}
use Rattle.std.proofs.lemmas.Int.{ints}
use Rattle.std.proofs.lemmas.Option.{unwrap_or-slice_get}
use Rattle.cgl_model.specs.Inequality.{Term, AreColumnsBelow, sum_at, magnitudes_at}

drop_more : (terms : List Term) (i : ℕ) (t : Term) → i < length terms → drop i terms ≡ get_or terms i t ∷ drop (i + 1) terms
drop_more terms i t h = drop-cons terms i t h ∙ ap (λ n. get_or terms i t ∷ drop n terms) (sym (add-one i))

-- the term at i and those behind it
pub sum_from : (p : List ℤ) (terms : List Term) (i : ℕ) (t : Term) → i < length terms
    → sum_at p (drop i terms) ≡ (get_or terms i t).1 *ℤ get_or p (get_or terms i t).0 (pos 0) +ℤ sum_at p (drop (i + 1) terms)
sum_from p terms i t h =
    let u = get_or terms i t in
    ap (sum_at p) (drop_more terms i t h) ∙ ap (λ z. u.1 *ℤ z +ℤ sum_at p (drop (i + 1) terms)) (unwrap_or-slice_get p u.0 (pos 0))

pub magnitudes_from : (p : List ℤ) (terms : List Term) (i : ℕ) (t : Term) → i < length terms
    → magnitudes_at p (drop i terms) ≡ unsigned_abs (get_or terms i t).1 * unsigned_abs (get_or p (get_or terms i t).0 (pos 0)) + magnitudes_at p (drop (i + 1) terms)
magnitudes_from p terms i t h =
    let u = get_or terms i t in
    ap (magnitudes_at p) (drop_more terms i t h) ∙ ap (λ z. unsigned_abs u.1 * unsigned_abs z + magnitudes_at p (drop (i + 1) terms)) (unwrap_or-slice_get p u.0 (pos 0))

-- past the last term
drop_past : (terms : List Term) (i : ℕ) → length terms ≤ i → drop i terms ≡ []
drop_past [] zero h = refl
drop_past [] (suc i) h = refl
drop_past (t ∷ terms) zero h = absurd (omega arith)
drop_past (t ∷ terms) (suc i) h = drop_past terms i (omega arith)

pub sum_all : (p : List ℤ) (terms : List Term) (i : ℕ) (s : ℤ) → length terms ≤ i → s +ℤ sum_at p (drop i terms) ≡ sum_at p terms → s ≡ sum_at p terms
sum_all p terms i s h is = let none = ap (sum_at p) (drop_past terms i h) in omega (arith, ints, none, is)

pub magnitudes_all : (p : List ℤ) (terms : List Term) (i s n : ℕ) → length terms ≤ i → s + magnitudes_at p (drop i terms) ≡ n + magnitudes_at p terms → s ≡ n + magnitudes_at p terms
magnitudes_all p terms i s n h is = let none = ap (magnitudes_at p) (drop_past terms i h) in omega (arith, none, is)

pub column_at : (n : ℕ) (terms : List Term) (i : ℕ) (t : Term) → AreColumnsBelow n terms → i < length terms → (get_or terms i t).0 < n
column_at n [] i t b h = absurd (omega arith)
column_at n (u ∷ terms) zero t b h = b.0
column_at n (u ∷ terms) (suc i) t b h = column_at n terms i t b.1 (omega arith)
