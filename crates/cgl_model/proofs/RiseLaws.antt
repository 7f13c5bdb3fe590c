-- Rising columns.
use Rattle.std.proofs.Common.{◌≡◌, ℕ, zero, suc, ◌+◌, ◌≤◌, ◌<◌, subst, sym, arith, List, [], ◌∷◌, map, length, get_or, take}
use Rattle.std.specs.Prelude.{Option, Some, None}
use Rattle.std.specs.List.{filter}
use Rattle.cgl_num.specs.Decimal.{Decimal}
use Rattle.cgl_model.specs.declared.mip.Column.{Column}
use Rattle.cgl_model.specs.Inequality.{Term, AreColumnsBelow}
use Rattle.cgl_model.specs.IntegerForm.{divided, is_nonzero_term, scaled_term}
use Rattle.cgl_model.specs.Rising.{IsAboveAll}
use Rattle.cgl_model.specs.RowEntries.{entry_at, onto_entries, row_entries_from, RiseFrom}
use Rattle.cgl_model.proofs.ColumnLaws.{divided_below, nonzero_below}

pub rise_lower : {A : Type 0} (j k : ℕ) (entries : List (ℕ × A)) → j ≤ k → RiseFrom k entries → RiseFrom j entries
rise_lower j k [] h r = tt
rise_lower j k (e ∷ entries) h r = (let first = r.0 in omega arith, r.1)

onto_rise : (j : ℕ) (d : Option Decimal) (entries : List (ℕ × Decimal)) → RiseFrom (j + 1) entries → RiseFrom j (onto_entries j d entries)
onto_rise j None entries h = rise_lower j (j + 1) entries (omega arith) h
onto_rise j (Some d) entries h = (omega arith, h)

pub entries_rise : (r j : ℕ) (cols : List Column) → RiseFrom j (row_entries_from r j cols)
entries_rise r j [] = tt
entries_rise r j (c ∷ cols) = onto_rise j (entry_at r c.entries) _ (entries_rise r (j + 1) cols)

pub scaled_rise : (j k : ℕ) (entries : List (ℕ × Decimal)) → RiseFrom j entries → RiseFrom j (map (scaled_term k) entries)
scaled_rise j k [] h = tt
scaled_rise j k (e ∷ entries) h = (h.0, scaled_rise (e.0 + 1) k entries h.1)

at_least : (j : ℕ) (terms : List Term) (i : ℕ) (t : Term) → RiseFrom j terms → i < length terms → j ≤ (get_or terms i t).0
at_least j [] i t r h = absurd (omega arith)
at_least j (u ∷ terms) zero t r h = r.0
at_least j (u ∷ terms) (suc i) t r h = let rest = at_least (u.0 + 1) terms i t r.1 (omega arith) in let first = r.0 in omega arith

-- the earlier columns are below the one at i
pub earlier_below : (j : ℕ) (terms : List Term) (i : ℕ) (t : Term) → RiseFrom j terms → i < length terms → AreColumnsBelow (get_or terms i t).0 (take i terms)
earlier_below j [] i t r h = absurd (omega arith)
earlier_below j (u ∷ terms) zero t r h = tt
earlier_below j (u ∷ terms) (suc i) t r h =
    let rest = at_least (u.0 + 1) terms i t r.1 (omega arith) in
    (omega arith, earlier_below (u.0 + 1) terms i t r.1 (omega arith))

pub below_above : (terms : List Term) (c : ℕ) → AreColumnsBelow c terms → IsAboveAll terms c
below_above [] c h = tt
below_above (t ∷ []) c h = h.0
below_above (t ∷ u ∷ terms) c h = below_above (u ∷ terms) c h.1

pub divided_above : (g : ℕ) (coeffs terms : List Term) (i : ℕ) (t : Term) → RiseFrom 0 coeffs → i < length coeffs
    → terms ≡ filter is_nonzero_term (map (λ u. (u.0, divided g u.1)) (take i coeffs)) → IsAboveAll terms (get_or coeffs i t).0
divided_above g coeffs terms i t r h e =
    let c = (get_or coeffs i t).0 in
    let F : List Term → Type 0 = λ ts. IsAboveAll ts c in
    subst F (sym e) (below_above _ c (nonzero_below c _ (divided_below c g (take i coeffs) (earlier_below 0 coeffs i t r h))))
