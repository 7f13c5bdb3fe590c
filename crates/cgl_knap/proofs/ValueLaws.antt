-- How great the value of a set can be, and the items from a place on.
use Rattle.std.proofs.Common.{◌≡◌, ℕ, zero, suc, ◌+◌, ◌<◌, ℤ, pos, Bool, true, false, List, [], ◌∷◌, length, ap, ◌∙◌, arith, get_or, drop}
use Rattle.std.specs.Prelude.{◌+ℤ◌, ◌≤ℤ◌}
use Rattle.std.specs.List.{AllByRecursion}
use Rattle.std.proofs.lemmas.Int.{ints}
use Rattle.std.proofs.Math.Seq.{drop-cons}
use Rattle.cgl_knap.specs.Subset.{value_of, total_value, AreValues}

pub value_low : (values : List ℤ) (z : List Bool) → AreValues values → pos 0 ≤ℤ value_of values z
value_low [] z all = omega (arith, ints)
value_low (v ∷ values) [] all = omega (arith, ints)
value_low (v ∷ values) (true ∷ z) all = omega (arith, ints, all.0, value_low values z all.1)
value_low (v ∷ values) (false ∷ z) all = value_low values z all.1

pub total_low : (values : List ℤ) → AreValues values → pos 0 ≤ℤ total_value values
total_low [] all = omega (arith, ints)
total_low (v ∷ values) all = omega (arith, ints, all.0, total_low values all.1)

pub value_high : (values : List ℤ) (z : List Bool) → AreValues values → value_of values z ≤ℤ total_value values
value_high [] z all = omega (arith, ints)
value_high (v ∷ values) [] all = omega (arith, ints, all.0, total_low values all.1)
value_high (v ∷ values) (true ∷ z) all = omega (arith, ints, value_high values z all.1)
value_high (v ∷ values) (false ∷ z) all = omega (arith, ints, all.0, value_high values z all.1)

-- ---- the items from a place on

pub all_drop : {A : Type 0} (P : A → Type 0) (items : List A) (i : ℕ) → AllByRecursion P items → AllByRecursion P (drop i items)
all_drop P items zero all = all
all_drop P [] (suc i) all = tt
all_drop P (x ∷ items) (suc i) all = all_drop P items i all.1

pub total_drop : (values : List ℤ) (i : ℕ) → AreValues values → total_value (drop i values) ≤ℤ total_value values
total_drop values zero all = omega (arith, ints)
total_drop [] (suc i) all = omega (arith, ints)
total_drop (v ∷ values) (suc i) all = omega (arith, ints, all.0, total_drop values i all.1)

-- the items from i on are item i and those behind it
pub drop_both : (weights : List ℕ) (values : List ℤ) (i n : ℕ) (P : List ℕ → List ℤ → Type 0) → n ≡ i + 1 → i < length weights → i < length values
    → P (get_or weights i 0 ∷ drop n weights) (get_or values i (pos 0) ∷ drop n values) → P (drop i weights) (drop i values)
drop_both weights values i n P e hw hv t =
    let next : suc i ≡ n = omega (arith, e) in
    let some : drop i weights ≡ get_or weights i 0 ∷ drop n weights = drop-cons weights i 0 hw ∙ ap (λ m. get_or weights i 0 ∷ drop m weights) next in
    let parts : drop i values ≡ get_or values i (pos 0) ∷ drop n values = drop-cons values i (pos 0) hv ∙ ap (λ m. get_or values i (pos 0) ∷ drop m values) next in
    rw (some, parts) t

-- the value of item i, and that of all behind it, are at most that of all items
pub value_first : (values : List ℤ) (i n : ℕ) → n ≡ i + 1 → i < length values → AreValues values → (get_or values i (pos 0) +ℤ total_value (drop n values)) ≤ℤ total_value values
value_first values i n e h all =
    let next : suc i ≡ n = omega (arith, e) in
    let parts : drop i values ≡ get_or values i (pos 0) ∷ drop n values = drop-cons values i (pos 0) h ∙ ap (λ m. get_or values i (pos 0) ∷ drop m values) next in
    let whole : total_value (drop i values) ≡ get_or values i (pos 0) +ℤ total_value (drop n values) = ap total_value parts in
    omega (arith, ints, whole, total_drop values i all)
