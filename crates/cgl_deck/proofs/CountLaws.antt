-- There are always as many unused names as are asked for.
use Rattle.std.proofs.Common.{◌≡◌, ◌≢◌, List, ℕ, zero, suc, ◌+◌, ◌^◌, ◌<◌, ◌≤◌, [], ◌∷◌, length, filter, map, take, drop, ap, refl, sym, ◌∙◌, Bool, true, false, not, ◌||◌, inl, inr, arith, min, subst}
use Rattle.std.specs.List.{AllByRecursion}
use Rattle.std.specs.Str.{bytes_eq}
use Rattle.std.proofs.lemmas.Bool.{cases_Bool, false_from_ne_true}
use Rattle.std.proofs.lemmas.Fmt.{decimal_injective}
use Rattle.std.proofs.lemmas.List.{length-take, length-map}
use Rattle.std.proofs.lemmas.Slice.Eq.{bytes_eq-Decides}
use Rattle.cgl_num.specs.NumberText.{Word}
use Rattle.cgl_text.specs.Text.{is_one_of}
use Rattle.cgl_model.specs.declared.mip.Model.{Model}
use Rattle.cgl_deck.specs.CutNames.{cut_name, cut_names, numbers_from}

-- no name stands twice
abbrev pub IsSpread : List Word → Type 0
IsSpread [] = Unit {0}
IsSpread (w ∷ ws) = AllByRecursion (λ u. w ≢ u) ws × IsSpread ws

abbrev pub is_new : List Word → Word → Bool
is_new names w = not (is_one_of names w)

pub same_bytes : (u v : Word) → bytes_eq u v ≡ true → u ≡ v
same_bytes u v h = (bytes_eq-Decides u v).0 h

pub other_bytes : (u v : Word) → u ≢ v → bytes_eq u v ≡ false
other_bytes u v ne = false_from_ne_true (bytes_eq u v) (λ e. ne (same_bytes u v e))

filter_keeps : (p : Word → Bool) (w : Word) (ws : List Word) → p w ≡ true → filter p (w ∷ ws) ≡ w ∷ filter p ws
filter_keeps p w ws e = rw e refl

filter_drops : (p : Word → Bool) (w : Word) (ws : List Word) → p w ≡ false → filter p (w ∷ ws) ≡ filter p ws
filter_drops p w ws e = rw e refl

filter_more : (p : Word → Bool) (w : Word) (ws : List Word) → length (filter p ws) ≤ length (filter p (w ∷ ws))
filter_more p w ws =
    elim (cases_Bool (p w)) [
      | inl e ↦ rw (filter_keeps p w ws e) (omega arith)
      | inr e ↦ rw (filter_drops p w ws e) (omega arith)
    ]

filter_most : (p : Word → Bool) (w : Word) (ws : List Word) → length (filter p (w ∷ ws)) ≤ 1 + length (filter p ws)
filter_most p w ws =
    elim (cases_Bool (p w)) [
      | inl e ↦ rw (filter_keeps p w ws e) (omega arith)
      | inr e ↦ rw (filter_drops p w ws e) (omega arith)
    ]

filter_whole : (ws : List Word) → filter (is_new []) ws ≡ ws
filter_whole [] = refl
filter_whole (w ∷ ws) = ap (λ l. w ∷ l) (filter_whole ws)

-- ---- one name more is one unused name less at most

untouched : (v : Word) (names ws : List Word) → AllByRecursion (λ u. v ≢ u) ws → length (filter (is_new (v ∷ names)) ws) ≡ length (filter (is_new names) ws)
untouched v names [] h = refl
untouched v names (w ∷ ws) h =
    let other : bytes_eq w v ≡ false = other_bytes w v (λ e. h.0 (sym e)) in
    let rest : length (filter (is_new (v ∷ names)) ws) ≡ length (filter (is_new names) ws) = untouched v names ws h.1 in
    let test : is_new (v ∷ names) w ≡ is_new names w = ap (λ b. not (b || is_one_of names w)) other in
    elim (cases_Bool (is_new names w)) [
      | inl e ↦
          let e2 : is_new (v ∷ names) w ≡ true = test ∙ e in
          rw (filter_keeps (is_new (v ∷ names)) w ws e2, filter_keeps (is_new names) w ws e) (ap suc rest)
      | inr e ↦
          let e2 : is_new (v ∷ names) w ≡ false = test ∙ e in
          rw (filter_drops (is_new (v ∷ names)) w ws e2, filter_drops (is_new names) w ws e) rest
    ]

one_less : (v : Word) (names ws : List Word) → IsSpread ws → length (filter (is_new names) ws) ≤ 1 + length (filter (is_new (v ∷ names)) ws)
one_less v names [] h = omega arith
one_less v names (w ∷ ws) h =
    elim (cases_Bool (bytes_eq w v)) [
      | inl same ↦
          let is : w ≡ v = same_bytes w v same in
          let rest : length (filter (is_new (v ∷ names)) ws) ≡ length (filter (is_new names) ws) = untouched v names ws (subst (λ x. AllByRecursion (λ u. x ≢ u) ws) is h.0) in
          let less = filter_more (is_new (v ∷ names)) w ws in
          let more = filter_most (is_new names) w ws in
          omega arith
      | inr other ↦
          let rest : length (filter (is_new names) ws) ≤ 1 + length (filter (is_new (v ∷ names)) ws) = one_less v names ws h.1 in
          let test : is_new (v ∷ names) w ≡ is_new names w = ap (λ b. not (b || is_one_of names w)) other in
          elim (cases_Bool (is_new names w)) [
            | inl e ↦
                let left = ap (λ (l : List Word). length l) (filter_keeps (is_new names) w ws e) in
                let right = ap (λ (l : List Word). length l) (filter_keeps (is_new (v ∷ names)) w ws (test ∙ e)) in
                omega arith
            | inr e ↦
                let left = ap (λ (l : List Word). length l) (filter_drops (is_new names) w ws e) in
                let right = ap (λ (l : List Word). length l) (filter_drops (is_new (v ∷ names)) w ws (test ∙ e)) in
                omega arith
          ]
    ]

enough : (names ws : List Word) → IsSpread ws → length ws ≤ length (filter (is_new names) ws) + length names
enough [] ws h = omega (arith, ap (λ (l : List Word). length l) (filter_whole ws))
enough (v ∷ names) ws h = omega (arith, enough names ws h, one_less v names ws h)

-- ---- the names of numbers differ

name_injective : (k j : ℕ) → k < 2 ^ 64 → j < 2 ^ 64 → cut_name k ≡ cut_name j → k ≡ j
name_injective k j small small_too e = decimal_injective k j small small_too (ap (drop 3) e)

all_differ : (k j n : ℕ) → k < j → j + n ≤ 2 ^ 64 → AllByRecursion (λ u. cut_name k ≢ u) (map cut_name (numbers_from j n))
all_differ k j zero lt le = tt
all_differ k j (suc n) lt le =
    let differ : cut_name k ≢ cut_name j = λ e. let same : k ≡ j = name_injective k j (omega arith) (omega arith) e in omega arith in
    (differ, all_differ k (j + 1) n (omega arith) (omega arith))

pub names_spread : (k n : ℕ) → k + n ≤ 2 ^ 64 → IsSpread (map cut_name (numbers_from k n))
names_spread k zero le = tt
names_spread k (suc n) le = (all_differ k (k + 1) n (omega arith) (omega arith), names_spread (k + 1) n (omega arith))

numbers_length : (k n : ℕ) → length (numbers_from k n) ≡ n
numbers_length k zero = refl
numbers_length k (suc n) = ap suc (numbers_length (k + 1) n)

pub names_enough : (m : Model) (n : ℕ) → length m.rows + n < 2 ^ 64 → length (cut_names m n) ≡ n
unfolding cut_names
names_enough m n small =
    let tries = length m.rows + n in
    let ws = map cut_name (numbers_from 1 tries) in
    let names = map (λ r. r.name) m.rows in
    let all : length ws ≡ tries = length-map (numbers_from 1 tries) cut_name ∙ numbers_length 1 tries in
    let rows : length names ≡ length m.rows = length-map m.rows (λ r. r.name) in
    let some : length ws ≤ length (filter (is_new names) ws) + length names = enough names ws (names_spread 1 tries (omega arith)) in
    let taken : length (take n (filter (is_new names) ws)) ≡ min n (length (filter (is_new names) ws)) = length-take n (filter (is_new names) ws) in
    omega arith
