-- Rows of choices, and the walk over them.
use Rattle.std.proofs.Common.{◌≡◌, ℕ, suc, ◌+◌, ◌-◌, ◌*◌, ◌≤◌, ◌<◌, ℤ, pos, Bool, true, false, cond, List, [], ◌∷◌, ◌++◌, length, refl, sym, ap, ◌∙◌, subst, arith, get_or, set, take, drop, ◌⊎◌, inl, inr, append_assoc}
use Rattle.std.proofs.lemmas.Bool.{cases_order}
use Rattle.std.proofs.lemmas.List.{get_or-append_right, get_or_append_left, length-take-le, get_or-drop, take_more_set, take_all, append-nil}
use Rattle.std.proofs.lemmas.Slice.{drop-put_mid}
use Rattle.std.proofs.Math.Nat.{mul-le-mul_right}
use Rattle.std.proofs.Math.ListN.{drop_of_length-le}
use Rattle.std.proofs.Math.Seq.{drop-cons}
use borrow.Rule.Slice.PartMut.{put_mid, post_of}
use Rattle.cgl_knap.specs.LeastCost.{takes_first, picks, IsChoices, AreAllChoices}
use Rattle.cgl_knap.proofs.ValueLaws.{drop_both}

-- the rows from an item on
abbrev pub AreChoicesFrom : List ℕ → List ℤ → ℕ → ℕ → List Bool → Type 0
AreChoicesFrom weights costs places from choice = (i k : ℕ) → from ≤ i → i < length weights → k < places → get_or choice (i * places + k) false ≡ takes_first (drop i weights) (drop i costs) k

later_row : (i j places m : ℕ) → i < j → i * places + places ≤ j * places + m
later_row i j places m h = let rows : suc i * places ≤ j * places = mul-le-mul_right places h in omega (arith, rows)

pub rows_step : (weights : List ℕ) (costs : List ℤ) (places i n a k : ℕ) (choice row : List Bool) → n ≡ i + 1 → i < length weights → i < length costs
    → length choice ≡ length weights * places → length row ≡ places → a ≡ i * places → k ≡ places
    → IsChoices (get_or weights i 0 ∷ drop n weights) (get_or costs i (pos 0) ∷ drop n costs) row
    → AreChoicesFrom weights costs places n choice → AreChoicesFrom weights costs places i (put_mid a k choice row)
rows_step weights costs places i n a k choice row e hw hc size width is_a is_k here rest j m le hj hm = cases (cases_order j i)
  where
    room : a + k ≤ length choice
    room = let rows : suc i * places ≤ length weights * places = mul-le-mul_right places hw in omega (arith, rows, is_a, is_k, size)

    first : get_or (put_mid a k choice row) (i * places + m) false ≡ takes_first (drop i weights) (drop i costs) m
    first =
        let front : length (take a choice) ≡ a = length-take-le a choice (omega (arith, room)) in
        let index : i * places + m - a ≡ m = omega (arith, is_a) in
        get_or-append_right (take a choice) (row ++ post_of a k choice) a (i * places + m) false front (omega (arith, is_a))
        ∙ ap (λ (x : ℕ). get_or (row ++ post_of a k choice) x false) index
        ∙ get_or_append_left row (post_of a k choice) false m (omega (arith, width, hm))
        ∙ drop_both weights costs i n (λ ws cs. get_or row m false ≡ takes_first ws cs m) e hw hc (here m (omega (arith, width, hm)))

    cases : (j ≡ i) ⊎ ((j < i) ⊎ (i < j)) → get_or (put_mid a k choice row) (j * places + m) false ≡ takes_first (drop j weights) (drop j costs) m
    cases (inl same) = subst (λ (x : ℕ). get_or (put_mid a k choice row) (x * places + m) false ≡ takes_first (drop x weights) (drop x costs) m) (sym same) first
    cases (inr (inl before)) = absurd (omega (arith, before, le))
    cases (inr (inr after)) =
        let far : i * places + places ≤ j * places + m = later_row i j places m after in
        let x = j * places + m - (a + k) in
        let index : (a + k) + x ≡ j * places + m = omega (arith, far, is_a, is_k) in
        let same : drop (a + k) (put_mid a k choice row) ≡ drop (a + k) choice = drop-put_mid a k choice row (a + k) (omega arith) (omega (arith, room)) (omega (arith, width, is_k)) in
        ap (λ (y : ℕ). get_or (put_mid a k choice row) y false) (sym index)
        ∙ sym (get_or-drop (a + k) (put_mid a k choice row) x false)
        ∙ ap (λ (l : List Bool). get_or l x false) same
        ∙ get_or-drop (a + k) choice x false
        ∙ ap (λ (y : ℕ). get_or choice y false) index
        ∙ rest j m (omega (arith, e, after)) hj hm

picks_first : (w : ℕ) (c : ℤ) (weights : List ℕ) (costs : List ℤ) (need : ℕ)
    → picks (w ∷ weights) (c ∷ costs) need ≡ takes_first (w ∷ weights) (c ∷ costs) need ∷ picks weights costs (cond (takes_first (w ∷ weights) (c ∷ costs) need) (need - w) need)
unfolding picks takes_first
picks_first w c weights costs need = refl

pub walk_step : (weights : List ℕ) (costs : List ℤ) (places : ℕ) (choice pick all : List Bool) (i need left : ℕ) → i < length weights → length costs ≡ length weights → i < length pick → need < places
    → left ≡ cond (get_or choice (i * places + need) false) (need - get_or weights i 0) need → AreAllChoices weights costs places choice
    → take i pick ++ picks (drop i weights) (drop i costs) need ≡ all
    → take (i + 1) (set pick i (get_or choice (i * places + need) false)) ++ picks (drop (i + 1) weights) (drop (i + 1) costs) left ≡ all
walk_step weights costs places choice pick all i need left hw size hp hn is_left choices walked =
    let b = get_or choice (i * places + need) false in
    let w = get_or weights i 0 in
    let c = get_or costs i (pos 0) in
    let hc : i < length costs = omega (arith, hw, size) in
    let front : take (i + 1) (set pick i b) ≡ take i pick ++ b ∷ [] = take_more_set pick i b hp in
    let P : List ℕ → List ℤ → Type 0 = λ ws cs. b ≡ takes_first ws cs need in
    let some : suc i ≡ i + 1 = omega arith in
    let ws : drop i weights ≡ w ∷ drop (i + 1) weights = drop-cons weights i 0 hw ∙ ap (λ (m : ℕ). w ∷ drop m weights) some in
    let cs : drop i costs ≡ c ∷ drop (i + 1) costs = drop-cons costs i (pos 0) hc ∙ ap (λ (m : ℕ). c ∷ drop m costs) some in
    let chosen : b ≡ takes_first (w ∷ drop (i + 1) weights) (c ∷ drop (i + 1) costs) need = choices i need hw hn ∙ ap (λ (l : List ℕ). takes_first l (drop i costs) need) ws ∙ ap (λ (l : List ℤ). takes_first (w ∷ drop (i + 1) weights) l need) cs in
    let split : picks (drop i weights) (drop i costs) need ≡ b ∷ picks (drop (i + 1) weights) (drop (i + 1) costs) left =
    ap (λ (l : List ℕ). picks l (drop i costs) need) ws ∙ ap (λ (l : List ℤ). picks (w ∷ drop (i + 1) weights) l need) cs
    ∙ picks_first w c (drop (i + 1) weights) (drop (i + 1) costs) need
    ∙ ap (λ (x : Bool). x ∷ picks (drop (i + 1) weights) (drop (i + 1) costs) (cond x (need - w) need)) (sym chosen)
    ∙ ap (λ (m : ℕ). b ∷ picks (drop (i + 1) weights) (drop (i + 1) costs) m) (sym is_left) in
    ap (λ (l : List Bool). l ++ picks (drop (i + 1) weights) (drop (i + 1) costs) left) front
    ∙ append_assoc (take i pick) (b ∷ []) (picks (drop (i + 1) weights) (drop (i + 1) costs) left)
    ∙ ap (λ (l : List Bool). take i pick ++ l) (sym split) ∙ walked

picks_none : (costs : List ℤ) (need : ℕ) → picks [] costs need ≡ []
unfolding picks
picks_none costs need = refl

pub walk_ends : (weights : List ℕ) (costs : List ℤ) (pick all : List Bool) (i need : ℕ) → length weights ≤ i → length pick ≡ length weights
    → take i pick ++ picks (drop i weights) (drop i costs) need ≡ all → pick ≡ all
walk_ends weights costs pick all i need h size walked =
    let none : picks (drop i weights) (drop i costs) need ≡ [] = ap (λ (l : List ℕ). picks l (drop i costs) need) (drop_of_length-le weights h) ∙ picks_none (drop i costs) need in
    let whole : take i pick ≡ pick = take_all i pick (omega (arith, h, size)) in
    sym (append-nil pick) ∙ ap (λ (l : List Bool). l ++ []) (sym whole) ∙ ap (λ (l : List Bool). take i pick ++ l) (sym none) ∙ walked

pub cond_below : (b : Bool) (m n left places : ℕ) → left ≡ cond b m n → m < places → n < places → left < places
cond_below true m n left places e h k = omega (arith, e)
cond_below false m n left places e h k = omega (arith, e)
