-- Loops that measure the items of a list.
use Rattle.std.proofs.Common.{◌≡◌, List, ℕ, ◌+◌, ◌-◌, ◌<◌, ◌≤◌, length, get_or, drop, sum_by, ap, arith}
use Rattle.std.proofs.lemmas.List.{drop_all}
use Rattle.std.proofs.lemmas.List.Sums.{sum_by-drop_more}

-- what is left of the room, and what the items to come take
pub room_turn : {X : Type 0} (f : X → ℕ) (xs : List X) (i : ℕ) (x : X) (left part room : ℕ) → i < length xs → x ≡ get_or xs i x → part ≡ f x → part ≤ left
    → left + sum_by f xs ≡ room + sum_by f (drop i xs) → left - part + sum_by f xs ≡ room + sum_by f (drop (i + 1) xs)
room_turn f xs i x left part room lt is measured le before =
    let split : sum_by f (drop i xs) ≡ f (get_or xs i x) + sum_by f (drop (i + 1) xs) = sum_by-drop_more f xs i x lt in
    let here : f x ≡ f (get_or xs i x) = ap f is in
    omega arith

pub room_short : {X : Type 0} (f : X → ℕ) (xs : List X) (i : ℕ) (x : X) (left part room : ℕ) → i < length xs → x ≡ get_or xs i x → part ≡ f x → left < part
    → left + sum_by f xs ≡ room + sum_by f (drop i xs) → room < sum_by f xs
room_short f xs i x left part room lt is measured short before =
    let split : sum_by f (drop i xs) ≡ f (get_or xs i x) + sum_by f (drop (i + 1) xs) = sum_by-drop_more f xs i x lt in
    let here : f x ≡ f (get_or xs i x) = ap f is in
    omega arith

pub room_left : {X : Type 0} (f : X → ℕ) (xs : List X) (i left room : ℕ) → length xs ≤ i → left + sum_by f xs ≡ room + sum_by f (drop i xs) → left + sum_by f xs ≡ room
room_left f xs i left room le before =
    let none : sum_by f (drop i xs) ≡ 0 = ap (sum_by f) (drop_all i xs le) in
    omega arith
