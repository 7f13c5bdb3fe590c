-- Laws of lists that std lacks.
use Rattle.std.proofs.Common.{◌≡◌, List, ℕ, suc, ◌+◌, ◌<◌, ◌≤◌, [], ◌∷◌, ◌++◌, length, get_or, drop, ap, refl, sym, ◌∙◌, Bool, true, false, ◌&&◌, not, nat_lt, cond, Some, None, inl, inr, append-nil, arith}
use Rattle.std.specs.List.{list_all, prefix_len, position}
use Rattle.std.proofs.lemmas.List.{drop_all}
use Rattle.std.proofs.lemmas.Bool.{and_parts, cases_Bool, cond-false, cond-true, le-ltb, lt-ltb}
use Rattle.cgl_deck.proofs.TurnLaws.{next_item}

pub nothing_left : {X : Type 0} (done more all : List X) → more ≡ [] → done ++ more ≡ all → done ≡ all
nothing_left done more all none h = sym (append-nil done) ∙ sym (ap (λ m. done ++ m) none) ∙ h

all_in_prefix : {X : Type 0} (p : X → Bool) (xs : List X) → length xs ≤ prefix_len (λ x. not (not (p x))) xs → list_all p xs ≡ true
all_in_prefix p [] le = refl
all_in_prefix p (x ∷ xs) le =
    elim (cases_Bool (p x)) [
      | inl e ↦
          let h : suc (length xs) ≤ 1 + prefix_len (λ y. not (not (p y))) xs = rw e at le in
          rw e (all_in_prefix p xs (omega arith))
      | inr e ↦
          let h : suc (length xs) ≤ 0 = rw e at le in
          absurd (omega arith)
    ]

-- how many items pass before the first that fails
abbrev pub passing : {X : Type 0} → (X → Bool) → List X → ℕ
passing p xs = prefix_len (λ x. not (not (p x))) xs

pub next_passes : {X : Type 0} (p : X → Bool) (xs : List X) (i : ℕ) (x : X) (b : Bool) → i < length xs → x ≡ get_or xs i x → b ≡ p x → b ≡ true
    → passing p xs ≡ i + passing p (drop i xs) → passing p xs ≡ i + 1 + passing p (drop (i + 1) xs)
next_passes p xs i x b lt is tested passes before =
    let more : passing p (x ∷ drop (i + 1) xs) ≡ 1 + passing p (drop (i + 1) xs) = ap (λ c. cond (not (not c)) (1 + passing p (drop (i + 1) xs)) 0) (sym tested ∙ passes) in
    let split : passing p (drop i xs) ≡ passing p (x ∷ drop (i + 1) xs) = ap (passing p) (next_item xs i x x lt is) in
    omega arith

-- one is found that fails
pub first_fails : {X : Type 0} (p : X → Bool) (xs : List X) (i : ℕ) (x : X) (b : Bool) → i < length xs → x ≡ get_or xs i x → b ≡ p x → b ≡ false
    → passing p xs ≡ i + passing p (drop i xs) → position (λ y. not (p y)) xs ≡ Some i
first_fails p xs i x b lt is tested fails before =
    let none : passing p (x ∷ drop (i + 1) xs) ≡ 0 = ap (λ c. cond (not (not c)) (1 + passing p (drop (i + 1) xs)) 0) (sym tested ∙ fails) in
    let split : passing p (drop i xs) ≡ passing p (x ∷ drop (i + 1) xs) = ap (passing p) (next_item xs i x x lt is) in
    let at : passing p xs ≡ i = omega arith in
    ap (λ n. cond (nat_lt n (length xs)) (Some n) None) at ∙ cond-true (nat_lt i (length xs)) (Some i) None (lt-ltb i (length xs) lt)

-- none is found that fails, so all pass
pub all_pass : {X : Type 0} (p : X → Bool) (xs : List X) (i : ℕ) → length xs ≤ i → passing p xs ≡ i + passing p (drop i xs) → list_all p xs ≡ true
all_pass p xs i le before = all_in_prefix p xs (omega arith)

whole_prefix : {X : Type 0} (p : X → Bool) (xs : List X) → list_all p xs ≡ true → length xs ≤ prefix_len (λ x. not (not (p x))) xs
whole_prefix p [] h = omega arith
whole_prefix p (x ∷ xs) h =
    let parts = and_parts (p x) (list_all p xs) h in
    let rest : length xs ≤ prefix_len (λ y. not (not (p y))) xs = whole_prefix p xs parts.1 in
    rw parts.0 (omega arith)

none_found : {X : Type 0} (p : X → Bool) (xs : List X) → list_all p xs ≡ true → position (λ x. not (p x)) xs ≡ None
none_found p xs h = cond-false (nat_lt (prefix_len (λ x. not (not (p x))) xs) (length xs)) _ _ (le-ltb _ _ (whole_prefix p xs h))

-- one is found that fails, so not all pass
pub one_fails : {X : Type 0} (p : X → Bool) (xs : List X) (k : ℕ) → position (λ x. not (p x)) xs ≡ Some k → list_all p xs ≡ false
one_fails p xs k h =
    elim (cases_Bool (list_all p xs)) [
      | inl e ↦ let none = none_found p xs e in absurd (cc)
      | inr e ↦ e
    ]

-- ---- a loop that tests each item

item_of : {X : Type 0} (p : X → Bool) (xs ys : List X) (i : ℕ) (d : X) (b : Bool) → xs ≡ ys → i < length xs → b ≡ p (get_or xs i d)
    → list_all p (drop i ys) ≡ (b && list_all p (drop (i + 1) ys))
item_of p xs ys i d b same lt is =
    let within : i < length ys = omega (arith, ap length same) in
    ap (list_all p) (next_item ys i d (get_or ys i d) within refl) ∙ ap (λ c. c && list_all p (drop (i + 1) ys)) (ap (λ l. p (get_or l i d)) (sym same) ∙ sym is)

pub pass_turn : {X : Type 0} (p : X → Bool) (xs ys : List X) (i : ℕ) (d : X) (b all : Bool) → xs ≡ ys → i < length xs → b ≡ p (get_or xs i d) → b ≡ true
    → list_all p (drop i ys) ≡ all → list_all p (drop (i + 1) ys) ≡ all
pass_turn p xs ys i d b all same lt is passes before =
    sym (ap (λ c. c && list_all p (drop (i + 1) ys)) passes) ∙ sym (item_of p xs ys i d b same lt is) ∙ before

pub pass_stopped : {X : Type 0} (p : X → Bool) (xs ys : List X) (i : ℕ) (d : X) (b all : Bool) → xs ≡ ys → i < length xs → b ≡ p (get_or xs i d) → b ≡ false
    → list_all p (drop i ys) ≡ all → all ≡ false
pass_stopped p xs ys i d b all same lt is fails before =
    sym before ∙ item_of p xs ys i d b same lt is ∙ ap (λ c. c && list_all p (drop (i + 1) ys)) fails

pub pass_ended : {X : Type 0} (p : X → Bool) (xs ys : List X) (i : ℕ) (all : Bool) → xs ≡ ys → length xs ≤ i → list_all p (drop i ys) ≡ all → all ≡ true
pass_ended p xs ys i all same le before = let beyond : length ys ≤ i = omega (arith, ap length same) in sym before ∙ ap (list_all p) (drop_all i ys beyond)
