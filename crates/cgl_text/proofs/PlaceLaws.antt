-- The first place of a name, where a name comes in behind.
use Rattle.std.proofs.Common.{◌≡◌, ℕ, ◌+◌, Bool, true, false, cond, List, [], ◌∷◌, ◌++◌, Option, Some, None, is_some, length, refl, sym, ap, ◌∙◌, true≢false, position, bytes_eq, arith}
use Rattle.std.specs.List.{position_from}
use Rattle.std.specs.Cmp.Lexicographic.{bytes_decides}
use Rattle.std.proofs.lemmas.Iterator.Adapters.{position_from-zero}
use Rattle.cgl_num.specs.NumberText.{Word}

-- the place found, or the one behind
abbrev pub or_behind : Option ℕ → Bool → ℕ → Option ℕ
or_behind (Some i) here n = Some i
or_behind None here n = cond here (Some n) None

behind_case : (b : Bool) (m : ℕ) (later : Option ℕ) (here : Bool) (n : ℕ) → cond b (Some m) (or_behind later here n) ≡ or_behind (cond b (Some m) later) here n
behind_case true m later here n = refl
behind_case false m later here n = refl

last_case : (b : Bool) (n m : ℕ) → n ≡ m → cond b (Some n) None ≡ or_behind None b m
last_case true n m e = ap Some e
last_case false n m e = refl

push_from : {X : Type 0} (p : X → Bool) (n : ℕ) (xs : List X) (x : X) → position_from p n (xs ++ x ∷ []) ≡ or_behind (position_from p n xs) (p x) (n + length xs)
push_from p n [] x = last_case (p x) n (n + 0) (omega arith)
push_from p n (y ∷ ys) x =
    let later = push_from p (n + 1) ys x in
    let e : (n + 1) + length ys ≡ n + length (y ∷ ys) = omega arith in
    ap (λ r. cond (p y) (Some n) r) (later ∙ ap (λ m. or_behind (position_from p (n + 1) ys) (p x) m) e) ∙ behind_case (p y) n (position_from p (n + 1) ys) (p x) (n + length (y ∷ ys))

pub position_push : {X : Type 0} (p : X → Bool) (xs : List X) (x : X) → position p (xs ++ x ∷ []) ≡ or_behind (position p xs) (p x) (length xs)
position_push p xs x =
    let e : 0 + length xs ≡ length xs = omega arith in
    position_from-zero p (xs ++ x ∷ []) ∙ push_from p 0 xs x ∙ ap (λ m. or_behind (position_from p 0 xs) (p x) m) e ∙ ap (λ r. or_behind r (p x) (length xs)) (sym (position_from-zero p xs))

-- a name that is there: every name keeps its first place
pub place_stays : (names : List Word) (name word : Word) → is_some (position (bytes_eq name) names) ≡ true → position (bytes_eq word) (names ++ name ∷ []) ≡ position (bytes_eq word) names
place_stays names name word there = position_push (bytes_eq word) names name ∙ by (bytes_eq word name) refl (position (bytes_eq word) names) refl
  where
    by : (b : Bool) → bytes_eq word name ≡ b → (r : Option ℕ) → position (bytes_eq word) names ≡ r → or_behind r b (length names) ≡ r
    by b e (Some i) r = refl
    by false e None r = refl
    by true e None r =
        let same : word ≡ name = (bytes_decides word name).0 e in
        absurd (true≢false (sym there ∙ ap (λ w. is_some (position (bytes_eq w) names)) (sym same) ∙ ap is_some r))

-- a name that is new: it gets the place behind, and every other name keeps its own
pub place_comes : (names : List Word) (name word : Word) → is_some (position (bytes_eq name) names) ≡ false → cond (bytes_eq name word) (Some (length names)) (position (bytes_eq word) names) ≡ position (bytes_eq word) (names ++ name ∷ [])
place_comes names name word absent = sym (position_push (bytes_eq word) names name ∙ by (bytes_eq name word) refl (bytes_eq word name) refl (position (bytes_eq word) names) refl)
  where
    by : (b : Bool) → bytes_eq name word ≡ b → (c : Bool) → bytes_eq word name ≡ c → (r : Option ℕ) → position (bytes_eq word) names ≡ r → or_behind r c (length names) ≡ cond b (Some (length names)) r
    by true e c f (Some i) r =
        let same : name ≡ word = (bytes_decides name word).0 e in
        absurd (true≢false (sym (ap (λ w. is_some (position (bytes_eq w) names)) same ∙ ap is_some r) ∙ absent))
    by true e true f None r = refl
    by true e false f None r =
        let same : name ≡ word = (bytes_decides name word).0 e in
        absurd (true≢false (sym ((bytes_decides word name).1 (sym same)) ∙ f))
    by false e c f (Some i) r = refl
    by false e false f None r = refl
    by false e true f None r =
        let same : word ≡ name = (bytes_decides word name).0 f in
        absurd (true≢false (sym ((bytes_decides name word).1 (sym same)) ∙ e))
