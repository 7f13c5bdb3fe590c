-- The lines of a front, which are those of its text but for the last, and the line that the byte past the limit stands in.
use Rattle.std.proofs.Common.{◌≡◌, refl, sym, ap, ap₂, ◌∙◌, arith, ℕ, zero, suc, ◌+◌, ◌<◌, ◌==◌, nat_lt, Bool, true, false, cond, ◌&&◌, List, [], ◌∷◌, length, length-take, take}
use Rattle.std.specs.List.{onto_first}
use Rattle.std.proofs.lemmas.Bool.Decides.{nat_tests}
use Rattle.std.proofs.lemmas.List.{take_all}
use Rattle.cgl_text.specs.Text.{is_over, lines_of}

-- the lines of a front: as those of the text, but for the last one
abbrev pub SameButLast : List (List ℕ) → List (List ℕ) → Type 0
SameButLast [] others = ⊥
SameButLast (line ∷ lines) [] = ⊥
SameButLast (line ∷ []) (other ∷ others) = Unit {0}
SameButLast (line ∷ (next ∷ lines)) (other ∷ others) = (line ≡ other) × SameButLast (next ∷ lines) others

line_before : (line : List ℕ) (lines others : List (List ℕ)) → SameButLast lines others → SameButLast (line ∷ lines) (line ∷ others)
line_before line [] others same = absurd same
line_before line (next ∷ lines) others same = (refl, same)

same_onto : (b : ℕ) (lines others : List (List ℕ)) → SameButLast lines others → SameButLast (onto_first b lines) (onto_first b others)
same_onto b [] others same = absurd same
same_onto b (line ∷ lines) [] same = absurd same
same_onto b (line ∷ []) (other ∷ others) same = tt
same_onto b (line ∷ (next ∷ lines)) (other ∷ others) same = (ap (λ l. b ∷ l) same.0, same.1)

last_onto : (b : ℕ) (others : List (List ℕ)) → SameButLast ((b ∷ []) ∷ []) (onto_first b others)
last_onto b [] = tt
last_onto b (other ∷ others) = tt

last_choice : (ends : Bool) (b : ℕ) (others : List (List ℕ)) → SameButLast (cond ends ([] ∷ []) ((b ∷ []) ∷ [])) (cond ends ([] ∷ others) (onto_first b others))
last_choice true b others = tt
last_choice false b others = last_onto b others

line_choice : (ends : Bool) (b : ℕ) (lines others : List (List ℕ)) → SameButLast lines others → SameButLast (cond ends ([] ∷ lines) (onto_first b lines)) (cond ends ([] ∷ others) (onto_first b others))
line_choice true b lines others same = line_before [] lines others same
line_choice false b lines others same = same_onto b lines others same

front_lines : (k b : ℕ) (bytes : List ℕ) → SameButLast (lines_of (take (suc k) (b ∷ bytes))) (lines_of (b ∷ bytes))
front_lines zero b bytes = last_choice (b == 10) b (lines_of bytes)
front_lines (suc k) b [] = last_choice (b == 10) b []
front_lines (suc k) b (d ∷ bytes) = line_choice (b == 10) b (lines_of (take (suc k) (d ∷ bytes))) (lines_of (d ∷ bytes)) (front_lines k d bytes)

pub lines_of_front : (most : ℕ) (bytes : List ℕ) → 0 < length bytes → SameButLast (lines_of (take (most + 1) bytes)) (lines_of bytes)
lines_of_front most [] some = absurd (omega arith)
lines_of_front most (b ∷ bytes) some = let e : most + 1 ≡ suc most = omega arith in rw e (front_lines most b bytes)

-- the line with the byte past the limit

pub is_more : (n m : ℕ) → n < m → nat_lt n m ≡ true
is_more n m lt = grind (arith, nat_tests)

both : (a b : Bool) → a ≡ true → b ≡ true → (a && b) ≡ true
both true b at e = e
both false b at e = at

same_eqb : (n : ℕ) → (n == n) ≡ true
same_eqb n = grind (arith, nat_tests)

-- the front of a long text passes the limit where the text does
pub over_front : (most : ℕ) (bytes : List ℕ) (n : ℕ) → most < length bytes → is_over most (take (most + 1) bytes) n ≡ is_over most bytes n
over_front most bytes n long =
    let front = take (most + 1) bytes in
    let whole : take (most + 1) front ≡ front = take_all (most + 1) front (omega (arith, length-take (most + 1) bytes)) in
    let front_long : most < length front = omega (arith, length-take (most + 1) bytes) in
    ap₂ (λ a b. a && length (lines_of b) == n) (is_more most (length front) front_long ∙ sym (is_more most (length bytes) long)) whole

-- and in the front's last line
pub over_last : (most : ℕ) (bytes : List ℕ) → most < length bytes → is_over most bytes (length (lines_of (take (most + 1) bytes))) ≡ true
over_last most bytes long =
    let count = length (lines_of (take (most + 1) bytes)) in
    both (nat_lt most (length bytes)) (count == count) (is_more most (length bytes) long) (same_eqb count)
