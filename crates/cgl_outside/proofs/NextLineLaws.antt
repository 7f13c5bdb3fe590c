-- A line behind the lines of a text, and the line that the first byte past a limit stands in.
use Rattle.std.proofs.Common.{◌≡◌, ◌≢◌, ◌<◌, ◌≤◌, ◌+◌, ◌-◌, ◌==◌, nat_lt, ℕ, zero, suc, Bool, true, false, cond, ◌&&◌, List, [], ◌∷◌, ◌++◌, append-nil, append_assoc, length, take, eqb, refl, sym, ap, ◌∙◌, subst, arith, length-append, length-take}
use Rattle.std.proofs.lemmas.Bool.Decides.{nat_tests}
use Rattle.std.proofs.Math.Seq.{take-append-add}
use Rattle.std.specs.List.{onto_first}
use Rattle.cgl_text.specs.Text.{is_over, lines_of}
use Rattle.cgl_text.proofs.TextLaws.{last_line}
use Rattle.cgl_outside.specs.Line.{HasNoEnd, written}

not_ten : (n : ℕ) → n ≢ 10 → eqb n 10 ≡ false
not_ten n ne = grind (arith, nat_tests)

-- the lines of a line and what follows it

ended_line : (line rest : List ℕ) → HasNoEnd line (length line) → lines_of ((line ++ 10 ∷ []) ++ rest) ≡ line ∷ lines_of rest
ended_line [] rest clean = refl
ended_line (b ∷ line) rest clean =
    let more = lines_of ((line ++ 10 ∷ []) ++ rest) in
    ap (λ c. cond c ([] ∷ more) (onto_first b more)) (not_ten b (clean 0 (omega arith)))
    ∙ ap (onto_first b) (ended_line line rest (λ k l. clean (suc k) (omega arith)))

-- a line that stands next behind a text, and what follows it
pub record StandsNext (line : List ℕ) (has_lf : Bool) (rest : List ℕ) : Type 0 where
  pub clean : HasNoEnd line (length line)
  pub some : 0 < length (written line has_lf)
  pub last : has_lf ≡ false → rest ≡ []

pub lines_next : (line : List ℕ) (has_lf : Bool) (rest : List ℕ) → StandsNext line has_lf rest → lines_of (written line has_lf ++ rest) ≡ line ∷ lines_of rest
lines_next line true rest next = ended_line line rest next.clean
lines_next line false rest next =
    let none = next.last refl in
    let bare : written line false ≡ line = append-nil line in
    ap (λ r. lines_of (written line false ++ r)) none
    ∙ ap lines_of (append-nil (written line false) ∙ bare)
    ∙ last_line line (length line) (subst (λ l. 0 < length l) bare next.some) (omega arith) next.clean
    ∙ sym (ap (λ r. line ∷ lines_of r) none)

-- how many lines a text has

some_lines : (ends : Bool) (b : ℕ) (lines : List (List ℕ)) → 0 < length (cond ends ([] ∷ lines) (onto_first b lines))
some_lines true b lines = omega arith
some_lines false b [] = omega arith
some_lines false b (line ∷ lines) = omega arith

pub some_line : (bytes : List ℕ) → 0 < length bytes → 0 < length (lines_of bytes)
some_line [] some = absurd (omega arith)
some_line (b ∷ bytes) some = some_lines (b == 10) b (lines_of bytes)

one_of_one : (b : ℕ) (ends : Bool) → length (cond ends ([] ∷ []) (onto_first b [])) ≡ 1
one_of_one b true = refl
one_of_one b false = refl

onto_one : (b : ℕ) (lines : List (List ℕ)) → length lines ≡ 1 → length (onto_first b lines) ≡ 1
onto_one b [] one = absurd (omega (arith, one))
onto_one b (line ∷ lines) one = one

one_line : (n : ℕ) (bytes : List ℕ) → n < length bytes → HasNoEnd bytes n → length (lines_of (take (suc n) bytes)) ≡ 1
one_line n [] below none = absurd (omega arith)
one_line zero (b ∷ bytes) below none = one_of_one b (b == 10)
one_line (suc n) (b ∷ bytes) below none =
    let more = lines_of (take (suc n) bytes) in
    ap (λ c. length (cond c ([] ∷ more) (onto_first b more))) (not_ten b (none 0 (omega arith)))
    ∙ onto_one b more (one_line n bytes (omega arith) (λ k l. none (suc k) (omega arith)))

-- the line that the first byte past a limit stands in

-- a text has so many lines, and what goes on from it has its own
abbrev pub Counted : List ℕ → ℕ → Type 0
Counted text number = (rest : List ℕ) → length (lines_of (text ++ rest)) ≡ number + length (lines_of rest)

other_number : (a b : ℕ) → b < a → (a == b) ≡ false
other_number a b below = grind (arith, nat_tests)

not_both : (a b : Bool) → (a ≡ true → b ≡ false) → (a && b) ≡ false
not_both true b e = e refl
not_both false b e = refl

both : (a b : Bool) → a ≡ true → b ≡ true → (a && b) ≡ true
both true b first second = second
both false b first second = first

is_above : (n m : ℕ) → n < m → nat_lt n m ≡ true
is_above n m below = grind (arith, nat_tests)

above_is : (n m : ℕ) → nat_lt n m ≡ true → n < m
above_is n m is = grind (arith, nat_tests)

same_number : (a b : ℕ) → a ≡ b → (a == b) ≡ true
same_number a b same = grind (arith, nat_tests)

front_of : (most : ℕ) (text rest : List ℕ) → length text ≤ most → take (most + 1) (text ++ rest) ≡ text ++ take (suc (most - length text)) rest
front_of most text rest within =
    let e : most + 1 ≡ length text + suc (most - length text) = omega (arith, within) in
    ap (λ n. take n (text ++ rest)) e ∙ take-append-add text rest (suc (most - length text))

-- no line that ends within the limit
pub not_over : (most : ℕ) (text line : List ℕ) (has_lf : Bool) (rest : List ℕ) (number : ℕ)
    → Counted text number → StandsNext line has_lf rest → length text + length (written line has_lf) ≤ most
    → is_over most (text ++ (written line has_lf ++ rest)) (number + 1) ≡ false
not_over most text line has_lf rest number counted next within =
    let w = written line has_lf in
    let whole = text ++ (w ++ rest) in
    let front = take (suc (most - length (text ++ w))) rest in
    not_both (nat_lt most (length whole)) (length (lines_of (take (most + 1) whole)) == number + 1)
    (λ long.
    let longer = above_is most (length whole) long in
    let size : length (text ++ w) ≡ length text + length w = length-append text w in
    let parts : whole ≡ (text ++ w) ++ rest = sym (append_assoc text w rest) in
    let sizes = length-append (text ++ w) rest in
    let total : length whole ≡ length ((text ++ w) ++ rest) = ap length parts in
    let is : take (most + 1) whole ≡ text ++ (w ++ front) =
    ap (take (most + 1)) parts ∙ front_of most (text ++ w) rest (omega (arith, size, within)) ∙ append_assoc text w front in
    let last : has_lf ≡ false → front ≡ [] = λ bare. ap (take (suc (most - length (text ++ w)))) (next.last bare) in
    let goes_on : StandsNext line has_lf front = record { clean = next.clean; some = next.some; last = last } in
    let taken = length-take (suc (most - length (text ++ w))) rest in
    let some = some_line front (omega (arith, taken, longer, total, sizes, size, within)) in
    let count : length (lines_of (take (most + 1) whole)) ≡ number + length (line ∷ lines_of front) =
    ap (λ l. length (lines_of l)) is ∙ counted (w ++ front) ∙ ap (λ l. number + length l) (lines_next line has_lf front goes_on) in
    other_number (length (lines_of (take (most + 1) whole))) (number + 1) (omega (arith, count, some)))

-- the next line, if the limit is reached before an LF
pub over_next : (most : ℕ) (text rest : List ℕ) (number : ℕ)
    → Counted text number → length text ≤ most → most - length text < length rest → HasNoEnd rest (most - length text)
    → is_over most (text ++ rest) (number + 1) ≡ true
over_next most text rest number counted within there none =
    let whole = text ++ rest in
    let sizes = length-append text rest in
    let is = front_of most text rest within in
    let count : length (lines_of (take (most + 1) whole)) ≡ number + 1 =
    ap (λ l. length (lines_of l)) is ∙ counted (take (suc (most - length text)) rest) ∙ ap (λ n. number + n) (one_line (most - length text) rest there none) in
    both (nat_lt most (length whole)) (length (lines_of (take (most + 1) whole)) == number + 1)
    (is_above most (length whole) (omega (arith, sizes, there, within)))
    (same_number (length (lines_of (take (most + 1) whole))) (number + 1) count)

-- a line has no LF

clean_onto : (b : ℕ) (line : List ℕ) → b ≢ 10 → HasNoEnd line (length line) → HasNoEnd (b ∷ line) (length (b ∷ line))
clean_onto b line ne clean zero below = ne
clean_onto b line ne clean (suc k) below = clean k (omega arith)

clean_empty : HasNoEnd [] (length {A = ℕ} [])
clean_empty k below = absurd (omega (arith, below))

not_end : (b : ℕ) → (b == 10) ≡ false → b ≢ 10
not_end b is = grind (arith, nat_tests)

clean_by : (ends : Bool) (b : ℕ) (more : List (List ℕ)) (line : List ℕ) (later : List (List ℕ)) → (b == 10) ≡ ends
    → ((l : List ℕ) (others : List (List ℕ)) → more ≡ l ∷ others → HasNoEnd l (length l))
    → cond ends ([] ∷ more) (onto_first b more) ≡ line ∷ later → HasNoEnd line (length line)
clean_by true b more line later ends so_far is = let same : [] ≡ line = cc in subst (λ l. HasNoEnd l (length l)) same clean_empty
clean_by false b [] line later ends so_far is = let same : (b ∷ []) ≡ line = cc in subst (λ l. HasNoEnd l (length l)) same (clean_onto b [] (not_end b ends) clean_empty)
clean_by false b (l ∷ others) line later ends so_far is =
    let same : (b ∷ l) ≡ line = cc in subst (λ l. HasNoEnd l (length l)) same (clean_onto b l (not_end b ends) (so_far l others refl))

pub first_is_clean : (bytes line : List ℕ) (later : List (List ℕ)) → lines_of bytes ≡ line ∷ later → HasNoEnd line (length line)
first_is_clean [] line later is = cc
first_is_clean (b ∷ bytes) line later is = clean_by (b == 10) b (lines_of bytes) line later refl (λ l others e. first_is_clean bytes l others e) is
