-- The first 2^30 + 1 bytes of a point file mean what the whole file means.
use Rattle.std.proofs.Common.{◌≡◌, refl, sym, ap, ◌∙◌, arith, ℕ, ◌+◌, ◌^◌, ◌<◌, nat_lt, Bool, true, false, cond, List, [], ◌∷◌, ◌++◌, length, take, Some}
use Rattle.std.proofs.lemmas.List.{take_all}
use Rattle.std.proofs.lemmas.Bool.Decides.{nat_tests}
use Rattle.cgl_text.specs.Text.{lines_of, is_over, most_bytes}
use Rattle.cgl_model.specs.declared.mip.Model.{Model}
use Rattle.cgl_text.specs.Conditions.{first_kind}
use Rattle.cgl_where.specs.PointFile.{Record, record_of, kept, is_kept, value_conditions, fault_after, point_within, point_of}
use Rattle.cgl_where.specs.Reading.{turn, read_from}
use Rattle.cgl_where.proofs.ReadingLaws.{reads_alike}
use Rattle.cgl_text.proofs.FrontLaws.{SameButLast, lines_of_front, over_front, over_last}

-- ---- the line that is over

pub fault_over : (most : ℕ) (bytes : List ℕ) (m : Model) (before : List Record) (r : Record) → is_over most bytes r.line ≡ true → fault_after most bytes m before r ≡ Some 12
unfolding fault_after
fault_over most bytes m before r over = ap (λ b. cond b (Some 12) (first_kind ((nat_lt 4096 r.bytes, 11) ∷ cond (is_kept r) (value_conditions m before r) []))) over

fault_same : (most : ℕ) (front bytes : List ℕ) (m : Model) (before : List Record) (r : Record) → is_over most front r.line ≡ is_over most bytes r.line
    → fault_after most front m before r ≡ fault_after most bytes m before r
unfolding fault_after
fault_same most front bytes m before r same = ap (λ b. cond b (Some 12) (first_kind ((nat_lt 4096 r.bytes, 11) ∷ cond (is_kept r) (value_conditions m before r) []))) same

front_reads : (most : ℕ) (front bytes : List ℕ) (m : Model) (last : ℕ) → ((n : ℕ) → is_over most front n ≡ is_over most bytes n) → is_over most bytes last ≡ true
    → (xs ys : List (List ℕ)) (n : ℕ) (before : List Record) → SameButLast xs ys → n + length xs ≡ last + 1
    → read_from most front m n before xs ≡ read_from most bytes m n before ys
front_reads most front bytes m last same over [] ys n before h count = absurd h
front_reads most front bytes m last same over (x ∷ xs) [] n before h count = absurd h
front_reads most front bytes m last same over (x ∷ []) (y ∷ ys) n before h count =
    let here : n ≡ last = omega (arith, count) in
    let at : is_over most bytes n ≡ true = ap (is_over most bytes) here ∙ over in
    ap (λ k. turn k n (read_from most front m (n + 1) (before ++ kept (record_of n x ∷ [])) [])) (fault_over most front m before (record_of n x) (same n ∙ at))
    ∙ sym (ap (λ k. turn k n (read_from most bytes m (n + 1) (before ++ kept (record_of n y ∷ [])) ys)) (fault_over most bytes m before (record_of n y) at))
front_reads most front bytes m last same over (x ∷ next ∷ xs) (y ∷ ys) n before h count =
    let r = record_of n x in
    let after = before ++ kept (r ∷ []) in
    ap (λ k. turn k n (read_from most front m (n + 1) after (next ∷ xs))) (fault_same most front bytes m before r (same n))
    ∙ ap (turn (fault_after most bytes m before r) n) (front_reads most front bytes m last same over (next ∷ xs) ys (n + 1) after h.1 (omega (arith, count)))
    ∙ ap (λ l. read_from most bytes m n before (l ∷ ys)) h.0

front_case : (most : ℕ) (bytes : List ℕ) (m : Model) (b : Bool) → nat_lt most (length bytes) ≡ b → point_within most (take (most + 1) bytes) m ≡ point_within most bytes m
front_case most bytes m true e =
    let front = take (most + 1) bytes in
    let last = length (lines_of front) in
    let lt : most < length bytes = grind (arith, nat_tests) in
    reads_alike most front m
    ∙ front_reads most front bytes m last (λ n. over_front most bytes n lt) (over_last most bytes lt) (lines_of front) (lines_of bytes) 1 [] (lines_of_front most bytes (omega (arith, lt))) (omega arith)
    ∙ sym (reads_alike most bytes m)
front_case most bytes m false e = ap (λ l. point_within most l m) (take_all (most + 1) bytes (grind (arith, nat_tests)))

pub front_within : (most : ℕ) (bytes : List ℕ) (m : Model) → point_within most (take (most + 1) bytes) m ≡ point_within most bytes m
front_within most bytes m = front_case most bytes m (nat_lt most (length bytes)) refl

pub front_means : (bytes : List ℕ) (m : Model) → point_of (take (2 ^ 30 + 1) bytes) m ≡ point_of bytes m
unfolding point_of
front_means bytes m = front_within most_bytes bytes m
