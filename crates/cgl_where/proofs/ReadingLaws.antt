-- One reading, line by line, gives the outcome that the filters over all records say.
use Rattle.std.proofs.Common.{◌≡◌, refl, sym, ap, ◌∙◌, arith, ℕ, ◌+◌, ◌≤◌, nat_lt, Bool, true, false, cond, List, [], ◌∷◌, ◌++◌, append-nil, append_assoc, filter_map, option_map, Option, Some, None}
use Rattle.std.specs.List.{cons_option}
use Rattle.std.proofs.lemmas.List.Elements.{filter-append}
use Rattle.cgl_text.specs.Text.{lines_of, is_over, most_bytes}
use Rattle.cgl_model.specs.declared.mip.Model.{Model}
use Rattle.cgl_text.specs.Conditions.{first_kind}
use Rattle.cgl_where.specs.PointFile.{Record, record_of, records_from, records, before, kept, is_kept, values, is_too_fine, value_conditions, fault_after, fault_at, Outcome, outcome}
use Rattle.cgl_where.specs.Reading.{turn, read_from, ReadsAlike}
use Rattle.cgl_text.proofs.RecordLaws.{AllBelow, before-all, below-push, first-found, not_below}

-- ---- the records before a line

abbrev line_of_record : Record → ℕ
line_of_record r = r.line

none-later : (m : ℕ) (r : Record) (rs : List Record) → m ≤ r.line → before m (kept rs) ≡ [] → (k : Bool) → before m (cond k (r ∷ kept rs) (kept rs)) ≡ []
none-later m r rs le none true = ap (λ c. cond c (r ∷ before m (kept rs)) (before m (kept rs))) (not_below r.line m le) ∙ none
none-later m r rs le none false = none

before-later : (m n : ℕ) (lines : List (List ℕ)) → m ≤ n → before m (kept (records_from n lines)) ≡ []
before-later m n [] le = refl
before-later m n (line ∷ lines) le =
    none-later m (record_of n line) (records_from (n + 1) lines) le (before-later m (n + 1) lines (omega arith)) (is_kept (record_of n line))

-- ---- one line after another

-- one turn: at a fault, and else with what the later lines give
one-turn : (most : ℕ) (bytes : List ℕ) (m : Model) (all done others : List Record) (r : Record) (later : Outcome)
    → all ≡ done ++ r ∷ others
    → filter_map (fault_at most bytes m all) done ≡ []
    → before r.line (kept all) ≡ kept done
    → (fault_after most bytes m (kept done) r ≡ None → outcome m (filter_map (fault_at most bytes m all) all) all ≡ later)
    → (kind : Option ℕ) → fault_after most bytes m (kept done) r ≡ kind
    → outcome m (filter_map (fault_at most bytes m all) all) all ≡ turn kind r.line later
one-turn most bytes m all done others r later parts fine here goes_on (Some kind) is =
    let found : fault_at most bytes m all r ≡ Some (r.line, kind) = ap (λ b. option_map (λ k. (r.line, k)) (fault_after most bytes m b r)) here ∙ ap (option_map (λ k. (r.line, k))) is in
    ap (λ f. outcome m f all)
    (ap (filter_map (fault_at most bytes m all)) parts
    ∙ first-found (fault_at most bytes m all) done others r fine
    ∙ ap (λ o. cons_option o (filter_map (fault_at most bytes m all) others)) found)
one-turn most bytes m all done others r later parts fine here goes_on None is = goes_on is

go : (most : ℕ) (bytes : List ℕ) (m : Model) (all : List Record) (lines : List (List ℕ)) (n : ℕ) (done : List Record)
    → all ≡ done ++ records_from n lines
    → filter_map (fault_at most bytes m all) done ≡ []
    → AllBelow line_of_record n done
    → outcome m (filter_map (fault_at most bytes m all) all) all ≡ read_from most bytes m n (kept done) lines
go most bytes m all [] n done parts fine below =
    ap (λ l. outcome m (filter_map (fault_at most bytes m all) l) l) (parts ∙ append-nil done)
    ∙ ap (λ f. outcome m f done) fine
go most bytes m all (line ∷ lines) n done parts fine below =
    let r = record_of n line in
    let others = records_from (n + 1) lines in
    let here : before n (kept all) ≡ kept done = before-all line_of_record is_kept all n done (records_from n (line ∷ lines)) parts below (before-later n n (line ∷ lines) (omega arith)) in
    one-turn most bytes m all done others r (read_from most bytes m (n + 1) (kept done ++ kept (r ∷ [])) lines) parts fine here
    (λ is.
    let good : fault_at most bytes m all r ≡ None = ap (λ b. option_map (λ k. (r.line, k)) (fault_after most bytes m b r)) here ∙ ap (option_map (λ k. (r.line, k))) is in
    go most bytes m all lines (n + 1) (done ++ r ∷ [])
    (parts ∙ sym (append_assoc done (r ∷ []) others))
    (first-found (fault_at most bytes m all) done [] r fine ∙ ap (λ o. cons_option o []) good)
    (below-push line_of_record n done r refl below)
    ∙ ap (λ l. read_from most bytes m (n + 1) l lines) (filter-append is_kept done (r ∷ [])))
    (fault_after most bytes m (kept done) r) refl

pub reads_alike : ReadsAlike
reads_alike most bytes m = go most bytes m (records bytes) (lines_of bytes) 1 [] refl refl tt

-- ---- a line without fault

pub test_off : (b : Bool) (kind : ℕ) (o : Option ℕ) → cond b (Some kind) o ≡ None → b ≡ false
test_off true kind o e = cc
test_off false kind o e = refl

pub test_passed : (b : Bool) (kind : ℕ) (o : Option ℕ) → cond b (Some kind) o ≡ None → o ≡ None
test_passed true kind o e = cc
test_passed false kind o e = e

fine_case : (m : Model) (before : List Record) (r : Record) → is_too_fine (values before) ≡ false → (k : Bool) → first_kind (cond k (value_conditions m before r) []) ≡ None → is_too_fine (values (before ++ cond k (r ∷ []) [])) ≡ false
fine_case m before r so_far true e = test_off _ 13 _ (test_passed _ 4 _ (test_passed _ 14 _ (test_passed _ 6 _ (test_passed _ 3 _ e))))
fine_case m before r so_far false e = ap (λ l. is_too_fine (values l)) (append-nil before) ∙ so_far

pub fine_after : (bytes : List ℕ) (m : Model) (before : List Record) (r : Record) → fault_after most_bytes bytes m before r ≡ None → is_too_fine (values before) ≡ false → is_too_fine (values (before ++ kept (r ∷ []))) ≡ false
unfolding fault_after
fine_after bytes m before r e so_far =
    fine_case m before r so_far (is_kept r) (test_passed (nat_lt 4096 r.bytes) 11 _ (test_passed (is_over most_bytes bytes r.line) 12 _ e))
