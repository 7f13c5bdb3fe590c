-- One reading, line by line, gives the outcome that the filters over all records say.
use Rattle.std.proofs.Common.{◌≡◌, refl, sym, ap, ap₂, ◌∙◌, arith, ℕ, ◌+◌, ◌≤◌, Bool, true, false, cond, ◌||◌, List, [], ◌∷◌, ◌++◌, append-nil, append_assoc, length, length-append, filter_map, option_map, Option, Some, None}
use Rattle.std.specs.List.{list_any, cons_option}
use Rattle.std.proofs.lemmas.List.Elements.{filter-append}
use Rattle.std.proofs.lemmas.List.Folds.{list_any-append}
use Rattle.cgl_text.specs.Text.{lines_of}
use Rattle.cgl_text.proofs.RecordLaws.{AllBelow, before-all, below-push, first-found, not_below}
use Rattle.cgl_decode.specs.declared.kinds.Section.{Section}
use Rattle.cgl_decode.specs.declared.kinds.Section.TheVariants.{Start}
use Rattle.cgl_decode.specs.Records.{Record, record_of, records_from, records, section_after, before, is_end, up_to_end, kept, is_kept}
use Rattle.cgl_decode.specs.Faults.{Limits, fault_after, fault_at}
use Rattle.cgl_decode.specs.Models.{model_of}
use Rattle.cgl_decode.specs.Decode.{Outcome, Deck, Fault, outcome}
use Rattle.cgl_decode.specs.Reading.{turn, read_from, ReadsAlike}

abbrev line_of_record : Record → ℕ
line_of_record r = r.line

none-later : (m : ℕ) (r : Record) (rs : List Record) → m ≤ r.line → before m (kept rs) ≡ [] → (k e : Bool) → before m (cond k (r ∷ kept (cond e [] rs)) (kept (cond e [] rs))) ≡ []
none-later m r rs le none true true = ap (λ c. cond c (r ∷ []) []) (not_below r.line m le)
none-later m r rs le none true false = ap (λ c. cond c (r ∷ before m (kept rs)) (before m (kept rs))) (not_below r.line m le) ∙ none
none-later m r rs le none false true = refl
none-later m r rs le none false false = none

before-later : (m n : ℕ) (section : Section) (lines : List (List ℕ)) → m ≤ n → before m (kept (up_to_end (records_from n section lines))) ≡ []
before-later m n section [] le = refl
before-later m n section (line ∷ lines) le =
    let r = record_of n (section_after section line) line in
    let others = up_to_end (records_from (n + 1) (section_after section line) lines) in
    none-later m r others le (before-later m (n + 1) (section_after section line) lines (omega arith)) (is_kept r) (is_end r)

or-true : (a b : Bool) → b ≡ true → (a || (b || false)) ≡ true
or-true true b holds = refl
or-true false b holds = ap (λ c. c || false) holds

-- one turn: at a fault, at the end of the deck, and else with what the later lines give
one-turn : (limits : Limits) (bytes : List ℕ) (all done others : List Record) (r : Record) (later : Outcome)
    → all ≡ done ++ r ∷ cond (is_end r) [] others
    → filter_map (fault_at limits bytes all) done ≡ []
    → before r.line (kept all) ≡ kept done
    → (fault_after limits bytes (kept done) r ≡ None → is_end r ≡ false → outcome (filter_map (fault_at limits bytes all) all) all ≡ later)
    → (kind : Option ℕ) → fault_after limits bytes (kept done) r ≡ kind → (ends : Bool) → is_end r ≡ ends
    → outcome (filter_map (fault_at limits bytes all) all) all ≡ turn kind r.line ends (kept done ++ kept (r ∷ [])) later
one-turn limits bytes all done others r later parts fine here goes_on (Some kind) is ends end =
    let found : fault_at limits bytes all r ≡ Some (r.line, kind) = ap (λ b. option_map (λ k. (r.line, k)) (fault_after limits bytes b r)) here ∙ ap (option_map (λ k. (r.line, k))) is in
    ap (λ f. outcome f all)
    (ap (filter_map (fault_at limits bytes all)) parts
    ∙ first-found (fault_at limits bytes all) done (cond (is_end r) [] others) r fine
    ∙ ap (λ o. cons_option o (filter_map (fault_at limits bytes all) (cond (is_end r) [] others))) found)
one-turn limits bytes all done others r later parts fine here goes_on None is true end =
    let good : fault_at limits bytes all r ≡ None = ap (λ b. option_map (λ k. (r.line, k)) (fault_after limits bytes b r)) here ∙ ap (option_map (λ k. (r.line, k))) is in
    let whole : all ≡ done ++ r ∷ [] = parts ∙ ap (λ c. done ++ r ∷ cond c [] others) end in
    let none : filter_map (fault_at limits bytes all) all ≡ [] =
    ap (filter_map (fault_at limits bytes all)) whole ∙ first-found (fault_at limits bytes all) done [] r fine ∙ ap (λ o. cons_option o []) good in
    ap (λ f. outcome f all) none
    ∙ ap (outcome []) whole
    ∙ ap (λ c. cond c (Deck (model_of (kept (done ++ r ∷ [])))) (Fault (length (done ++ r ∷ []) + 1) 10)) (list_any-append is_end done (r ∷ []) ∙ or-true (list_any is_end done) (is_end r) end)
    ∙ ap (λ l. Deck (model_of l)) (filter-append is_kept done (r ∷ []))
one-turn limits bytes all done others r later parts fine here goes_on None is false end = goes_on is end

go : (limits : Limits) (bytes : List ℕ) (all : List Record) (lines : List (List ℕ)) (n : ℕ) (section : Section) (done : List Record)
    → all ≡ done ++ up_to_end (records_from n section lines)
    → filter_map (fault_at limits bytes all) done ≡ []
    → list_any is_end done ≡ false
    → AllBelow line_of_record n done
    → n ≡ length done + 1
    → outcome (filter_map (fault_at limits bytes all) all) all ≡ read_from limits bytes n section (kept done) lines
go limits bytes all [] n section done parts fine no_end below number =
    ap (λ l. outcome (filter_map (fault_at limits bytes all) l) l) (parts ∙ append-nil done)
    ∙ ap (λ f. outcome f done) fine
    ∙ ap (λ c. cond c (Deck (model_of (kept done))) (Fault (length done + 1) 10)) no_end
    ∙ ap (λ k. Fault k 10) (sym number)
go limits bytes all (line ∷ lines) n section done parts fine no_end below number =
    let r = record_of n (section_after section line) line in
    let others = up_to_end (records_from (n + 1) (section_after section line) lines) in
    let here : before n (kept all) ≡ kept done = before-all line_of_record is_kept all n done (up_to_end (records_from n section (line ∷ lines))) parts below (before-later n n section (line ∷ lines) (omega arith)) in
    one-turn limits bytes all done others r (read_from limits bytes (n + 1) (section_after section line) (kept done ++ kept (r ∷ [])) lines) parts fine here
    (λ is end.
    let good : fault_at limits bytes all r ≡ None = ap (λ b. option_map (λ k. (r.line, k)) (fault_after limits bytes b r)) here ∙ ap (option_map (λ k. (r.line, k))) is in
    go limits bytes all lines (n + 1) (section_after section line) (done ++ r ∷ [])
    (parts ∙ ap (λ c. done ++ r ∷ cond c [] others) end ∙ sym (append_assoc done (r ∷ []) others))
    (first-found (fault_at limits bytes all) done [] r fine ∙ ap (λ o. cons_option o []) good)
    (list_any-append is_end done (r ∷ []) ∙ ap₂ (λ a b. a || (b || false)) no_end end)
    (below-push line_of_record n done r refl below)
    (omega (arith, number, length-append done (r ∷ [])))
    ∙ ap (λ l. read_from limits bytes (n + 1) (section_after section line) l lines) (filter-append is_kept done (r ∷ [])))
    (fault_after limits bytes (kept done) r) refl (is_end r) refl

pub reads_alike : ReadsAlike
reads_alike limits bytes = go limits bytes (records bytes) (lines_of bytes) 1 Start [] refl refl refl tt refl
