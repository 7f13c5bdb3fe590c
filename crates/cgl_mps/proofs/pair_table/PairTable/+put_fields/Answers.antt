use Rattle.std.proofs.Common.{◌≡◌, ◌∙◌, ap, sym, subst, [], ◌∷◌, ◌++◌, append-nil, append_assoc, map, get_or, length, take, drop, ◌-◌}
use denote.Ref.{Bor}
use Rattle.cgl_num.specs.NumberText.{Word}
use Rattle.cgl_text.specs.Seen.{words}
use Rattle.cgl_decode.specs.Models.{value_at}
use Rattle.cgl_decode.specs.Sections.{Pair, pairs_of}
use Rattle.cgl_mps.specs.Tables.{AreKnown}
use Rattle.cgl_mps.proofs.PairTableLaws.{first_pair, known_more, no_pair}
use Rattle.cgl_mps.proofs.pair_table.PairTable.+put_fields.Goals as goal

abbrev empty : Bor Word
empty = record { ref_ptr = (0, 0); now = [] }

pub returns-in_default-clause-values : goal.returns-in_default-clause-values
returns-in_default-clause-values t c = λ pairs once known more are.
    are ∙ ap (λ ps. map (value_at ps) c.args.rows.now) (sym (ap (λ ps. pairs ++ ps) (no_pair c.args.fields.now c.in_default.len_below) ∙ append-nil pairs))

pub returns-clause-values : goal.returns-clause-values
returns-clause-values t c = λ pairs once known more are.
    let rows = c.args.rows.now in
    let fields = c.args.fields.now in
    let first : Pair = ((get_or fields 0 empty).now, (get_or fields 1 empty).now) in
    let others = pairs_of (words (take (length fields - 2) (drop 2 fields))) in
    let are_pairs : pairs_of (words fields) ≡ first ∷ others = first_pair fields empty c.in-len2-up.len_at_least in
    let all : AreKnown rows (first ∷ others) = subst (AreKnown rows) are_pairs more in
    c.put_fields.ensures.values (pairs ++ first ∷ []) once (known_more rows pairs (first ∷ []) known (all.0, tt)) all.1 (c.put.ensures.values pairs once known all.0.0 are)
    ∙ ap (λ ps. map (value_at ps) rows) (append_assoc pairs (first ∷ []) others ∙ ap (λ ps. pairs ++ ps) (sym are_pairs))
