use Rattle.std.proofs.Common.{rules, ap, flat_map, get_or, pos}
use Rattle.std.specs.Int.{w128}
use Rattle.std.specs.Int.RustNames.{FitsSigned}
use Rattle.std.proofs.lemmas.Int.{to_z-of_z}
use Rattle.std.proofs.lemmas.List.{take_all}
use Rattle.cgl_prooftext.specs.ProofText.{fields_text, terms_fields, term_fields}
use Rattle.cgl_prooftext.proofs.LongerLaws.{fields_longer, longer_as, more_fields, no_fields}
use Rattle.cgl_prooftext.proofs.field.append_terms.Goals as goal

pub loop-term-init : goal.loop-term-init
loop-term-init c = no_fields c.append_count.new.output

pub loop-term-preserved : goal.loop-term-preserved
loop-term-preserved c =
    let term = get_or c.args.terms.now c.loop-term.term-index (0, pos 0) in
    let fits : FitsSigned w128 term.1 = search rules in
    let number = rw (to_z-of_z w128 term.1 fits) at c.append_number.ensures in
    more_fields term_fields c.args.terms.now c.loop-term.term-index (0, pos 0) _ _ _ c.loop-term-test.true c.loop-term.invariant (fields_longer _ _ _ _ _ c.append_count-in-loop-term.ensures number)

pub returns : goal.returns
unfolding terms_fields
returns c =
    let all = ap (λ z. fields_text (flat_map term_fields z)) (take_all c.loop-term.term-index c.args.terms.now c.loop-term-test.false) in
    fields_longer _ _ _ _ _ c.append_count.ensures (longer_as _ _ _ _ all c.loop-term.invariant)
