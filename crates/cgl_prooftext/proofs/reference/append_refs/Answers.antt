use Rattle.std.proofs.Common.{rules, ap, flat_map, get_or, pos, ℤ}
use Rattle.std.specs.Int.{w128}
use Rattle.std.specs.Int.RustNames.{FitsSigned}
use Rattle.std.proofs.lemmas.Int.{to_z-of_z}
use Rattle.std.proofs.lemmas.List.{take_all}
use Rattle.cgl_model.specs.declared.places.End.TheVariants.{Lower}
use Rattle.cgl_model.specs.declared.places.Place.TheVariants.{Row}
use Rattle.cgl_derive.specs.declared.step.Ref.{Ref}
use Rattle.cgl_derive.specs.declared.step.Ref.TheVariants as by
use Rattle.cgl_prooftext.specs.ProofText.{fields_text, refs_fields, ref_fields}
use Rattle.cgl_prooftext.proofs.LongerLaws.{fields_longer, longer_as, more_fields, no_fields}
use Rattle.cgl_prooftext.proofs.reference.append_refs.Goals as goal

pub loop-part-init : goal.loop-part-init
loop-part-init c = no_fields c.append_count.new.output

pub loop-part-preserved : goal.loop-part-preserved
loop-part-preserved c =
    let none : Ref × ℤ = (by.Side (Row 0 Lower), pos 0) in
    let part = get_or c.args.refs.now c.loop-part.part-index none in
    let fits : FitsSigned w128 part.1 = search rules in
    let number = rw (to_z-of_z w128 part.1 fits) at c.append_number.ensures in
    more_fields ref_fields c.args.refs.now c.loop-part.part-index none _ _ _ c.loop-part-test.true c.loop-part.invariant (fields_longer _ _ _ _ _ c.append_ref.ensures number)

pub returns : goal.returns
unfolding refs_fields
returns c =
    let all = ap (λ z. fields_text (flat_map ref_fields z)) (take_all c.loop-part.part-index c.args.refs.now c.loop-part-test.false) in
    fields_longer _ _ _ _ _ c.append_count.ensures (longer_as _ _ _ _ all c.loop-part.invariant)
