use Rattle.std.proofs.Common.{◌++◌, ◌∙◌, sym, ap}
use Rattle.std.specs.Prelude.{option_to_list}
use Rattle.cgl_gen.specs.declared.stamped.Stamped.{Stamped}
use Rattle.cgl_pool.specs.Listed.{kept_by, wide_by}
use Rattle.cgl_pool.proofs.MemberLaws.{filtered_more}
use Rattle.cgl_pool.proofs.gathering.parted.Goals as goal

pub answers-preserved : goal.answers-preserved
answers-preserved c =
    let stamped = c.in-Some.stamped in
    record {
      cuts = c.in_ok-add.ensures.cuts ∙ ap (λ z. z ++ option_to_list (kept_by stamped.key stamped.answer)) c.answers.invariant.cuts ∙ sym (filtered_more (λ (s : Stamped). kept_by s.key s.answer) c.answers.yielded stamped);
      wides = c.in_ok-add.ensures.wides ∙ ap (λ z. z ++ option_to_list (wide_by stamped.key stamped.answer)) c.answers.invariant.wides ∙ sym (filtered_more (λ (s : Stamped). wide_by s.key s.answer) c.answers.yielded stamped);
    }
