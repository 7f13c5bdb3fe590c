use Rattle.std.proofs.Common.{◌∙◌, ap, sym, true, false, unwrap_or, option_map}
use Rattle.cgl_num.specs.NumberText.{is_number}
use Rattle.cgl_text.specs.Seen.{word}
use Rattle.cgl_decode.specs.Faults.{takes}
use Rattle.cgl_mps.proofs.FaultLaws.{value_taken, value_spare}
use Rattle.cgl_mps.proofs.judge.is_value_of.Goals as goal

pub returns-in-Some : goal.returns-in-Some
returns-in-Some c =
    c.is_number_text.ensures
    ∙ ap (λ value. unwrap_or (option_map is_number (option_map word value)) true) (sym c.in-Some.is)
    ∙ sym (value_spare c.args.kind _ (sym c.needs_value.ensures ∙ c.if-not-needs_value.true))

pub returns-in-None : goal.returns-in-None
returns-in-None c =
    ap (λ value. unwrap_or (option_map is_number (option_map word value)) true) (sym c.in-None.is)
    ∙ sym (value_spare c.args.kind _ (sym c.needs_value.ensures ∙ c.if-not-needs_value.true))

pub returns-in-Some-limit_of : goal.returns-in-Some-limit_of
returns-in-Some-limit_of c =
    c.takes.ensures
    ∙ ap (λ value. unwrap_or (option_map (takes c.args.kind) value) false) (sym c.in-Some-limit_of.is ∙ c.limit_of.ensures)
    ∙ sym (value_taken c.args.kind _ (sym c.needs_value.ensures ∙ c.if-not-needs_value.false))

pub returns-in-None-limit_of : goal.returns-in-None-limit_of
returns-in-None-limit_of c =
    ap (λ value. unwrap_or (option_map (takes c.args.kind) value) false) (sym c.in-None-limit_of.is ∙ c.limit_of.ensures)
    ∙ sym (value_taken c.args.kind _ (sym c.needs_value.ensures ∙ c.if-not-needs_value.false))
