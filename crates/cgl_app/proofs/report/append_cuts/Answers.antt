use Rattle.std.proofs.Common.{arith}
use Rattle.cgl_app.proofs.ReportLaws.{line_grows, lines_grown, lines_named}
use Rattle.cgl_app.proofs.report.append_cuts.Goals as goal

pub returns : goal.returns
returns c = lines_grown _ _ _ _ _ _ c.in_default.ensures.cases c.cuts.invariant

pub cuts-init : goal.cuts-init
cuts-init c = λ end lines. lines

pub cuts-preserved : goal.cuts-preserved
cuts-preserved c =
    line_grows _ _ _ _ _ _ c.in-Some-split_first.name.now c.in-Some.kept.now _ _ _ c.in-Some-split_first.ensures.cases.0 c.in-Some.ensures.cases.0 c.cuts.invariant c.append_cut.ensures

pub returns-in_default-split_first : goal.returns-in_default-split_first
returns-in_default-split_first c = lines_named _ _ _ _ _ _ c.in_default-split_first.ensures.cases c.cuts.invariant

pub cuts-smaller : goal.cuts-smaller
cuts-smaller c = omega (arith, c.in-Some.ensures.cases)
