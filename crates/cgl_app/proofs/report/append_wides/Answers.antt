use Rattle.std.proofs.Common.{ap, flat_map}
use Rattle.std.proofs.lemmas.List.{take_all}
use Rattle.cgl_text.specs.GrowthLaws.{grows_as, no_items}
use Rattle.cgl_app.specs.Report.{wide_line}
use Rattle.cgl_app.proofs.ReportLaws.{wide_grows}
use Rattle.cgl_app.proofs.report.append_wides.Goals as goal

pub loop-key-init : goal.loop-key-init
loop-key-init c = no_items wide_line c.args.text.now

pub loop-key-preserved : goal.loop-key-preserved
loop-key-preserved c = wide_grows c.args.wides.now c.loop-key.key-index _ _ _ _ c.loop-key-test.true c.loop-key.invariant c.append.ensures c.append_key.ensures

pub returns : goal.returns
returns c =
    grows_as _ _ _ _ (ap (flat_map wide_line) (take_all c.loop-key.key-index c.args.wides.now c.loop-key-test.false)) c.loop-key.invariant
