use Rattle.std.proofs.Common.{◌∙◌, ap, refl, sym, subst}
use Rattle.std.proofs.lemmas.Result.{on_ok_weaker}
use Rattle.cgl_decode.specs.Records.{field}
use Rattle.cgl_decode.specs.Sections.{entry_pairs}
use Rattle.cgl_mps.specs.Carried.{ReadColumns, after_marker}
use Rattle.cgl_mps.specs.Tables.{AreColumns}
use Rattle.cgl_mps.proofs.ColumnTableLaws.{line_begins, line_goes_on, marker_line}
use Rattle.cgl_mps.proofs.StateLaws.{current_alike}
use Rattle.cgl_mps.proofs.column_table.ColumnTable.add.Goals as goal

pub returns-then-is_marker : goal.returns-then-is_marker
returns-then-is_marker c = λ rows read is says next.
    subst (λ (after : ReadColumns). AreColumns rows after c.end_current.new.self)
    (ap (after_marker read) c.field.ensures ∙ marker_line read c.args.r.now (sym c.is_marker.ensures ∙ c.if-is_marker.true))
    (c.end_current.ensures rows read is)

pub returns-then-is_current : goal.returns-then-is_current
returns-then-is_current c =
    let r = c.args.r.now in
    on_ok_weaker c.push_pairs.result
    (λ pushed rows read is says next. let plain = sym c.is_marker.ensures ∙ c.if-is_marker.false in
    line_goes_on rows read r c.args.self.now c.push_pairs.new.self c.field-name.result.now (entry_pairs r)
    plain c.field-name.ensures refl (sym (c.is_current.ensures ∙ current_alike rows read c.args.self.now c.field-name.result.now is) ∙ c.if-is_current.true)
    (λ goes at some known. pushed rows goes (entry_pairs r) at some known says) is (next plain))
    c.push_pairs.ensures

pub returns : goal.returns
returns c =
    let r = c.args.r.now in
    on_ok_weaker c.push_pairs-2.result
    (λ pushed rows read is says next. let plain = sym c.is_marker.ensures ∙ c.if-is_marker.false in
    line_begins rows read r c.args.self.now c.begin.new.self c.push_pairs-2.new.self c.field-name.result.now (entry_pairs r)
    plain c.field-name.ensures refl (sym (c.is_current.ensures ∙ current_alike rows read c.args.self.now c.field-name.result.now is) ∙ c.if-is_current.false)
    (c.in_ok-begin.ensures rows read) (λ goes at some known. pushed rows goes (entry_pairs r) at some known says) is (next plain))
    c.push_pairs-2.ensures
