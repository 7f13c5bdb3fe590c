use Rattle.std.proofs.Common.{◌∙◌, ap, sym}
use Rattle.cgl_model.specs.FormList.{FormList, is_wide_in}
use Rattle.cgl_model.proofs.ListLaws.{element_here, none_past}
use Rattle.cgl_model.proofs.integer_forms.Forms.wide.Goals as goal

pub returns-in-Some-Wide : goal.returns-in-Some-Wide
returns-in-Some-Wide c =
    let rows = c.as_slice.ensures ∙ ap (λ (f : FormList). f.rows) c.self.view_is in
    let here = c.in-Some-Wide.ensures.lookup in
    ap is_wide_in (sym (element_here _ _ c.args.row c.in-Some-Wide.field-0.now _ rows here.3.0 here.1 c.in-Some-Wide.field-0-is))

pub returns-in-Some-Free : goal.returns-in-Some-Free
returns-in-Some-Free c =
    let rows = c.as_slice.ensures ∙ ap (λ (f : FormList). f.rows) c.self.view_is in
    let here = c.in-Some-Free.ensures.lookup in
    ap is_wide_in (sym (element_here _ _ c.args.row c.in-Some-Free.field-0.now _ rows here.3.0 here.1 c.in-Some-Free.field-0-is))

pub returns-in-Some-Form : goal.returns-in-Some-Form
returns-in-Some-Form c =
    let rows = c.as_slice.ensures ∙ ap (λ (f : FormList). f.rows) c.self.view_is in
    let here = c.in-Some-Form.ensures.lookup in
    ap is_wide_in (sym (element_here _ _ c.args.row c.in-Some-Form.field-0.now _ rows here.3.0 here.1 c.in-Some-Form.field-0-is))

pub returns-in-None : goal.returns-in-None
returns-in-None c =
    let rows = c.as_slice.ensures ∙ ap (λ (f : FormList). f.rows) c.self.view_is in
    ap is_wide_in (sym (none_past _ _ c.args.row rows c.in-None.ensures.lookup.3))
