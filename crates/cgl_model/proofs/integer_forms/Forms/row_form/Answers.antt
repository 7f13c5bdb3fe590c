use Rattle.std.proofs.Common.{◌∙◌, ap, refl}
use Rattle.cgl_model.specs.FormList.{FormList, form_in}
use Rattle.cgl_model.proofs.FormListLaws.{no_form}
use Rattle.cgl_model.proofs.ListLaws.{element_here}
use Rattle.cgl_model.proofs.integer_forms.Forms.row_form.Goals as goal

pub returns : goal.returns
returns c =
    let rows = c.as_slice.ensures ∙ ap (λ (f : FormList). f.rows) c.self.view_is in
    let here = c.in_ok-form.ensures.lookup in
    ap form_in (element_here _ _ c.args.row c.in_ok-form.field-0.now _ rows here.3.0 here.1 c.in-Form.is)

pub returns-in_default : goal.returns-in_default
returns-in_default c =
    let rows = c.as_slice.ensures ∙ ap (λ (f : FormList). f.rows) c.self.view_is in
    let here = c.in_ok-form.ensures.lookup in
    ap form_in (element_here _ _ c.args.row c.in_ok-form.field-0.now _ rows here.3.0 here.1 refl) ∙ no_form c.in_ok-form.field-0.now c.in_default.not-Form
