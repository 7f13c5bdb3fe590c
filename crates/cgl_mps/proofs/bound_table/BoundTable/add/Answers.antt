use Rattle.std.proofs.Common.{◌≡◌, ◌∙◌, ap, ap₂, sym, true, Option, Some}
use Rattle.cgl_num.specs.NumberText.{Word}
use Rattle.cgl_decode.specs.declared.kinds.Section.TheVariants.{Bounds}
use Rattle.cgl_decode.specs.Sections.{bound_in, same_set, set_in}
use Rattle.cgl_mps.specs.Carried.{counting_set}
use Rattle.cgl_mps.specs.Tables.{BoundTable}
use Rattle.cgl_mps.proofs.BoundTableLaws.{line_counts, line_passes, line_says_none}
use Rattle.cgl_mps.proofs.bound_table.BoundTable.add.Goals as goal

pub returns-in-Some-clause-ok : goal.returns-in-Some-clause-ok
returns-in-Some-clause-ok c = λ read once are good.
    let names = c.args.names.now in
    let own : Option Word = set_in Bounds c.args.r.now in
    let first : c.add.new.self ≡ Some (counting_set read.set own) =
    c.in_ok-add.ensures.ok ∙ ap₂ (λ set word. Some (counting_set set word)) (ap (λ (table : BoundTable). table.set) c.self.view_is ∙ are.set) c.set_in-own.ensures in
    let counted : same_set (counting_set read.set own) own ≡ true =
    sym (c.counts.ensures ∙ ap₂ same_set (ap₂ counting_set first c.set_in-own.ensures) c.set_in-own.ensures) ∙ c.if-not-counts.false in
    let said : bound_in c.args.r.now.fields ≡ Some c.in-Some.bound = ap bound_in (sym c.fields.ensures) ∙ sym c.bound_in.ensures ∙ c.in-Some.is in
    line_counts names read c.args.r.now c.put.new.self c.in-Some.bound are.known (good counted c.in-Some.bound said) counted said
    (c.put.ensures.set ∙ first)
    (c.put.ensures.columns read.bounds once (good counted c.in-Some.bound said) (ap (λ (table : BoundTable). table.columns) c.self.view_is ∙ are.columns))

pub returns-in_default-clause-ok : goal.returns-in_default-clause-ok
returns-in_default-clause-ok c = λ read once are good.
    line_says_none c.args.names.now read c.args.r.now _ are.known (ap bound_in (sym c.fields.ensures) ∙ sym c.bound_in.ensures ∙ c.in_default.is)
    (c.in_ok-add.ensures.ok ∙ ap₂ (λ set word. Some (counting_set set word)) (ap (λ (table : BoundTable). table.set) c.self.view_is ∙ are.set) c.set_in-own.ensures)
    (ap (λ (table : BoundTable). table.columns) c.self.view_is ∙ are.columns)

pub returns-then-not-counts-clause-ok : goal.returns-then-not-counts-clause-ok
returns-then-not-counts-clause-ok c = λ read once are good.
    let own : Option Word = set_in Bounds c.args.r.now in
    let first : c.add.new.self ≡ Some (counting_set read.set own) =
    c.in_ok-add.ensures.ok ∙ ap₂ (λ set word. Some (counting_set set word)) (ap (λ (table : BoundTable). table.set) c.self.view_is ∙ are.set) c.set_in-own.ensures in
    line_passes c.args.names.now read c.args.r.now _ are.known
    (sym (c.counts.ensures ∙ ap₂ same_set (ap₂ counting_set first c.set_in-own.ensures) c.set_in-own.ensures) ∙ c.if-not-counts.true)
    first (ap (λ (table : BoundTable). table.columns) c.self.view_is ∙ are.columns)
