use Rattle.std.proofs.Common.{◌≡◌, ◌∙◌, ap, ap₂, sym, subst, ◌++◌, map, true, Option, Some}
use Rattle.cgl_num.specs.NumberText.{Word}
use Rattle.cgl_decode.specs.Models.{value_at}
use Rattle.cgl_decode.specs.Sections.{same_set, set_in}
use Rattle.cgl_mps.specs.Carried.{counting_set}
use Rattle.cgl_mps.specs.Tables.{AreKnown, PairTable}
use Rattle.cgl_mps.proofs.PairTableLaws.{line_counts, line_passes}
use Rattle.cgl_mps.proofs.pair_table.PairTable.add.Goals as goal

pub returns-then-counts-clause-ok : goal.returns-then-counts-clause-ok
returns-then-counts-clause-ok c = λ read once are good.
    let rows = c.args.rows.now in
    let own : Option Word = set_in c.args.section c.args.r.now in
    let first : c.add.new.self ≡ Some (counting_set read.set own) =
    c.in_ok-add.ensures.ok ∙ ap₂ (λ set word. Some (counting_set set word)) (ap (λ (table : PairTable). table.set) c.self.view_is ∙ are.set) c.set_in-own.ensures in
    let counted : same_set (counting_set read.set own) own ≡ true =
    sym (c.counts.ensures ∙ ap₂ same_set (ap₂ counting_set first c.set_in-own.ensures) c.set_in-own.ensures) ∙ c.if-counts.true in
    line_counts rows c.args.section read c.args.r.now c.put_fields.new.self are.known (good counted) counted
    (c.put_fields.ensures.set ∙ first)
    (c.put_fields.ensures.values read.pairs once are.known (subst (AreKnown rows) (sym c.set_fields.ensures.pairs) (good counted)) (ap (λ (table : PairTable). table.values) c.self.view_is ∙ are.values)
    ∙ ap (λ more. map (value_at (read.pairs ++ more)) rows) c.set_fields.ensures.pairs)

pub returns-else-counts-clause-ok : goal.returns-else-counts-clause-ok
returns-else-counts-clause-ok c = λ read once are good.
    let own : Option Word = set_in c.args.section c.args.r.now in
    let first : c.add.new.self ≡ Some (counting_set read.set own) =
    c.in_ok-add.ensures.ok ∙ ap₂ (λ set word. Some (counting_set set word)) (ap (λ (table : PairTable). table.set) c.self.view_is ∙ are.set) c.set_in-own.ensures in
    line_passes c.args.rows.now c.args.section read c.args.r.now _ are.known
    (sym (c.counts.ensures ∙ ap₂ same_set (ap₂ counting_set first c.set_in-own.ensures) c.set_in-own.ensures) ∙ c.if-counts.false)
    first (ap (λ (table : PairTable). table.values) c.self.view_is ∙ are.values)
