use Rattle.std.proofs.Common.{◌≡◌, ◌≤◌, ◌∙◌, ap, sym, arith, ℕ, length, true, not, Option, None}
use Rattle.cgl_text.specs.Conditions.{first_kind}
use Rattle.cgl_where.specs.PointFile.{Record, is_kept, record_of}
use Rattle.cgl_where.specs.Carried.{FollowsLine, TakesIn, carried_conditions}
use Rattle.cgl_text.specs.Text.{kept_fields}
use Rattle.cgl_text.specs.Seen.{words}
use Rattle.cgl_where.proofs.CarriedLaws.{follows_blank, follows_long, follows_value, if_ok_both, kept_is}
use Rattle.cgl_where.proofs.carried.Carried.take_line.Goals as goal

pub returns-then-line-gt-LONGEST_LINE : goal.returns-then-line-gt-LONGEST_LINE
returns-then-line-gt-LONGEST_LINE c = λ n. follows_long c.args.columns.now (record_of n c.args.line.now) _ _ (omega arith)

pub returns-then-is_empty : goal.returns-then-is_empty
returns-then-is_empty c = λ n.
    follows_blank c.args.columns.now (record_of n c.args.line.now) _ (omega arith)
    (kept_is _ c.args.line.now n c.is_empty.result c.in-Ok.ensures c.is_empty.ensures ∙ ap not c.if-is_empty.true)

pub returns : goal.returns
returns c =
    let m = c.args.columns.now in
    let line = c.args.line.now in
    let old = c.args.self.now in
    let new = c.take_value.new.self in
    let fields = c.as_slice.result.now in
    let short : length line ≤ 4096 = omega arith in
    let K : Option ℕ → Type 0 = λ kind. (r : Record) → r.fields ≡ words fields → kind ≡ first_kind (carried_conditions m old r) in
    let T : Option ℕ → Type 0 = λ kind. (r : Record) → r.fields ≡ words fields → kind ≡ None → TakesIn m r old new in
    let F : Option ℕ → Type 0 = λ kind. (n : ℕ) → FollowsLine m (record_of n line) kind old new in
    let fields_are : kept_fields line ≡ words fields = sym (ap words c.as_slice.ensures ∙ c.in-Ok.ensures) in
    if_ok_both K T F c.take_value.result
    (λ kind is takes n.
    let r = record_of n line in
    let filled : is_kept r ≡ true =
    kept_is c.in-Ok.fields.items line n c.is_empty.result c.in-Ok.ensures c.is_empty.ensures ∙ ap not c.if-is_empty.false in
    follows_value m r kind old new short filled (is r fields_are) (takes r fields_are))
    c.take_value.ensures.kind c.take_value.ensures.taken
