use Rattle.std.proofs.Common.{ℕ, ◌^◌, List, length, ap, arith, sym}
use Rattle.std.proofs.lemmas.Bool.{le-leb, lt-leb}
use Rattle.cgl_num.specs.Decimal.{Decimal}
use Rattle.cgl_model.specs.Inequality.{Term}
use Rattle.cgl_deck.proofs.ListTurnLaws.{room_left, room_short, room_turn}
use Rattle.cgl_deck.proofs.extend.entries_fit.Goals as goal

pub loop-column-preserved : goal.loop-column-preserved
loop-column-preserved c =
    room_turn (λ v. length v.entries) c.args.columns.now c.loop-column.column-index c.column-item.result c.loop-column.left _ (2 ^ 22) (omega arith) c.column-item.is
    (ap (λ (l : List (ℕ × Decimal)). length l) c.as_slice-entries.ensures) (omega arith) c.loop-column.invariant

pub loop-cut-preserved : goal.loop-cut-preserved
loop-cut-preserved c =
    room_turn (λ v. length v.terms) c.args.cuts.now c.loop-cut.cut-index c.cut-item.result c.loop-cut.left _ c.loop-column.left (omega arith) c.cut-item.is
    (ap (λ (l : List Term). length l) c.as_slice-terms.ensures.value) (omega arith) c.loop-cut.invariant

pub returns-then-left-entries : goal.returns-then-left-entries
returns-then-left-entries c =
    let short = room_short (λ v. length v.entries) c.args.columns.now c.loop-column.column-index c.column-item.result c.loop-column.left _ (2 ^ 22) (omega arith) c.column-item.is
    (ap (λ (l : List (ℕ × Decimal)). length l) c.as_slice-entries.ensures) (omega arith) c.loop-column.invariant in
    sym (lt-leb _ _ (omega arith))

pub returns-then-left-terms : goal.returns-then-left-terms
returns-then-left-terms c =
    let rest = room_left (λ v. length v.entries) c.args.columns.now c.loop-column.column-index c.loop-column.left (2 ^ 22) (omega arith) c.loop-column.invariant in
    let short = room_short (λ v. length v.terms) c.args.cuts.now c.loop-cut.cut-index c.cut-item.result c.loop-cut.left _ c.loop-column.left (omega arith) c.cut-item.is
    (ap (λ (l : List Term). length l) c.as_slice-terms.ensures.value) (omega arith) c.loop-cut.invariant in
    sym (lt-leb _ _ (omega arith))

pub returns : goal.returns
returns c =
    let rest = room_left (λ v. length v.entries) c.args.columns.now c.loop-column.column-index c.loop-column.left (2 ^ 22) (omega arith) c.loop-column.invariant in
    let enough = room_left (λ v. length v.terms) c.args.cuts.now c.loop-cut.cut-index c.loop-cut.left c.loop-column.left (omega arith) c.loop-cut.invariant in
    sym (le-leb _ _ (omega arith))
