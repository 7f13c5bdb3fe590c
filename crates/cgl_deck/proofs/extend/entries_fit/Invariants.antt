use Rattle.std.proofs.Common.{◌≡◌, ◌+◌, ◌^◌, length, drop, sum_by}
use Rattle.cgl_deck.specs.Extended.{term_count}
use Rattle.cgl_deck.proofs.extend.entries_fit.Given as goal

abbrev pub invariant-loop-column : goal.invariant-loop-column
invariant-loop-column l = l.left + sum_by (λ c. length c.entries) l.columns ≡ 2 ^ 22 + sum_by (λ c. length c.entries) (drop l.column-index l.columns)

abbrev pub invariant-loop-cut : goal.invariant-loop-cut
invariant-loop-cut l = l.left + term_count l.cuts ≡ l.initial.left + term_count (drop l.cut-index l.cuts)
