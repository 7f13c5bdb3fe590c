use Rattle.std.proofs.Common.{◌≡◌, ◌+◌, drop}
use Rattle.cgl_deck.specs.Extended.{is_decimal}
use Rattle.cgl_deck.proofs.ListLaws.{passing}
use Rattle.cgl_deck.proofs.extend.first_not_decimal.Given as goal

abbrev pub invariant-loop-k : goal.invariant-loop-k
invariant-loop-k l = passing is_decimal l.cuts ≡ l.k + passing is_decimal (drop l.k l.cuts)
