use Rattle.std.proofs.Common.{◌≡◌, ◌+◌, drop}
use Rattle.cgl_deck.specs.Extended.{is_known}
use Rattle.cgl_deck.proofs.ListLaws.{passing}
use Rattle.cgl_deck.proofs.extend.first_unknown.Given as goal

abbrev pub invariant-loop-k : goal.invariant-loop-k
invariant-loop-k l = passing (is_known l.model) l.cuts ≡ l.k + passing (is_known l.model) (drop l.k l.cuts)
