use Rattle.cgl_deck.proofs.ExtensionLaws.{not_decimal_refused, too_many_refused, unknown_refused}
use Rattle.cgl_deck.proofs.laws.refusal_laws.Goals as goal

pub returns : goal.returns
returns c = record {
  unknown = unknown_refused;
  not_decimal = not_decimal_refused;
  too_many = too_many_refused;
}
