use Rattle.cgl_decode.proofs.DeckResultLaws.{results_are_models}
use Rattle.cgl_decode.proofs.laws.deck_results.Goals as goal

pub returns-clause-models : goal.returns-clause-models
returns-clause-models c = results_are_models
