use Rattle.cgl_words.proofs.Rows.{are_asked, are_of_none}
use Rattle.cgl_words.proofs.laws.known_words.Goals as goal

pub returns-clause-asked : goal.returns-clause-asked
returns-clause-asked c = are_asked

pub returns-clause-none : goal.returns-clause-none
returns-clause-none c = are_of_none
