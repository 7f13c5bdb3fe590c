use Rattle.cgl_prooftext.proofs.KnownText.{known_book, known_empty_book, known_text, known_round, known_knap, known_references}
use Rattle.cgl_prooftext.proofs.laws.known_texts.Goals as goal

pub returns-clause-book : goal.returns-clause-book
returns-clause-book c = known_book

pub returns-clause-empty : goal.returns-clause-empty
returns-clause-empty c = known_empty_book

pub returns-clause-proof : goal.returns-clause-proof
returns-clause-proof c = known_text

pub returns-clause-round : goal.returns-clause-round
returns-clause-round c = known_round

pub returns-clause-knap : goal.returns-clause-knap
returns-clause-knap c = known_knap

pub returns-clause-references : goal.returns-clause-references
returns-clause-references c = known_references
