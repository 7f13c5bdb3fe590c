use Rattle.cgl_derive.proofs.KnownBookLaws.{beyond, circular, known_plain, known_shared_book, lacking}
use Rattle.cgl_derive.proofs.known.known_books.Goals as goal

pub returns-clause-plain : goal.returns-clause-plain
returns-clause-plain c = known_plain

pub returns-clause-shared : goal.returns-clause-shared
returns-clause-shared c = known_shared_book

pub returns-clause-lacking : goal.returns-clause-lacking
returns-clause-lacking c = lacking

pub returns-clause-circular : goal.returns-clause-circular
returns-clause-circular c = circular

pub returns-clause-beyond : goal.returns-clause-beyond
returns-clause-beyond c = beyond
