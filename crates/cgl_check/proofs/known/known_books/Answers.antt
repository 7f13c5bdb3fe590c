use Rattle.cgl_check.proofs.KnownRefusalLaws.{circular, column_beyond, cut_column_beyond, lacking, plain, second_cut, shared_first, shared_once}
use Rattle.cgl_check.proofs.known.known_books.Goals as goal

pub returns-clause-plain : goal.returns-clause-plain
returns-clause-plain c = plain

pub returns-clause-shared : goal.returns-clause-shared
returns-clause-shared c = shared_once

pub returns-clause-lacking : goal.returns-clause-lacking
returns-clause-lacking c = lacking

pub returns-clause-circular : goal.returns-clause-circular
returns-clause-circular c = circular

pub returns-clause-column : goal.returns-clause-column
returns-clause-column c = column_beyond

pub returns-clause-cut_column : goal.returns-clause-cut_column
returns-clause-cut_column c = cut_column_beyond

pub returns-clause-twice : goal.returns-clause-twice
returns-clause-twice c = shared_first

pub returns-clause-cut : goal.returns-clause-cut
returns-clause-cut c = second_cut
