use Rattle.cgl_knap.proofs.KnownLaws.{table_of_none, table_of_one, table_of_two, twice, early, shifted}
use Rattle.cgl_knap.proofs.known.known_tables.Goals as goal

pub returns-clause-none : goal.returns-clause-none
returns-clause-none c = table_of_none

pub returns-clause-one : goal.returns-clause-one
returns-clause-one c = table_of_one

pub returns-clause-two : goal.returns-clause-two
returns-clause-two c = table_of_two

pub returns-clause-twice : goal.returns-clause-twice
returns-clause-twice c = twice

pub returns-clause-early : goal.returns-clause-early
returns-clause-early c = early

pub returns-clause-shifted : goal.returns-clause-shifted
returns-clause-shifted c = shifted
