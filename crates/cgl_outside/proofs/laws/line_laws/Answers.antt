use Rattle.cgl_outside.proofs.HandedLaws as laws
use Rattle.cgl_outside.proofs.laws.line_laws.Goals as goal

pub returns-clause-hands_out : goal.returns-clause-hands_out
returns-clause-hands_out c = record { nothing = laws.handed_nothing; more = laws.handed_more; lines = laws.handed_lines }

pub returns-clause-numbers : goal.returns-clause-numbers
returns-clause-numbers c = record {
  front = laws.handed_front;
  line = laws.handed_line;
  too_long = laws.handed_too_long;
  over = laws.handed_over;
  whole = laws.handed_whole;
  end = laws.handed_end;
}
