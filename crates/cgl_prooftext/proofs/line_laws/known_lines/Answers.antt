use Rattle.std.proofs.Common.{refl}
use Rattle.cgl_prooftext.specs.LineResult.{line_result}
use Rattle.cgl_prooftext.proofs.line_laws.known_lines.Goals as goal

pub returns-clause-lines : goal.returns-clause-lines
unfolding line_result
returns-clause-lines c = record {
  format = refl;
  cuts = refl;
  cut = refl;
  lin = refl;
  split = refl;
  round = refl;
  knap = refl;
  shared = refl;
  «end» = refl;
}

pub returns-clause-faults : goal.returns-clause-faults
unfolding line_result
returns-clause-faults c = record {
  shared = refl;
  minus_zero = refl;
  zero = refl;
  falling = refl;
  equal = refl;
  two_spaces = refl;
  trailing_space = refl;
  leading_zero = refl;
  plus = refl;
  no_lemmas = refl;
  no_end = refl;
  empty = refl;
  cut_short = refl;
  count = refl;
  count_first = refl;
  form_first = refl;
  multiplier = refl;
  least = refl;
  reference = refl;
  form_over_size = refl;
  falling_over_size = refl;
  rising_too_large = refl;
}
