use Rattle.cgl_num.proofs.ReadBackLaws.{number-of-text, bound-of-text, length-of-text, bytes-of-text, some-of-text}
use Rattle.cgl_num.proofs.laws_decimal.read_back_laws.Goals as goal

pub returns-clause-number : goal.returns-clause-number
returns-clause-number c = number-of-text

pub returns-clause-bound : goal.returns-clause-bound
returns-clause-bound c = bound-of-text

pub returns-clause-length : goal.returns-clause-length
returns-clause-length c = length-of-text

pub returns-clause-bytes : goal.returns-clause-bytes
returns-clause-bytes c = bytes-of-text

pub returns-clause-some : goal.returns-clause-some
returns-clause-some c = some-of-text
