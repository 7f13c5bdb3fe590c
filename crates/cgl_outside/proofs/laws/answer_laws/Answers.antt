use Rattle.cgl_outside.proofs.AnswerLaws as laws
use Rattle.cgl_outside.proofs.laws.answer_laws.Goals as goal

pub returns : goal.returns
returns c = record { answer = laws.one_answer; line = laws.one_line }
