use Rattle.std.proofs.Common.{true≢false}
use Rattle.cgl_text.proofs.builder.Builder.append.Goals as goal

pub returns-then-is_err : goal.returns-then-is_err
returns-then-is_err c = record { whole = λ e. absurd (true≢false e) }
