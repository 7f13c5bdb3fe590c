-- What a cut makes of the task that it works on.
use Rattle.std.specs.Prelude.{ℕ, ◌^◌, nat_lt, Bool, ◌||◌, List, [], length, map, Option}
use Rattle.cgl_model.specs.declared.linear.Ineq.{Ineq}
use Rattle.cgl_model.specs.declared.mip.Model.{Model}
use Rattle.cgl_derive.specs.declared.book.Book.{Book}
use Rattle.cgl_derive.specs.declared.step.Derivation.{Derivation}
use Rattle.cgl_pool.specs.declared.kept.Kept.{Kept}
use Rattle.cgl_pool.specs.Task.{Task, listed_cuts, wide_keys}
use Rattle.cgl_deck.specs.CutNames.{cut_names}
use Rattle.cgl_deck.specs.DeckText.{deck_text}
use Rattle.cgl_deck.specs.Extended.{extended}
use Rattle.cgl_prooftext.specs.ProofText.{book_text}
use Rattle.cgl_app.specs.Report.{report_text}

abbrev pub inequality_of : Kept → Ineq
inequality_of k = k.candidate.cut

abbrev pub proof_of : Kept → Ineq × Derivation
proof_of k = (k.candidate.cut, k.candidate.derivation)

-- the listed cuts, each an inequality
abbrev pub cuts_of : Task → List Ineq
cuts_of t = map inequality_of (listed_cuts t)

-- the model with the listed cuts as further rows
abbrev pub extension : Task → Option Model
extension t = extended t.setting.model (cuts_of t)

-- each listed cut with its derivation, and nothing shared
abbrev pub book_of : Task → Book
book_of t = record { shared = []; cuts = map proof_of (listed_cuts t) }

abbrev pub proofs_of : Task → List ℕ
proofs_of t = book_text (book_of t)

abbrev pub report_of : Task → List ℕ
report_of t = report_text (cut_names t.setting.model (length (listed_cuts t))) (listed_cuts t) (wide_keys t)

-- a text of more than 2^30 bytes
abbrev pub is_too_long : List ℕ → Bool
is_too_long text = nat_lt (2 ^ 30) (length text)

-- the deck or the proofs are too long to be written
unfoldable pub is_too_large : Model → Task → Bool
is_too_large n t = is_too_long (deck_text n) || is_too_long (proofs_of t)
