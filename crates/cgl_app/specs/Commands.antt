-- What each command does.
use Rattle.std.specs.Prelude.{Bool, true, false, Option, Some, None}
use Rattle.cgl_model.specs.declared.mip.Model.{Model as Mip}
use Rattle.cgl_deck.specs.DeckText.{deck_text}
use Rattle.cgl_decode.specs.DeckResult.{deck_result}
use Rattle.cgl_where.specs.PointRead.{point_result}
use Rattle.cgl_outside.specs.Script.{Script, Works, Writes, Puts, Refuses, Ends, reads_file}
use Rattle.cgl_pool.specs.Task.{Task}
use Rattle.cgl_app.specs.declared.refusal.CutFile.{CutFile}
use Rattle.cgl_app.specs.declared.refusal.CutFile.TheVariants.{Model, Start, Out, Proof}
use Rattle.cgl_app.specs.declared.refusal.ShowFile.{ShowFile}
use Rattle.cgl_app.specs.declared.refusal.ShowFile.TheVariants.{Model as ShownModel, Out as ShownOut}
use Rattle.cgl_app.specs.declared.refusal.Refusal.{Refusal}
use Rattle.cgl_app.specs.declared.refusal.Refusal.TheVariants.{ReadFault, WriteFault, OutputFault, Input, TooLarge}
use Rattle.cgl_app.specs.CutOf.{extension, proofs_of, report_of, is_too_large, is_too_long}
use Rattle.cgl_app.specs.CutTask.{task_at}
use Rattle.cgl_app.specs.Report.{counts_text}
use Rattle.cgl_words.specs.CommandLine.{Start as Source, AtPoint, CutWords, ShowWords}

-- ---- cut

-- writes the deck and the proofs, and puts the report
abbrev pub cut_writes : CutWords → Mip → Task → Script (Refusal CutFile)
cut_writes c n t = Writes (WriteFault Out) c.out (deck_text n) (Writes (WriteFault Proof) c.proof (proofs_of t) (Puts OutputFault (report_of t) Ends))

abbrev pub by_size : CutWords → Mip → Task → Bool → Script (Refusal CutFile)
by_size c n t true = Refuses TooLarge
by_size c n t false = cut_writes c n t

abbrev pub by_extension : CutWords → Task → Option Mip → Script (Refusal CutFile)
by_extension c t None = Refuses TooLarge
by_extension c t (Some n) = by_size c n t (is_too_large n t)

abbrev pub cut_works : CutWords → Task → Script (Refusal CutFile)
cut_works c t = Works (by_extension c t (extension t))

-- reads where the columns stand, and goes on with the task that this makes
abbrev pub cut_starts : CutWords → Mip → Source → Script (Refusal CutFile)
cut_starts c m (AtPoint name) = reads_file (ReadFault Start) (λ line kind. Input Start line kind) name (point_result m) (λ x. cut_works c (task_at m x))

abbrev pub cut_script : CutWords → Script (Refusal CutFile)
cut_script c = reads_file (ReadFault Model) (λ line kind. Input Model line kind) c.model deck_result (λ m. cut_starts c m c.start)

-- ---- show

-- writes the deck, and puts the counts
abbrev pub show_by_size : ShowWords → Mip → Bool → Script (Refusal ShowFile)
show_by_size s m true = Refuses TooLarge
show_by_size s m false = Writes (WriteFault ShownOut) s.out (deck_text m) (Puts OutputFault (counts_text m) Ends)

abbrev pub show_works : ShowWords → Mip → Script (Refusal ShowFile)
show_works s m = Works (show_by_size s m (is_too_long (deck_text m)))

abbrev pub show_script : ShowWords → Script (Refusal ShowFile)
show_script s = reads_file (ReadFault ShownModel) (λ line kind. Input ShownModel line kind) s.model deck_result (λ m. show_works s m)
