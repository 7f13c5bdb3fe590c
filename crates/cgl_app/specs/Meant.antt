-- The name of each file of a command.
use Rattle.std.specs.Prelude.{ℕ, List}
use Rattle.cgl_app.specs.declared.refusal.CutFile.{CutFile}
use Rattle.cgl_app.specs.declared.refusal.CutFile.TheVariants.{Model, Start as StartFile, Out, Proof}
use Rattle.cgl_app.specs.declared.refusal.ShowFile.{ShowFile}
use Rattle.cgl_app.specs.declared.refusal.ShowFile.TheVariants.{Model as ShownModel, Out as ShownOut}
use Rattle.cgl_words.specs.CommandLine.{CutWords, ShowWords, start_name}

abbrev pub cut_file : CutWords → CutFile → List ℕ
cut_file c Model = c.model
cut_file c StartFile = start_name c.start
cut_file c Out = c.out
cut_file c Proof = c.proof

abbrev pub show_file : ShowWords → ShowFile → List ℕ
show_file s ShownModel = s.model
show_file s ShownOut = s.out
