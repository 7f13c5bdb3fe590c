-- What a caller of the program may rely on.
use Rattle.std.specs.Prelude.{◌≡◌, ℕ, Bool, true, false, List, Option, Some, None}
use Rattle.cgl_outside.specs.Says.{Says}
use Rattle.cgl_outside.specs.View.{View}
use Rattle.cgl_app.specs.declared.refusal.Refusal.{Refusal}
use Rattle.cgl_app.specs.CutAnswers.{CutAnswer, CutCompletes}
use Rattle.cgl_app.specs.Meant.{cut_file, show_file}
use Rattle.cgl_app.specs.Refusals.{Tells, status_of, usage_line}
use Rattle.cgl_app.specs.ShowAnswers.{ShowAnswer, ShowCompletes}
use Rattle.cgl_words.specs.CommandLine.{CutWords, ShowWords, CommandWords, CutCommand, CheckCommand, ShowCommand, UpgradeCommand, command_of}

-- how a command ended, given the names of its files and what stands by how it ended; the status and the line on `err` are that end's
pub record Ended {F : Type 0} (name : F → List ℕ) (answer : Option (Refusal F) → Type 0) (told now : Option (List ℕ)) (faults count status : ℕ) : Type 0 where
  pub end : Option (Refusal F)
  pub status_is : status ≡ status_of end
  pub tells : Tells name told now faults count end
  pub answer_is : answer end

-- the words are of no command, or of one that is not done yet
abbrev pub is_usage : Option CommandWords → Bool
is_usage None = true
is_usage (Some (CutCommand c)) = false
is_usage (Some (CheckCommand c)) = true
is_usage (Some (ShowCommand s)) = false
is_usage (Some (UpgradeCommand u)) = true

-- so nothing is done
pub record IsUsage (before after : View) (told now : Option (List ℕ)) (faults count status : ℕ) : Type 0 where
  pub status_is : status ≡ 2
  pub tells : Says told now faults count usage_line
  pub rest : after ≡ before

pub record Answered (words : List (List ℕ)) (before after : View) (told now : Option (List ℕ)) (faults count status : ℕ) : Type 0 where
  pub usage : is_usage (command_of words) ≡ true → IsUsage before after told now faults count status
  pub cut : (c : CutWords) → command_of words ≡ Some (CutCommand c) → Ended (cut_file c) (CutAnswer c before after) told now faults count status
  pub cut_completes : (c : CutWords) → command_of words ≡ Some (CutCommand c) → CutCompletes c before after status
  pub show : (s : ShowWords) → command_of words ≡ Some (ShowCommand s) → Ended (show_file s) (ShowAnswer s before after) told now faults count status
  pub show_completes : (s : ShowWords) → command_of words ≡ Some (ShowCommand s) → ShowCompletes s before after status
