-- From what a command came to, to what a caller may rely on.
use Rattle.std.proofs.Common.{◌≡◌, ◌∙◌, ℕ, true, List, Option, Some, true≢false, refl, sym, ap, subst}
use Rattle.cgl_outside.specs.Says.{Says}
use Rattle.cgl_outside.specs.View.{View}
use Rattle.cgl_app.specs.Answered.{Answered, is_usage}
use Rattle.cgl_app.specs.Below.{Below}
use Rattle.cgl_app.specs.Commands.{cut_script, show_script}
use Rattle.cgl_app.specs.Meant.{cut_file, show_file}
use Rattle.cgl_app.specs.Ran.{Ran}
use Rattle.cgl_app.specs.Refusals.{usage_line}
use Rattle.cgl_words.specs.CommandLine.{CommandWords, CutWords, ShowWords, CutCommand, ShowCommand, command_of}
use Rattle.cgl_app.proofs.CutLaws.{completes, cut_answer, cut_came}
use Rattle.cgl_app.proofs.ShowLaws.{show_answer, show_came, show_completes}
use Rattle.cgl_app.proofs.WordLaws.{files_apart}

no_cut : (o : Option CommandWords) (c : CutWords) → is_usage o ≡ true → o ≡ Some (CutCommand c) → ⊥
no_cut o c is e = true≢false (sym is ∙ ap is_usage e)

no_show : (o : Option CommandWords) (s : ShowWords) → is_usage o ≡ true → o ≡ Some (ShowCommand s) → ⊥
no_show o s is e = true≢false (sym is ∙ ap is_usage e)

pub usage_answered : (words : List (List ℕ)) (b : View) (told now : Option (List ℕ)) (faults count : ℕ) (o : Option CommandWords) → o ≡ command_of words → is_usage o ≡ true
    → (status : ℕ) → status ≡ 2 → Says told now faults count usage_line → Answered words b b told now faults count status
usage_answered words b told now faults count o same usage status two says = let is = ap is_usage (sym same) ∙ usage in record {
  usage = λ none. record { status_is = two; tells = says; rest = refl };
  cut = λ c e. absurd (no_cut (command_of words) c is e);
  cut_completes = λ c e. absurd (no_cut (command_of words) c is e);
  show = λ s e. absurd (no_show (command_of words) s is e);
  show_completes = λ s e. absurd (no_show (command_of words) s is e);
}

one_cut : (c d : CutWords) (o : Option CommandWords) → Some (CutCommand c) ≡ o → o ≡ Some (CutCommand d) → c ≡ d
one_cut c d o e f = cc

one_show : (s r : ShowWords) (o : Option CommandWords) → Some (ShowCommand s) ≡ o → o ≡ Some (ShowCommand r) → s ≡ r
one_show s r o e f = cc

abbrev RanCut : View → View → Option (List ℕ) → Option (List ℕ) → ℕ → ℕ → ℕ → CutWords → Type 0
RanCut b a told now faults count s c = Ran (cut_file c) (cut_script c) b a told now faults count s

abbrev RanShow : View → View → Option (List ℕ) → Option (List ℕ) → ℕ → ℕ → ℕ → ShowWords → Type 0
RanShow b a told now faults count s w = Ran (show_file w) (show_script w) b a told now faults count s

pub cut_answered : Below → (words : List (List ℕ)) (d : CutWords) (b a : View) (told now : Option (List ℕ)) (faults count s : ℕ) → Some (CutCommand d) ≡ command_of words
    → RanCut b a told now faults count s d → Answered words b a told now faults count s
cut_answered below words d b a told now faults count s is ran =
    let same = λ (c : CutWords) (e : command_of words ≡ Some (CutCommand c)). subst (RanCut b a told now faults count s) (one_cut d c (command_of words) is e) ran in
    record {
      usage = λ none. absurd (no_cut (command_of words) d none (sym is));
      cut = λ c e. let r = same c e in record {
        end = r.end;
        status_is = r.status_is;
        tells = r.tells;
        answer_is = cut_answer below c b a r.end (files_apart below.names words c e) (cut_came c b a r.end r.came);
      };
      cut_completes = λ c e. let r = same c e in completes c b a r.end s r.status_is (cut_came c b a r.end r.came);
      show = λ w e. cc;
      show_completes = λ w e. cc;
    }

pub show_answered : Below → (words : List (List ℕ)) (d : ShowWords) (b a : View) (told now : Option (List ℕ)) (faults count s : ℕ) → Some (ShowCommand d) ≡ command_of words
    → RanShow b a told now faults count s d → Answered words b a told now faults count s
show_answered below words d b a told now faults count s is ran =
    let same = λ (w : ShowWords) (e : command_of words ≡ Some (ShowCommand w)). subst (RanShow b a told now faults count s) (one_show d w (command_of words) is e) ran in
    record {
      usage = λ none. absurd (no_show (command_of words) d none (sym is));
      cut = λ c e. cc;
      cut_completes = λ c e. cc;
      show = λ w e. let r = same w e in record {
        end = r.end;
        status_is = r.status_is;
        tells = r.tells;
        answer_is = show_answer below w b a r.end (show_came w b a r.end r.came);
      };
      show_completes = λ w e. let r = same w e in show_completes w b a r.end s r.status_is (show_came w b a r.end r.came);
    }
