-- From the texts that a cut makes to what came of its work.
use Rattle.std.proofs.Common.{◌≡◌, ◌∙◌, ℕ, Bool, List, Option, Some, refl, sym, ap, subst, inl, inr}
use Rattle.cgl_deck.specs.DeckText.{deck_text}
use Rattle.cgl_model.specs.declared.mip.Model.{Model}
use Rattle.cgl_outside.specs.Script.{Came, reads_file}
use Rattle.cgl_outside.specs.ScriptLaws.{file_refused, no_memory, worked}
use Rattle.cgl_outside.specs.Shelf.{Held}
use Rattle.cgl_outside.specs.View.{View, view}
use Rattle.cgl_pool.specs.Task.{Task}
use Rattle.cgl_app.specs.declared.refusal.CutFile.{CutFile}
use Rattle.cgl_app.specs.declared.refusal.CutFile.TheVariants.{Out, Start as StartFile}
use Rattle.cgl_app.specs.declared.refusal.Refusal.{Refusal}
use Rattle.cgl_app.specs.declared.refusal.Refusal.TheVariants.{WriteFault, TooLarge, Memory, ReadFault, Input}
use Rattle.cgl_words.specs.declared.asked.Start.{Start as Source}
use Rattle.cgl_words.specs.declared.asked.Start.TheVariants.{Point as AtFile}
use Rattle.cgl_app.specs.declared.texts.CutTexts.{CutTexts}
use Rattle.cgl_app.specs.Commands.{by_extension, by_size, cut_starts, cut_works, cut_writes}
use Rattle.cgl_app.specs.CutTask.{task_at}
use Rattle.cgl_words.specs.Meant.{start_of}
use Rattle.cgl_where.specs.PointRead.{point_result}
use Rattle.cgl_app.specs.CutAnswers.{IsTooLarge}
use Rattle.cgl_app.specs.CutSteps.{AreTexts, TextsRefused}
use Rattle.cgl_app.specs.Steps.{DeckRefused}
use Rattle.cgl_words.specs.CommandLine.{CutWords, start_name}

-- a cut starts with what is read of where the columns stand
pub starts_at : (c : CutWords) (m : Model) (s : Source)
    → reads_file (ReadFault StartFile) (λ line kind. Input StartFile line kind) (start_name (start_of s)) (point_result m) (λ x. cut_works c (task_at m x)) ≡ cut_starts c m (start_of s)
starts_at c m (AtFile name) = refl

-- a view of the same files and counts of calls on them
pub same_files : (h h2 : Held) (r r2 w w2 : ℕ) (told : Option (List ℕ)) (f : ℕ) → h2 ≡ h → r2 ≡ r → w2 ≡ w → view h2 r2 w2 told f ≡ view h r w told f
same_files h h2 r r2 w w2 told f eh er ew = ap (λ x. view x r2 w2 told f) eh ∙ ap (λ x. view h x w2 told f) er ∙ ap (λ x. view h r x told f) ew

pub cut_written : (c : CutWords) (t : Task) (texts : CutTexts) (b a : View) (end : Option (Refusal CutFile)) → AreTexts t texts
    → Came Memory (cut_writes c texts.deck t) b a end → Came Memory (cut_works c t) b a end
cut_written c t texts b a end made came =
    let P : Option Model → Type 0 = λ o. Came Memory (by_extension c t o) b a end in
    let Q : Bool → Type 0 = λ s. Came Memory (by_size c texts.deck t s) b a end in
    worked Memory (by_extension c t _) b a end (subst P (sym made.extended_is) (subst Q (sym made.small) came))

too_large : (c : CutWords) (t : Task) (b a : View) (end : Option (Refusal CutFile)) → IsTooLarge t → end ≡ Some TooLarge → a ≡ b → Came Memory (cut_works c t) b a end
unfolding Came
too_large c t b a end (inl none) e same =
    let P : Option Model → Type 0 = λ o. Came Memory (by_extension c t o) b a end in
    worked Memory (by_extension c t _) b a end (subst P (sym none) (e, same))
too_large c t b a end (inr large) e same =
    let P : Option Model → Type 0 = λ o. Came Memory (by_extension c t o) b a end in
    let Q : Bool → Type 0 = λ s. Came Memory (by_size c large.0 t s) b a end in
    worked Memory (by_extension c t _) b a end (subst P (sym large.1) (subst Q (sym large.2) (e, same)))

pub texts_refused : (c : CutWords) (t : Task) (b a : View) (refusal : Refusal CutFile) → TextsRefused t refusal → a ≡ b
    → Came Memory (cut_works c t) b a (Some refusal)
texts_refused c t b a refusal (inl memory) same = no_memory Memory _ b a _ (ap (λ r. Some r) memory) same
texts_refused c t b a refusal (inr large) same = too_large c t b a _ large.1 (ap (λ r. Some r) large.0) same

-- the deck could not be written
pub deck_unwritten : (c : CutWords) (t : Task) (texts : CutTexts) (h h2 : Held) (r r2 w w2 : ℕ) (told : Option (List ℕ)) (f : ℕ) (refusal : Refusal CutFile) → AreTexts t texts
    → r2 ≡ r → DeckRefused Memory (WriteFault Out) h h2 w w2 c.out (deck_text texts.deck) refusal
    → Came Memory (cut_works c t) (view h r w told f) (view h2 r2 w2 told f) (Some refusal)
deck_unwritten c t texts h h2 r r2 w w2 told f refusal made er (inl memory) =
    no_memory Memory _ _ _ _ (ap (λ x. Some x) memory.0) (same_files h h2 r r2 w w2 told f memory.1 er memory.2)
deck_unwritten c t texts h h2 r r2 w w2 told f refusal made er (inr why) =
    cut_written c t texts _ _ _ made (file_refused _ _ _ _ _ _ _ _ _ _ _ _ _ _ _ refl er why)
