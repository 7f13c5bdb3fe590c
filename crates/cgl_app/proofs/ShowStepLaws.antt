-- From the counts that a show makes to what came of its work.
use Rattle.std.proofs.Common.{◌≡◌, ◌⊎◌, ℕ, Bool, true, false, List, Option, Some, refl, sym, ap, subst, inl, inr}
use Rattle.cgl_model.specs.declared.mip.Model.{Model}
use Rattle.cgl_deck.specs.DeckText.{deck_text}
use Rattle.cgl_outside.specs.Script.{Came, Writes, Puts, Ends}
use Rattle.cgl_outside.specs.ScriptLaws.{file_refused, no_memory, worked}
use Rattle.cgl_outside.specs.Shelf.{Held}
use Rattle.cgl_outside.specs.View.{View, view}
use Rattle.cgl_app.specs.declared.refusal.ShowFile.{ShowFile}
use Rattle.cgl_app.specs.declared.refusal.ShowFile.TheVariants.{Out}
use Rattle.cgl_app.specs.declared.refusal.Refusal.{Refusal}
use Rattle.cgl_app.specs.declared.refusal.Refusal.TheVariants.{WriteFault, OutputFault, TooLarge, Memory}
use Rattle.cgl_app.specs.Commands.{show_by_size, show_works}
use Rattle.cgl_app.specs.CutOf.{is_too_long}
use Rattle.cgl_app.specs.Report.{counts_text}
use Rattle.cgl_app.specs.Steps.{DeckRefused}
use Rattle.cgl_words.specs.CommandLine.{ShowWords}
use Rattle.cgl_app.proofs.CutStepLaws.{same_files}

pub show_written : (s : ShowWords) (m : Model) (b a : View) (end : Option (Refusal ShowFile)) → is_too_long (deck_text m) ≡ false
    → Came Memory (Writes (WriteFault Out) s.out (deck_text m) (Puts OutputFault (counts_text m) Ends)) b a end → Came Memory (show_works s m) b a end
show_written s m b a end small came =
    let P : Bool → Type 0 = λ t. Came Memory (show_by_size s m t) b a end in
    worked Memory (show_by_size s m _) b a end (subst P (sym small) came)

pub show_refused : (s : ShowWords) (m : Model) (b a : View) (refusal : Refusal ShowFile)
    → (refusal ≡ Memory) ⊎ ((refusal ≡ TooLarge) × (is_too_long (deck_text m) ≡ true)) → a ≡ b → Came Memory (show_works s m) b a (Some refusal)
unfolding Came
show_refused s m b a refusal (inl memory) same = no_memory Memory _ b a _ (ap (λ r. Some r) memory) same
show_refused s m b a refusal (inr large) same =
    let P : Bool → Type 0 = λ t. Came Memory (show_by_size s m t) b a (Some refusal) in
    worked Memory (show_by_size s m _) b a (Some refusal) (subst P (sym large.1) (ap (λ r. Some r) large.0, same))

-- the deck could not be written
pub show_unwritten : (s : ShowWords) (m : Model) (h h2 : Held) (r r2 w w2 : ℕ) (told : Option (List ℕ)) (f : ℕ) (refusal : Refusal ShowFile) → is_too_long (deck_text m) ≡ false
    → r2 ≡ r → DeckRefused Memory (WriteFault Out) h h2 w w2 s.out (deck_text m) refusal
    → Came Memory (show_works s m) (view h r w told f) (view h2 r2 w2 told f) (Some refusal)
show_unwritten s m h h2 r r2 w w2 told f refusal small er (inl memory) =
    no_memory Memory _ _ _ _ (ap (λ x. Some x) memory.0) (same_files h h2 r r2 w w2 told f memory.1 er memory.2)
show_unwritten s m h h2 r r2 w w2 told f refusal small er (inr why) =
    show_written s m _ _ _ small (file_refused _ _ _ _ _ _ _ _ _ _ _ _ _ _ _ refl er why)
