-- The answers of `show`, one by one, and what follows from each.
use Rattle.std.proofs.Common.{◌≡◌, ◌∙◌, ℕ, Bool, true, false, Option, Some, None, refl, sym, ap, subst, inl, inr}
use Rattle.cgl_model.specs.declared.mip.Model.{Model as Mip}
use Rattle.cgl_deck.specs.DeckText.{deck_text}
use Rattle.cgl_decode.specs.DeckResult.{deck_result}
use Rattle.cgl_outside.specs.Means.{IsFaulty, IsRead}
use Rattle.cgl_outside.specs.Script.{Came, ReadFailed, WriteFailed, PutFailed}
use Rattle.cgl_outside.specs.ScriptLaws.{ReadCame, Unread, Short, Wrong, Right, read_came, no_fault, no_lack, same_meaning, none_failed, only_put_failed, only_write_failed, unread_untouched}
use Rattle.cgl_outside.specs.Shelf.{file_of, with_file}
use Rattle.cgl_outside.specs.Sink.{with_put}
use Rattle.cgl_outside.specs.View.{View}
use Rattle.cgl_app.specs.declared.refusal.ShowFile.{ShowFile}
use Rattle.cgl_app.specs.declared.refusal.ShowFile.TheVariants.{Model, Out}
use Rattle.cgl_app.specs.declared.refusal.Refusal.{Refusal}
use Rattle.cgl_app.specs.declared.refusal.Refusal.TheVariants.{ReadFault, WriteFault, OutputFault, Input, TooLarge, Memory}
use Rattle.cgl_app.specs.Below.{Below}
use Rattle.cgl_app.specs.Commands.{show_by_size, show_works, show_script}
use Rattle.cgl_app.specs.CutOf.{is_too_long}
use Rattle.cgl_app.specs.Refusals.{status_of}
use Rattle.cgl_app.specs.Report.{counts_text}
use Rattle.cgl_app.specs.ShowAnswers.{IsToShow, ShowAnswer, ShowCompletes}
use Rattle.cgl_words.specs.CommandLine.{ShowWords}
use Rattle.cgl_app.proofs.DecodeLaws.{read_again}

abbrev End : Type 0
End = Option (Refusal ShowFile)

abbrev faulty_model : ℕ → ℕ → Refusal ShowFile
faulty_model line kind = Input Model line kind

abbrev pub GotModel : View → ShowWords → Mip → Type 0
GotModel b s m = IsRead b.held s.model deck_result m

pub data ShowCame (s : ShowWords) (b a : View) (end : End) : Type 0 where
  OutOfMemory : end ≡ Some Memory → a ≡ b → ShowCame s b a end
  ModelUnread : end ≡ Some (ReadFault Model) → ReadFailed s.model b a → ShowCame s b a end
  ModelWrong : (line kind : ℕ) → IsFaulty b.held s.model deck_result line kind → end ≡ Some (Input Model line kind) → a ≡ b → ShowCame s b a end
  Oversize : (m : Mip) → GotModel b s m → is_too_long (deck_text m) ≡ true → end ≡ Some TooLarge → a ≡ b → ShowCame s b a end
  OutUnwritten : (m : Mip) → IsToShow s b.held m → end ≡ Some (WriteFault Out) → WriteFailed s.out (deck_text m) b a → ShowCame s b a end
  CountsUnput : (m : Mip) → IsToShow s b.held m → end ≡ Some OutputFault
      → PutFailed (counts_text m) (record b { held = with_file b.held s.out (deck_text m) }) a → ShowCame s b a end
  AllDone : (m : Mip) → IsToShow s b.held m → end ≡ None
      → a ≡ record b { held = with_file b.held s.out (deck_text m); told = with_put b.told (counts_text m) } → ShowCame s b a end

sized_came : (s : ShowWords) (m : Mip) (b a : View) (end : End) → GotModel b s m
    → (large : Bool) → is_too_long (deck_text m) ≡ large → Came Memory (show_by_size s m large) b a end → ShowCame s b a end
unfolding Came
sized_came s m b a end gm true large came = Oversize m gm large came.0 came.1
sized_came s m b a end gm false small (inl w) = OutUnwritten m (record { read = gm; small = small }) w.0 w.1
sized_came s m b a end gm false small (inr (inl w)) = CountsUnput m (record { read = gm; small = small }) w.0 w.1
sized_came s m b a end gm false small (inr (inr w)) = AllDone m (record { read = gm; small = small }) w.0 w.1

works_came : (s : ShowWords) (m : Mip) (b a : View) (end : End) → GotModel b s m → Came Memory (show_works s m) b a end → ShowCame s b a end
unfolding Came
works_came s m b a end gm (inl w) = OutOfMemory w.0 w.1
works_came s m b a end gm (inr w) = sized_came s m b a end gm (is_too_long (deck_text m)) refl w

model_came : (s : ShowWords) (b a : View) (end : End) → ReadCame Memory (ReadFault Model) faulty_model s.model deck_result (λ m. show_works s m) b a end → ShowCame s b a end
model_came s b a end (Unread e why) = ModelUnread e why
model_came s b a end (Short e same) = OutOfMemory e same
model_came s b a end (Wrong line kind fault e same) = ModelWrong line kind fault e same
model_came s b a end (Right m gm came) = works_came s m b a end gm came

pub show_came : (s : ShowWords) (b a : View) (end : End) → Came Memory (show_script s) b a end → ShowCame s b a end
show_came s b a end came = model_came s b a end (read_came Memory (ReadFault Model) faulty_model s.model deck_result (λ m. show_works s m) b a end came)

at_end : (s : ShowWords) (b a : View) (end stop : End) → end ≡ stop → ShowAnswer s b a stop → ShowAnswer s b a end
at_end s b a end stop e answer = let P : End → Type 0 = λ x. ShowAnswer s b a x in subst P (sym e) answer

pub show_answer : Below → (s : ShowWords) (b a : View) (end : End) → ShowCame s b a end → ShowAnswer s b a end
show_answer below s b a end (OutOfMemory e same) = at_end s b a end _ e same
show_answer below s b a end (ModelUnread e why) = at_end s b a end _ e (record { cause = why.cause; excused = unread_untouched _ b a why; rest = why.rest })
show_answer below s b a end (ModelWrong line kind fault e same) = at_end s b a end _ e (record { rest = same; faulty = fault })
show_answer below s b a end (Oversize m gm large e same) = at_end s b a end _ e (record { rest = same; m = m; read = gm; cause = large })
show_answer below s b a end (OutUnwritten m w e why) = at_end s b a end _ e
    (record { m = m; written = w; failed = only_write_failed b.held _ _ b a why; part = why.file; told = ap (λ v. v.told) why.rest })
show_answer below s b a end (CountsUnput m w e why) = at_end s b a end _ e
    (record { m = m; written = w; failed = only_put_failed _ _ b a why; files = ap (λ v. v.held) why.rest; kept = why.kept; got = why.got })
show_answer below s b a end (AllDone m w e same) = at_end s b a end _ e
    (record {
      m = m;
      written = w;
      calm = none_failed _ _ b a same;
      out_is = λ told. ap (λ v. file_of v.held s.out) same ∙ below.files.found b.held s.out (deck_text m) told;
      decodes = read_again below w.read.text m w.read.is w.small;
      files = ap (λ v. v.held) same;
      report = ap (λ v. v.told) same;
    })

pub show_completes : (s : ShowWords) (b a : View) (end : End) (status : ℕ) → status ≡ status_of end → ShowCame s b a end → ShowCompletes s b a status
show_completes s b a end status is (OutOfMemory e same) m0 h calm = inl (is ∙ ap status_of e)
show_completes s b a end status is (ModelUnread e why) m0 h calm = elim why.cause [ inl rose ↦ absurd (calm.reads rose) | inr lacks ↦ absurd (no_lack _ _ _ _ h lacks) ]
show_completes s b a end status is (ModelWrong line kind fault e same) m0 h calm = absurd (no_fault _ _ _ _ line kind h fault)
show_completes s b a end status is (Oversize m gm large e same) m0 h calm =
    inr (inr (ap (λ y. is_too_long (deck_text y)) (same_meaning _ _ _ _ _ h gm) ∙ large, is ∙ ap status_of e))
show_completes s b a end status is (OutUnwritten m w e why) m0 h calm = absurd (calm.writes why.cause)
show_completes s b a end status is (CountsUnput m w e why) m0 h calm = absurd (calm.faults why.cause)
show_completes s b a end status is (AllDone m w e same) m0 h calm =
    inr (inl (ap (λ y. is_too_long (deck_text y)) (same_meaning _ _ _ _ _ h w.read) ∙ w.small, is ∙ ap status_of e))
