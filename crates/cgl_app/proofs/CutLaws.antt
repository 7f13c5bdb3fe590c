-- The answers of `cut`, one by one, and what follows from each.
use Rattle.std.proofs.Common.{◌≡◌, ◌≢◌, ◌∙◌, ℕ, Bool, true, false, List, Option, Some, None, true≢false, refl, sym, ap, subst, inl, inr}
use Rattle.cgl_model.specs.declared.mip.Model.{Model as Mip}
use Rattle.cgl_deck.specs.DeckText.{deck_text}
use Rattle.cgl_decode.specs.DeckResult.{deck_result}
use Rattle.cgl_where.specs.PointRead.{point_result}
use Rattle.cgl_outside.specs.Means.{IsFaulty, IsRead}
use Rattle.cgl_outside.specs.Script.{Came, ReadFailed, WriteFailed, PutFailed}
use Rattle.cgl_outside.specs.ScriptLaws.{ReadCame, Unread, Short, Wrong, Right, read_came, no_fault, no_lack, same_meaning, only_put_failed, only_write_failed, unread_untouched}
use Rattle.cgl_outside.specs.Shelf.{Held, Lacks}
use Rattle.cgl_outside.specs.Sink.{with_put}
use Rattle.cgl_outside.specs.View.{View}
use Rattle.cgl_pool.specs.Task.{Task}
use Rattle.cgl_app.specs.declared.refusal.CutFile.{CutFile}
use Rattle.cgl_app.specs.declared.refusal.CutFile.TheVariants.{Model, Start, Out, Proof}
use Rattle.cgl_app.specs.declared.refusal.Refusal.{Refusal}
use Rattle.cgl_app.specs.declared.refusal.Refusal.TheVariants.{ReadFault, WriteFault, OutputFault, Input, TooLarge, Memory}
use Rattle.cgl_app.specs.Below.{Below}
use Rattle.cgl_app.specs.Commands.{by_extension, by_size, cut_starts, cut_writes, cut_works, cut_script}
use Rattle.cgl_app.specs.CutAnswers.{IsToWrite, AtOut, AtProof, IsTooLarge, with_out, with_both, CutAnswer, CutCompletes}
use Rattle.cgl_app.specs.CutOf.{extension, proofs_of, report_of, is_too_large}
use Rattle.cgl_app.specs.CutTask.{HasStart, InForm, IsCutTask, IsFaultyStart, IsStart, task_at}
use Rattle.cgl_app.specs.Refusals.{status_of}
use Rattle.cgl_words.specs.CommandLine.{Start as Source, AtPoint, start_name, CutWords}
use Rattle.cgl_app.proofs.CutMeaningLaws.{refused_by_size}
use Rattle.cgl_app.proofs.DoneLaws.{done, is_task}

abbrev End : Type 0
End = Option (Refusal CutFile)

abbrev faulty_model : ℕ → ℕ → Refusal CutFile
faulty_model line kind = Input Model line kind

abbrev faulty_start : ℕ → ℕ → Refusal CutFile
faulty_start line kind = Input Start line kind

-- ---- what may come of a cut

abbrev pub GotModel : View → CutWords → Mip → Type 0
GotModel b c m = IsRead b.held c.model deck_result m

pub data CutCame (c : CutWords) (b a : View) (end : End) : Type 0 where
  OutOfMemory : end ≡ Some Memory → a ≡ b → CutCame c b a end
  ModelUnread : end ≡ Some (ReadFault Model) → ReadFailed c.model b a → CutCame c b a end
  ModelWrong : (line kind : ℕ) → IsFaulty b.held c.model deck_result line kind → end ≡ Some (Input Model line kind) → a ≡ b → CutCame c b a end
  StartUnread : (m : Mip) → GotModel b c m → end ≡ Some (ReadFault Start) → ReadFailed (start_name c.start) b a → CutCame c b a end
  StartWrong : (m : Mip) → GotModel b c m → (line kind : ℕ) → IsFaultyStart b.held c.start m line kind → end ≡ Some (Input Start line kind) → a ≡ b → CutCame c b a end
  Oversize : (t : Task) → IsCutTask c b.held t → IsTooLarge t → end ≡ Some TooLarge → a ≡ b → CutCame c b a end
  OutUnwritten : (n : Mip) (t : Task) → IsToWrite c b.held n t → end ≡ Some (WriteFault Out)
      → WriteFailed c.out (deck_text n) b a → CutCame c b a end
  ProofUnwritten : (n : Mip) (t : Task) → IsToWrite c b.held n t → end ≡ Some (WriteFault Proof)
      → WriteFailed c.proof (proofs_of t) (record b { held = with_out c b.held n }) a → CutCame c b a end
  ReportUnput : (n : Mip) (t : Task) → IsToWrite c b.held n t → end ≡ Some OutputFault
      → PutFailed (report_of t) (record b { held = with_both c b.held n t }) a → CutCame c b a end
  AllDone : (n : Mip) (t : Task) → IsToWrite c b.held n t → end ≡ None
      → a ≡ record b { held = with_both c b.held n t; told = with_put b.told (report_of t) } → CutCame c b a end

writes_came : (c : CutWords) (n : Mip) (t : Task) (b a : View) (end : End) → IsToWrite c b.held n t → Came Memory (cut_writes c n t) b a end → CutCame c b a end
unfolding Came
writes_came c n t b a end w (inl x) = OutUnwritten n t w x.0 x.1
writes_came c n t b a end w (inr (inl x)) = ProofUnwritten n t w x.0 x.1
writes_came c n t b a end w (inr (inr (inl x))) = ReportUnput n t w x.0 x.1
writes_came c n t b a end w (inr (inr (inr x))) = AllDone n t w x.0 x.1

sized_came : (c : CutWords) (n : Mip) (t : Task) (b a : View) (end : End) → IsCutTask c b.held t → extension t ≡ Some n
    → (s : Bool) → is_too_large n t ≡ s → Came Memory (by_size c n t s) b a end → CutCame c b a end
unfolding Came
sized_came c n t b a end task e true large came = Oversize t task (inr (n, e, large)) came.0 came.1
sized_came c n t b a end task e false small came = writes_came c n t b a end (record { task = task; extended_is = e; small = small }) came

extended_came : (c : CutWords) (t : Task) (b a : View) (end : End) → IsCutTask c b.held t
    → (o : Option Mip) → extension t ≡ o → Came Memory (by_extension c t o) b a end → CutCame c b a end
unfolding Came
extended_came c t b a end task None e came = Oversize t task (inl e) came.0 came.1
extended_came c t b a end task (Some n) e came = sized_came c n t b a end task e (is_too_large n t) refl came

works_came : (c : CutWords) (t : Task) (b a : View) (end : End) → IsCutTask c b.held t → Came Memory (cut_works c t) b a end → CutCame c b a end
unfolding Came
works_came c t b a end task (inl w) = OutOfMemory w.0 w.1
works_came c t b a end task (inr w) = extended_came c t b a end task (extension t) refl w

-- the words with another start
abbrev starting : CutWords → Source → CutWords
starting c start = record c { start = start }

point_came : (c : CutWords) (name : List ℕ) (m : Mip) (b a : View) (end : End) → GotModel b c m
    → ReadCame Memory (ReadFault Start) faulty_start name (point_result m) (λ x. cut_works (starting c (AtPoint name)) (task_at m x)) b a end
    → CutCame (starting c (AtPoint name)) b a end
point_came c name m b a end gm (Unread e why) = StartUnread m gm e why
point_came c name m b a end gm (Short e same) = OutOfMemory e same
point_came c name m b a end gm (Wrong line kind fault e same) = StartWrong m gm line kind fault e same
point_came c name m b a end gm (Right x read came) =
    works_came (starting c (AtPoint name)) (task_at m x) b a end (record { model = gm; start = read; is = refl }) came

start_came : (c : CutWords) (start : Source) (m : Mip) (b a : View) (end : End) → GotModel b c m
    → Came Memory (cut_starts (starting c start) m start) b a end → CutCame (starting c start) b a end
start_came c (AtPoint name) m b a end gm came =
    point_came c name m b a end gm (read_came Memory (ReadFault Start) faulty_start name (point_result m) (λ x. cut_works (starting c (AtPoint name)) (task_at m x)) b a end came)

model_came : (c : CutWords) (b a : View) (end : End)
    → ReadCame Memory (ReadFault Model) faulty_model c.model deck_result (λ m. cut_starts c m c.start) b a end → CutCame c b a end
model_came c b a end (Unread e why) = ModelUnread e why
model_came c b a end (Short e same) = OutOfMemory e same
model_came c b a end (Wrong line kind fault e same) = ModelWrong line kind fault e same
model_came c b a end (Right m gm came) = start_came c c.start m b a end gm came

pub cut_came : (c : CutWords) (b a : View) (end : End) → Came Memory (cut_script c) b a end → CutCame c b a end
cut_came c b a end came = model_came c b a end (read_came Memory (ReadFault Model) faulty_model c.model deck_result (λ m. cut_starts c m c.start) b a end came)

-- ---- answers

-- an answer at the end that stands
at_end : (c : CutWords) (b a : View) (end stop : End) → end ≡ stop → CutAnswer c b a stop → CutAnswer c b a end
at_end c b a end stop e answer = let P : End → Type 0 = λ x. CutAnswer c b a x in subst P (sym e) answer

pub cut_answer : Below → (c : CutWords) (b a : View) (end : End) → c.out ≢ c.proof → CutCame c b a end → CutAnswer c b a end
cut_answer below c b a end apart (OutOfMemory e same) = at_end c b a end _ e same
cut_answer below c b a end apart (ModelUnread e why) = at_end c b a end _ e (record { cause = why.cause; excused = unread_untouched _ b a why; rest = why.rest; order = tt })
cut_answer below c b a end apart (ModelWrong line kind fault e same) = at_end c b a end _ e (record { rest = same; first = fault })
cut_answer below c b a end apart (StartUnread m gm e why) = at_end c b a end _ e
    (record { cause = why.cause; excused = unread_untouched _ b a why; rest = why.rest; order = (m, gm) })
cut_answer below c b a end apart (StartWrong m gm line kind fault e same) = at_end c b a end _ e (record { rest = same; first = (m, gm, fault) })
cut_answer below c b a end apart (Oversize t task large e same) = at_end c b a end _ e
    (record { rest = same; t = t; task = task; cause = large; sizes = (refused_by_size below t (is_task below c b.held t task)).0 })
cut_answer below c b a end apart (OutUnwritten n t w e why) = at_end c b a end _ e
    (AtOut n t w (only_write_failed b.held _ _ b a why) why.file (ap (λ v. v.told) why.rest))
cut_answer below c b a end apart (ProofUnwritten n t w e why) = at_end c b a end _ e
    (AtProof n t w (only_write_failed _ _ _ b a why) why.file (ap (λ v. v.told) why.rest))
cut_answer below c b a end apart (ReportUnput n t w e why) = at_end c b a end _ e
    (record { n = n; t = t; written = w; failed = only_put_failed _ _ b a why; files = ap (λ v. v.held) why.rest; kept = why.kept; got = why.got })
cut_answer below c b a end apart (AllDone n t w e same) = at_end c b a end _ e (done below c b a n t apart w same)

-- ---- where the files are in form

one_extension : (n k : Mip) (o : Option Mip) → o ≡ Some n → o ≡ Some k → n ≡ k
one_extension n k o e f = cc

not_too_large : (n : Mip) (t : Task) → extension t ≡ Some n → is_too_large n t ≡ false → IsTooLarge t → ⊥
not_too_large n t is small (inl none) = let bad : ◌≡◌ {A = Option Mip} (Some n) None = sym is ∙ none in cc
not_too_large n t is small (inr large) =
    true≢false (sym large.2 ∙ ap (λ k. is_too_large k t) (one_extension large.0 n (extension t) large.1 is) ∙ small)

-- what is read of where the columns stand, for the model of the deck
same_start : (held : Held) (start : Source) (t u : Task) → t.setting.model ≡ u.setting.model → HasStart held start t → IsStart held start u → t.setting.point ≡ u.setting.point
same_start held (AtPoint name) t u em has read =
    let P : Mip → Type 0 = λ y. IsRead held name (point_result y) u.setting.point in
    same_meaning _ _ _ _ _ has (subst P (sym em) read)

same_task : (c : CutWords) (held : Held) (t u : Task) → InForm c held t → IsCutTask c held u → t ≡ u
same_task c held t u h task =
    let em = same_meaning _ _ _ _ _ h.model task.model in
    let ex = same_start held c.start t u em h.start task.start in
    h.is ∙ ap (λ m. task_at m t.setting.point) em ∙ ap (task_at u.setting.model) ex ∙ sym task.is

no_start_fault : (held : Held) (start : Source) (t : Task) (m : Mip) (line kind : ℕ) → t.setting.model ≡ m → HasStart held start t → IsFaultyStart held start m line kind → ⊥
no_start_fault held (AtPoint name) t m line kind em has fault =
    let P : Mip → Type 0 = λ y. IsFaulty held name (point_result y) line kind in
    no_fault _ _ _ _ line kind has (subst P (sym em) fault)

no_start_lack : (held : Held) (start : Source) (t : Task) → HasStart held start t → Lacks held (start_name start) → ⊥
no_start_lack held (AtPoint name) t has lacks = no_lack _ _ _ _ has lacks

pub completes : (c : CutWords) (b a : View) (end : End) (s : ℕ) → s ≡ status_of end → CutCame c b a end → CutCompletes c b a s
completes c b a end s is (OutOfMemory e same) t h calm = inl (is ∙ ap status_of e)
completes c b a end s is (ModelUnread e why) t h calm = elim why.cause [ inl rose ↦ absurd (calm.reads rose) | inr lacks ↦ absurd (no_lack _ _ _ _ h.model lacks) ]
completes c b a end s is (ModelWrong line kind fault e same) t h calm = absurd (no_fault _ _ _ _ line kind h.model fault)
completes c b a end s is (StartUnread m gm e why) t h calm = elim why.cause [ inl rose ↦ absurd (calm.reads rose) | inr lacks ↦ absurd (no_start_lack b.held c.start t h.start lacks) ]
completes c b a end s is (StartWrong m gm line kind fault e same) t h calm =
    absurd (no_start_fault b.held c.start t m line kind (same_meaning _ _ _ _ _ h.model gm) h.start fault)
completes c b a end s is (Oversize u task large e same) t h calm =
    let P : Task → Type 0 = λ y. IsTooLarge y in
    inr (inr (subst P (sym (same_task c b.held t u h task)) large, is ∙ ap status_of e))
completes c b a end s is (OutUnwritten n u w e why) t h calm = absurd (calm.writes why.cause)
completes c b a end s is (ProofUnwritten n u w e why) t h calm = absurd (calm.writes why.cause)
completes c b a end s is (ReportUnput n u w e why) t h calm = absurd (calm.faults why.cause)
completes c b a end s is (AllDone n u w e same) t h calm =
    let P : Task → Type 0 = λ y. IsTooLarge y in
    inr (inl ((λ large. not_too_large n u w.extended_is w.small (subst P (same_task c b.held t u h w.task) large)), is ∙ ap status_of e))
