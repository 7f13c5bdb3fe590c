-- What stands where a cut is done.
use Rattle.std.proofs.Common.{◌≡◌, ◌≢◌, ◌∙◌, ap, sym, subst}
use Rattle.std.specs.Prelude.{pos, ◌<ℤ◌, length}
use Rattle.cgl_model.specs.declared.mip.Model.{Model}
use Rattle.cgl_model.specs.Valid.{IsValid}
use Rattle.cgl_deck.specs.DeckText.{deck_text}
use Rattle.cgl_outside.specs.ScriptLaws.{none_failed}
use Rattle.cgl_outside.specs.Shelf.{Held, file_of}
use Rattle.cgl_outside.specs.Sink.{with_put}
use Rattle.cgl_outside.specs.View.{View}
use Rattle.cgl_pool.specs.Task.{IsTask, Task}
use Rattle.cgl_app.specs.Below.{Below}
use Rattle.cgl_app.specs.CutAnswers.{IsToWrite, Done, with_out, with_both}
use Rattle.cgl_app.specs.CutOf.{proofs_of, report_of}
use Rattle.cgl_app.specs.CutTask.{IsCutTask, IsStart}
use Rattle.cgl_words.specs.CommandLine.{Start, AtPoint, CutWords}
use Rattle.cgl_app.proofs.CutMeaningLaws.{cuts_accepted, cuts_right, same_points}
use Rattle.cgl_app.proofs.DecodeLaws.{cut_decodes}

-- the task of a model and of where its columns stand
started : Below → (held : Held) (start : Start) (t : Task) → IsValid t.setting.model → IsStart held start t
    → (length t.setting.point.p ≡ length t.setting.model.cols) × (pos 0 <ℤ t.setting.point.d)
started below held (AtPoint name) t valid read =
    let point = below.points t.setting.model read.text t.setting.point read.is in
    (point.0, point.1.positive)

pub is_task : Below → (c : CutWords) (held : Held) (t : Task) → IsCutTask c held t → IsTask t
is_task below c held t task =
    let sound = below.decks task.model.text t.setting.model task.model.is in
    let at = started below held c.start t sound.0 task.start in
    let P : Task → Type 0 = λ u. IsTask u in
    subst P (sym task.is) (record {
      setting = record { sized = sound.0.sized; decimals = sound.1; point = at.0; positive = at.1; tableau = tt };
      rising = (tt, tt);
    })

pub done : Below → (c : CutWords) (b a : View) (n : Model) (t : Task) → c.out ≢ c.proof → IsToWrite c b.held n t
    → a ≡ record b { held = with_both c b.held n t; told = with_put b.told (report_of t) } → Done c b a
done below c b a n t apart written same =
    let files : a.held ≡ with_both c b.held n t = ap (λ v. v.held) same in
    let model = written.task.model in
    let sound = below.decks model.text t.setting.model model.is in
    let task = is_task below c b.held t written.task in
    record {
      t = t;
      n = n;
      written = written;
      calm = none_failed _ _ b a same;
      out_is = λ told. ap (λ h. file_of h c.out) files ∙ below.files.others (with_out c b.held n) c.proof c.out (proofs_of t) apart
          ∙ below.files.found b.held c.out (deck_text n) told;
      proof_is = λ told. ap (λ h. file_of h c.proof) files
          ∙ below.files.found (with_out c b.held n) c.proof (proofs_of t) ((below.files.told b.held c.out (deck_text n)).1 told);
      decodes = cut_decodes below t n sound.0 sound.1 written.extended_is written.small;
      files = files;
      report = ap (λ v. v.told) same;
      cuts = cuts_right below t task;
      accepted = cuts_accepted below t n task written.extended_is;
      same_points = same_points below t n task sound.0 written.extended_is;
    }
