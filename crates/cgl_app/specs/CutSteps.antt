-- What the steps of a cut make in memory.
use Rattle.std.specs.Prelude.{◌≡◌, ◌⊎◌, false, Some}
use Rattle.cgl_model.specs.Valid.{IsValid}
use Rattle.cgl_derive.specs.declared.step.Derivation.{Derivation}
use Rattle.cgl_pool.specs.declared.kept.Kept.{Kept}
use Rattle.cgl_pool.specs.Task.{Task}
use Rattle.cgl_app.specs.declared.refusal.CutFile.{CutFile}
use Rattle.cgl_app.specs.declared.refusal.Refusal.{Refusal}
use Rattle.cgl_app.specs.declared.refusal.Refusal.TheVariants.{TooLarge, Memory}
use Rattle.cgl_app.specs.declared.texts.CutTexts.{CutTexts}
use Rattle.cgl_app.specs.CutAnswers.{IsTooLarge}
use Rattle.cgl_app.specs.CutOf.{extension, is_too_large, proofs_of, report_of}

abbrev pub derivation_of : Kept → Derivation
derivation_of k = k.candidate.derivation

-- the model with the listed cuts, and the texts of their derivations and of the report
pub record AreTexts (t : Task) (texts : CutTexts) : Type 0 where
  pub extended_is : extension t ≡ Some texts.deck
  pub valid : IsValid texts.deck
  pub small : is_too_large texts.deck t ≡ false
  pub proofs : texts.proofs.items ≡ proofs_of t
  pub report : texts.report.items ≡ report_of t

abbrev pub TextsRefused : Task → Refusal CutFile → Type 0
TextsRefused t refusal = (refusal ≡ Memory) ⊎ ((refusal ≡ TooLarge) × IsTooLarge t)
