-- The canonical text of a model decodes to the model.
use Rattle.std.proofs.Common.{◌≡◌, ℕ, ◌≤◌, ◌^◌, ◌⊎◌, List, length, take, IsSome, ◌+◌, ap, sym, ◌∙◌, if◌then◌else◌, inl, inr}
use Rattle.cgl_num.proofs.ReadBackLaws.{bound-of-text, number-of-text}
use Rattle.cgl_outside.specs.Shelf.{Held, file_of, with_file}
use Rattle.cgl_outside.proofs.ShelfLaws.{file_of-with_file}
use Rattle.cgl_model.specs.declared.mip.Model.{Model}
use Rattle.cgl_model.specs.HasDecimals.{HasDecimals}
use Rattle.cgl_model.specs.Valid.{IsValid}
use Rattle.cgl_decode.specs.Decode.{Deck, Fault, decode, deck_limits, outcome}
use Rattle.cgl_decode.specs.Faults.{faults}
use Rattle.cgl_decode.specs.Models.{model_of}
use Rattle.cgl_decode.specs.Records.{kept}
use Rattle.cgl_deck.specs.DeckLines.{deck_lines, numbered}
use Rattle.cgl_deck.specs.DeckText.{deck_text}
use Rattle.cgl_deck.specs.StoredDeck.{HoldsDeck, HoldsPart}
use Rattle.cgl_deck.proofs.DeckLineLaws.{line_sizes}
use Rattle.cgl_deck.proofs.FaultlessLaws.{ends, faultless}
use Rattle.cgl_deck.proofs.MeantLaws.{meant}
use Rattle.cgl_deck.proofs.RecordTextLaws.{records_of_text}

pub decodes : (m : Model) → IsValid m → HasDecimals m → length (deck_text m) ≤ 2 ^ 30 → decode (deck_text m) ≡ Deck m
decodes m valid decimals short =
    let lines = numbered 1 (deck_lines m) in
    let no_fault = faultless number-of-text bound-of-text m (deck_text m) valid decimals short (line_sizes m valid decimals) in
    ap (λ r. outcome (faults deck_limits (deck_text m) r) r) (records_of_text m valid decimals)
    ∙ ap (λ f. outcome f lines) no_fault
    ∙ ap (λ e. if e then Deck (model_of (kept lines)) else Fault (length lines + 1) 10) (ends m)
    ∙ ap Deck (meant number-of-text bound-of-text m valid decimals)

one_model : (m n : Model) → Deck m ≡ Deck n → m ≡ n
one_model m n e = cc

pub again : (m n : Model) → IsValid m → HasDecimals m → length (deck_text m) ≤ 2 ^ 30 → decode (deck_text m) ≡ Deck n → deck_text n ≡ deck_text m
again m n valid decimals short e = ap deck_text (sym (one_model m n (sym (decodes m valid decimals short) ∙ e)))

-- a file that was written with the text
pub stored : (held now : Held) (name written : List ℕ) (m : Model) → IsValid m → HasDecimals m → written ≡ deck_text m
    → now ≡ with_file held name written → IsSome held → HoldsDeck now name m
stored held now name written m valid decimals is stands told = record {
  bytes = written;
  file = ap (λ h. file_of h name) stands ∙ file_of-with_file held name written told;
  text = is;
  decodes = λ short. ap decode is ∙ decodes m valid decimals (rw is at short);
}

-- a file that was written with a part of the text
pub stored_part : (held now : Held) (name written : List ℕ) (m : Model) → written ≡ deck_text m
    → (now ≡ held) ⊎ ((kept : ℕ) × (now ≡ with_file held name (take kept written))) → HoldsPart held now name m
stored_part held now name written m is (inl same) = inl same
stored_part held now name written m is (inr (kept, stands)) = inr (kept, stands ∙ ap (λ text. with_file held name (take kept text)) is)
