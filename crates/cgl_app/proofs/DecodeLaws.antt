-- The texts that are written decode to their models.
use Rattle.std.proofs.Common.{◌≡◌, ℕ, ◌≤◌, ◌^◌, Bool, true, false, ◌||◌, List, Some, Ok, length, nat_lt, true≢false, refl}
use Rattle.std.proofs.lemmas.Bool.{ltb-false}
use Rattle.cgl_model.specs.declared.mip.Model.{Model}
use Rattle.cgl_model.specs.HasDecimals.{HasDecimals}
use Rattle.cgl_model.specs.Valid.{IsValid}
use Rattle.cgl_deck.specs.DeckText.{deck_text}
use Rattle.cgl_decode.specs.Decode.{decode, Deck}
use Rattle.cgl_decode.specs.DeckResult.{deck_result}
use Rattle.cgl_pool.specs.Task.{Task}
use Rattle.cgl_app.specs.Below.{Below}
use Rattle.cgl_app.specs.CutOf.{cuts_of, extension, is_too_large, is_too_long}

is_short : (n : ℕ) → nat_lt (2 ^ 30) n ≡ false → n ≤ 2 ^ 30
is_short n e = ltb-false (2 ^ 30) n e

pub read_again : Below → (bytes : List ℕ) (m : Model) → deck_result bytes ≡ Ok m → is_too_long (deck_text m) ≡ false → decode (deck_text m) ≡ Deck m
read_again below bytes m is small =
    let sound = below.decks bytes m is in
    below.texts.decodes m sound.0 sound.1 (is_short (length (deck_text m)) small)

left_false : (a b : Bool) → (a || b) ≡ false → a ≡ false
left_false true b e = absurd (true≢false e)
left_false false b e = refl

pub cut_decodes : Below → (t : Task) (n : Model) → IsValid t.setting.model → HasDecimals t.setting.model → extension t ≡ Some n → is_too_large n t ≡ false
    → decode (deck_text n) ≡ Deck n
unfolding is_too_large
cut_decodes below t n valid decimals is small =
    let m = t.setting.model in
    below.texts.decodes n (below.extensions.valid m n (cuts_of t) is valid) (below.extensions.decimal m n (cuts_of t) is decimals)
    (is_short (length (deck_text n)) (left_false _ _ small))
