-- The result of a deck and its outcome.
use Rattle.std.proofs.Common.{◌≡◌, ap, ℕ, List, Ok, Err}
use Rattle.cgl_model.specs.declared.mip.Model.{Model}
use Rattle.cgl_decode.specs.Decode.{Outcome, Deck, Fault, decode}
use Rattle.cgl_decode.specs.DeckResult.{result_of, deck_result, ResultsAreDecks, ResultsAreFaults, ResultsAreModels}
use Rattle.cgl_decode.proofs.ValidLaws.{decks_valid}
use Rattle.cgl_decode.proofs.DecimalLaws.{decks_decimal}

deck_case : (o : Outcome) (m : Model) → result_of o ≡ Ok m → o ≡ Deck m
deck_case (Deck n) m is = let same : n ≡ m = cc in ap Deck same
deck_case (Fault line kind) m is = cc

fault_case : (o : Outcome) (line kind : ℕ) → result_of o ≡ Err (line, kind) → o ≡ Fault line kind
fault_case (Deck n) line kind is = cc
fault_case (Fault l k) line kind is =
    let these : ℕ × ℕ = (l, k) in
    let those : ℕ × ℕ = (line, kind) in
    let same : these ≡ those = cc in
    ap (λ (pair : ℕ × ℕ). Fault pair.0 pair.1) same

pub results_are_decks : ResultsAreDecks
unfolding deck_result
results_are_decks bytes m is = deck_case (decode bytes) m is

pub results_are_faults : ResultsAreFaults
unfolding deck_result
results_are_faults bytes line kind is = fault_case (decode bytes) line kind is

pub results_are_models : ResultsAreModels
results_are_models bytes m is = let reads = results_are_decks bytes m is in (decks_valid bytes m reads, decks_decimal bytes m reads)

pub result_is : (bytes : List ℕ) (o : Outcome) → decode bytes ≡ o → deck_result bytes ≡ result_of o
unfolding deck_result
result_is bytes o e = ap result_of e
