pub mod CutNames
pub mod Extended
pub mod DeckText
pub mod DeckLines
pub mod DeckLength
pub mod DeckOutput
pub mod StoredDeck
pub mod Laws
