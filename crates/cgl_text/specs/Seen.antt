-- Words that code holds.
use Rattle.std.specs.Prelude.{ℕ, List, Vec, map}
use denote.Ref.{Bor}
use Rattle.cgl_num.specs.NumberText.{Word}

-- as references
abbrev pub word : Bor (List ℕ) → Word
word w = w.now

abbrev pub words : List (Bor (List ℕ)) → List Word
words fields = map word fields

-- with bytes of their own
abbrev pub owned_word : {A : Type 0} → Vec ℕ A → Word
owned_word w = w.items

abbrev pub owned_words : {A : Type 0} → List (Vec ℕ A) → List Word
owned_words names = map owned_word names
