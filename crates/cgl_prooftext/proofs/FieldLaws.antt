-- The fields of a line, one after another.
use Rattle.std.proofs.Common.{◌≡◌, ℕ, ◌+◌, ◌-◌, ◌<◌, ◌≤◌, false, cond, [], ◌∷◌, ◌∙◌, refl, sym, ap, subst, length, take, drop, arith, length-drop, take_all}
use Rattle.std.specs.List.{position_or_len, slice_split, onto_first}
use Rattle.std.proofs.lemmas.List.Elements.{All-from_get_or}
use Rattle.std.proofs.lemmas.List.Sums.{fails_before_first}
use Rattle.std.proofs.lemmas.List.Splits.{slice_split_first, slice_split_none}
use Rattle.cgl_prooftext.specs.LineResult.{fields_of, is_space}
use Rattle.cgl_prooftext.specs.ProofText.{Text}

pub fields_split : (line : Text) → fields_of line ≡ slice_split is_space line
fields_split [] = refl
fields_split (b ∷ line) = ap (λ fields. cond (is_space b) ([] ∷ fields) (onto_first b fields)) (fields_split line)

-- the field up to the space at this place, and the fields behind that space
pub first_field : (line : Text) (place : ℕ) → place ≡ position_or_len is_space line → place < length line
    → fields_of line ≡ take place line ∷ fields_of (drop (place + 1) line)
first_field line place is below =
    let e : fields_of line ≡ take (position_or_len is_space line) line ∷ fields_of (drop (position_or_len is_space line + 1) line) =
    fields_split line ∙ slice_split_first is_space line 0 (subst (λ n. n < length line) is below)
    ∙ ap (λ others. take (position_or_len is_space line) line ∷ others) (sym (fields_split (drop (position_or_len is_space line + 1) line)))
    in subst (λ n. fields_of line ≡ take n line ∷ fields_of (drop (n + 1) line)) (sym is) e

pub last_field : (line : Text) → length line ≡ position_or_len is_space line → fields_of line ≡ line ∷ []
last_field line is =
    fields_split line
    ∙ slice_split_none is_space line
    (All-from_get_or (λ b. is_space b ≡ false) line 0 (λ i below. fails_before_first is_space line i 0 (subst (λ n. i < n) is below)))

-- the same, with what stands behind the space as a range gives it
pub behind_field : (line : Text) (place : ℕ) → place ≡ position_or_len is_space line → place < length line
    → fields_of line ≡ take place line ∷ fields_of (take (length line - (place + 1)) (drop (place + 1) line))
behind_field line place is below =
    let short : length (drop (place + 1) line) ≤ length line - (place + 1) = omega (arith, length-drop (place + 1) line) in
    subst (λ rest. fields_of line ≡ take place line ∷ fields_of rest) (sym (take_all (length line - (place + 1)) (drop (place + 1) line) short)) (first_field line place is below)
