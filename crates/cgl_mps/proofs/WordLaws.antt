-- The first word of a line, and what it says of the others.
use Rattle.std.proofs.Common.{◌≡◌, refl, sym, ap, ap₂, ◌∙◌, arith, ℕ, ◌==◌, Bool, true, false, ◌&&◌, not, List, [], ◌∷◌, length, find, bytes_eq, Option, Some, None, unwrap_or, option_map, option_and_then}
use Rattle.std.proofs.lemmas.Bool.Decides.{nat_tests}
use Rattle.std.specs.Prelude.{slice_get}
use denote.Ref.{Bor}
use Rattle.cgl_num.specs.NumberText.{Word}
use Rattle.cgl_text.specs.Seen.{word, words}
use Rattle.cgl_text.specs.Text.{begins_blank, no_field}
use Rattle.cgl_decode.specs.declared.kinds.BoundKind.{BoundKind}
use Rattle.cgl_decode.specs.Records.{first_word, is_header, kept_fields}
use Rattle.cgl_decode.specs.Sections.{Bound, bound_in, bound_kinds, bound_with, needs_value, rest}
use Rattle.cgl_mps.specs.Seen.{bound_kind}

pub first_read : (words : List Word) → unwrap_or (slice_get words 0) [] ≡ first_word words
first_read [] = refl
first_read (word ∷ words) = refl

pub word_or : (found : Option (Bor (List ℕ))) (other : Bor (List ℕ)) → word (unwrap_or found other) ≡ unwrap_or (option_map word found) (word other)
word_or None other = refl
word_or (Some found) other = refl

-- the bound of a kind, if it is one
abbrev with_kind : List Word → Option BoundKind → Option Bound
with_kind fields kind = option_and_then (λ k. bound_with k (needs_value k) fields) kind

kind_case : (fields : List Word) (found : Option (Word × BoundKind)) → with_kind fields (option_map (λ (k : Word × BoundKind). k.1) found) ≡ option_and_then (λ (k : Word × BoundKind). bound_with k.1 (needs_value k.1) fields) found
kind_case fields None = refl
kind_case fields (Some k) = refl

bound_by_kind : (words : List Word) → with_kind (rest words) (bound_kind (unwrap_or (slice_get words 0) [])) ≡ bound_in words
bound_by_kind [] = refl
bound_by_kind (word ∷ words) = kind_case words (find (λ (k : Word × BoundKind). bytes_eq word k.0) bound_kinds)

pub bound_read : (words : List Word) (kind : Option BoundKind) → bound_kind (unwrap_or (slice_get words 0) []) ≡ kind → with_kind (rest words) kind ≡ bound_in words
bound_read words kind is = ap (with_kind (rest words)) (sym is) ∙ bound_by_kind words

header_case : (begins empty : Bool) (held : List (Bor (List ℕ))) → not begins ≡ true → empty ≡ (length held == 0) → not empty ≡ (not begins && not (no_field (words held)))
header_case begins empty [] starts is = ap not is ∙ ap (λ b. b && false) (sym starts)
header_case begins empty (first ∷ others) starts is = ap not (is ∙ other_length) ∙ ap (λ b. b && true) (sym starts)
  where
    other_length : (length (first ∷ others) == 0) ≡ false
    other_length = grind (arith, nat_tests)

-- a line that begins with no blank begins its section where it has fields
pub header_read : (line : List ℕ) (begins empty : Bool) (held : List (Bor (List ℕ))) → words held ≡ kept_fields line → begins ≡ begins_blank line → not begins ≡ true
    → empty ≡ (length held == 0) → not empty ≡ is_header line
header_read line begins empty held fields blank starts is =
    header_case begins empty held starts is ∙ ap₂ (λ b found. not b && not (no_field found)) blank fields
