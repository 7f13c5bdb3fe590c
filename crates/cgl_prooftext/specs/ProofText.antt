-- The text of a book: for each shared inequality and each cut the inequality and the steps that derive it, a line each.
use Rattle.std.specs.Prelude.{ℕ, ℤ, List, [], ◌∷◌, ◌++◌, codes, flat_map, length}
use Rattle.std.specs.Fmt.{decimal, signed_decimal}
use Rattle.cgl_model.specs.declared.linear.Ineq.{Ineq}
use Rattle.cgl_model.specs.declared.places.End.{End}
use Rattle.cgl_model.specs.declared.places.End.TheVariants.{Lower, Upper}
use Rattle.cgl_model.specs.declared.places.Place.{Place}
use Rattle.cgl_model.specs.declared.places.Place.TheVariants.{Row, Bound}
use Rattle.cgl_model.specs.Inequality.{Term}
use Rattle.cgl_derive.specs.declared.step.Ref.{Ref}
use Rattle.cgl_derive.specs.declared.step.Ref.TheVariants as by
use Rattle.cgl_derive.specs.declared.step.Lin.{Lin}
use Rattle.cgl_derive.specs.declared.step.Round.{Round}
use Rattle.cgl_derive.specs.declared.step.Knap.{Knap}
use Rattle.cgl_derive.specs.declared.step.Step.{Step}
use Rattle.cgl_derive.specs.declared.step.Step.TheOpen as step
use Rattle.cgl_derive.specs.declared.step.Step.TheFolds.{fold-Step, fold-Derivation, fold-Split}
use Rattle.cgl_derive.specs.declared.step.Split.{Split}
use Rattle.cgl_derive.specs.declared.step.Derivation.{Derivation}
use Rattle.cgl_derive.specs.declared.book.Book.{Book}
use Rattle.cgl_derive.specs.Books.{Entry}

abbrev pub Text : Type 0
Text = List ℕ

-- ---- fields and lines

-- each field behind a space
unfoldable pub fields_text : List Text → Text
fields_text fields = flat_map (λ field. 32 ∷ field) fields

-- a word and its fields, parted by one space, and the end of the line
unfoldable pub line : Text → List Text → Text
line word fields = word ++ fields_text fields ++ 10 ∷ []

abbrev pub term_fields : Term → List Text
term_fields t = decimal t.0 ∷ signed_decimal t.1 ∷ []

-- how many terms, and the column and the coefficient of each
unfoldable pub terms_fields : List Term → List Text
terms_fields terms = decimal (length terms) ∷ flat_map term_fields terms

unfoldable pub ineq_fields : Ineq → List Text
ineq_fields c = terms_fields c.terms ++ codes ">=" ∷ signed_decimal c.rhs ∷ []

-- ---- references

abbrev pub end_text : End → Text
end_text Lower = codes "L"
end_text Upper = codes "U"

abbrev pub numbered : Text → ℕ → Text → Text
numbered letter n end = letter ++ decimal n ++ end

abbrev pub place_text : Place → Text
place_text (Row r end) = numbered (codes "r") r (end_text end)
place_text (Bound j end) = numbered (codes "c") j (end_text end)

abbrev pub ref_text : Ref → Text
ref_text (by.Side place) = place_text place
ref_text (by.Step k) = numbered (codes "s") k []
ref_text (by.Given k) = numbered (codes "g") k []
ref_text (by.Shared k) = numbered (codes "m") k []

-- ---- steps

abbrev pub ref_fields : Ref × ℤ → List Text
ref_fields r = ref_text r.0 ∷ signed_decimal r.1 ∷ []

unfoldable pub refs_fields : List (Ref × ℤ) → List Text
refs_fields refs = decimal (length refs) ∷ flat_map ref_fields refs

unfoldable pub lin_text : Lin → Text
lin_text lin = line (codes "lin") (signed_decimal lin.q ∷ refs_fields lin.refs ++ ineq_fields lin.claim)

unfoldable pub round_text : Round → Text
round_text round = line (codes "round") (signed_decimal round.g ∷ ref_text round.from ∷ ineq_fields round.claim)

unfoldable pub knap_text : Knap → Text
knap_text knap = line (codes "knap") (ref_text knap.from ∷ ineq_fields knap.claim)

unfoldable pub split_line : List Term → ℤ → Ineq → Text
split_line p p0 claim = line (codes "split") (terms_fields p ++ signed_decimal p0 ∷ ineq_fields claim)

-- a split with the texts of its two branches
abbrev pub split_around : Text → Text → Text → Text
split_around head left right = head ++ left ++ line (codes "else") [] ++ right ++ line (codes "done") []

-- one level of each, with the texts of what it holds

abbrev pub step_layer : step.Step-F Text Text Text → Text
step_layer (step.Lin lin) = lin_text lin
step_layer (step.Round round) = round_text round
step_layer (step.Split text) = text
step_layer (step.Knap knap) = knap_text knap

abbrev pub derivation_layer : step.Derivation-F Text Text Text → Text
derivation_layer d = flat_map (λ text. text) d.steps

abbrev pub split_layer : step.Split-F Text Text Text → Text
split_layer s = split_around (split_line s.p s.p0 s.claim) s.left s.right

unfoldable pub step_text : Step → Text
step_text = fold-Step Text Text Text step_layer derivation_layer split_layer

unfoldable pub split_text : Split → Text
split_text = fold-Split Text Text Text step_layer derivation_layer split_layer

unfoldable pub derivation_text : Derivation → Text
derivation_text = fold-Derivation Text Text Text step_layer derivation_layer split_layer

-- ---- the whole text

-- an inequality behind this word, and the steps that derive it
unfoldable pub entry_text : Text → Entry → Text
entry_text word entry = line word (ineq_fields entry.0) ++ derivation_text entry.1 ++ line (codes "qed") []

-- how many there are, behind one word, and each of them behind another
unfoldable pub entries_text : Text → Text → List Entry → Text
entries_text words word entries = line words (decimal (length entries) ∷ []) ++ flat_map (entry_text word) entries

abbrev pub format_line : Text → Text
format_line format = line (codes "cgl-proof") (format ∷ [])

-- the format, and the shared inequalities: format 1 has none of them, and format 2 has some
abbrev pub head_text : List Entry → Text
head_text [] = format_line (codes "1")
head_text (entry ∷ entries) = format_line (codes "2") ++ entries_text (codes "lemmas") (codes "lemma") (entry ∷ entries)

unfoldable pub book_text : Book → Text
book_text book = head_text book.shared ++ entries_text (codes "cuts") (codes "cut") book.cuts ++ line (codes "end") []

-- of cuts alone
abbrev pub proof_text : List Entry → Text
proof_text cuts = book_text (record { shared = []; cuts = cuts })
