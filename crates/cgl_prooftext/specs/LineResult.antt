-- What a line of a proof file says, a line without its LF.
use Rattle.std.specs.Prelude.{ℕ, zero, suc, ◌-◌, ◌^◌, ◌==◌, nat_lt, ℤ, pos, neg_ℤ, unsigned_abs, Bool, true, false, not, ◌&&◌, List, [], ◌∷◌, bytes_eq, codes, length, take, Option, Some, None, option_map, option_and_then, if◌then◌else◌}
use Rattle.std.specs.List.{before_first, list_all, onto_first}
use Rattle.cgl_num.specs.NumberText.{is_digit, natural}
use Rattle.cgl_model.specs.declared.linear.Ineq.{Ineq}
use Rattle.cgl_model.specs.declared.places.End.{End}
use Rattle.cgl_model.specs.declared.places.End.TheVariants.{Lower, Upper}
use Rattle.cgl_model.specs.declared.places.Place.{Place}
use Rattle.cgl_model.specs.declared.places.Place.TheVariants.{Row, Bound}
use Rattle.cgl_model.specs.Inequality.{Term}
use Rattle.cgl_derive.specs.declared.step.Ref.{Ref}
use Rattle.cgl_derive.specs.declared.step.Ref.TheVariants as by
use Rattle.cgl_prooftext.specs.declared.record.Record.{Record}
use Rattle.cgl_prooftext.specs.declared.record.Record.TheVariants as is
use Rattle.cgl_prooftext.specs.ProofText.{Text}

pub data LineResult : Type 0 where
  IsLine : Record → LineResult
  NotOfForm : LineResult
  TooLarge : LineResult

-- ---- fields

abbrev pub is_space : ℕ → Bool
is_space b = b == 32

-- the first field
abbrev pub word_in : Text → Text
word_in line = before_first is_space line

-- each space ends a field, so that two in a row have an empty field between them
abbrev pub fields_of : Text → List Text
fields_of [] = [] ∷ []
fields_of (b ∷ bytes) = if is_space b then [] ∷ fields_of bytes else onto_first b (fields_of bytes)

-- what the first fields say, with those behind them; they are not of the form, or a count is too large
pub data Parsed (A : Type 0) : Type 0 where
  Got : A → List Text → Parsed A
  Bad : Parsed A
  Big : Parsed A

abbrev pub followed : {A B : Type 0} → Parsed A → (A → List Text → Parsed B) → Parsed B
followed (Got x rest) next = next x rest
followed Bad next = Bad
followed Big next = Big

abbrev pub checked : {A : Type 0} → (A → Bool) → Parsed A → Parsed A
checked test parsed = followed parsed (λ x rest. if test x then Got x rest else Bad)

abbrev pub got : {A : Type 0} → Option A → List Text → Parsed A
got None rest = Bad
got (Some x) rest = Got x rest

-- one field
abbrev pub field_by : {A : Type 0} → (Text → Option A) → List Text → Parsed A
field_by read [] = Bad
field_by read (field ∷ rest) = got (read field) rest

-- n in a row
abbrev pub times_in : {A : Type 0} → (List Text → Parsed A) → ℕ → List Text → Parsed (List A)
times_in read zero fields = Got [] fields
times_in read (suc n) fields = followed (read fields) (λ x rest. followed (times_in read n rest) (λ xs others. Got (x ∷ xs) others))

-- ---- numbers of any size

-- digits, with no zero before others
abbrev pub is_natural : Text → Bool
is_natural [] = false
is_natural (b ∷ []) = is_digit b
is_natural (b ∷ c ∷ text) = not (b == 48) && list_all is_digit (b ∷ c ∷ text)

abbrev pub natural_in : Text → Option ℕ
natural_in text = if is_natural text then Some (natural text) else None

-- behind a minus stands no 0
abbrev pub negative_in : Text → Option ℤ
negative_in text = if is_natural text && nat_lt 0 (natural text) then Some (neg_ℤ (pos (natural text))) else None

abbrev pub integer_in : Text → Option ℤ
integer_in [] = None
integer_in (b ∷ text) = if b == 45 then negative_in text else option_map pos (natural_in (b ∷ text))

abbrev pub fits_number : ℕ → Bool
fits_number n = nat_lt n (2 ^ 32)

abbrev pub fits_integer : ℤ → Bool
fits_integer n = nat_lt (unsigned_abs n) (2 ^ 127)

-- a count that is too large ends the reading
abbrev pub counted : Option ℕ → List Text → Parsed ℕ
counted None rest = Bad
counted (Some n) rest = if fits_number n then Got n rest else Big

abbrev pub count_in : List Text → Parsed ℕ
count_in [] = Bad
count_in (field ∷ rest) = counted (natural_in field) rest

-- ---- inequalities

abbrev pub term_in : List Text → Parsed Term
term_in fields = followed (field_by natural_in fields) (λ j rest. followed (field_by integer_in rest) (λ a others. Got (j, a) others))

abbrev pub is_zero : ℤ → Bool
is_zero n = unsigned_abs n == 0

-- columns rise, and no coefficient is 0
abbrev pub are_rising : List Term → Bool
are_rising [] = true
are_rising (t ∷ []) = not (is_zero t.1)
are_rising (t ∷ u ∷ terms) = not (is_zero t.1) && nat_lt t.0 u.0 && are_rising (u ∷ terms)

abbrev pub terms_in : List Text → Parsed (List Term)
terms_in fields = checked are_rising (followed (count_in fields) (λ n rest. times_in term_in n rest))

-- `>=` and the right side
abbrev pub rhs_in : List Text → Parsed ℤ
rhs_in [] = Bad
rhs_in (field ∷ rest) = if bytes_eq field (codes ">=") then field_by integer_in rest else Bad

abbrev pub ineq_in : List Text → Parsed Ineq
ineq_in fields = followed (terms_in fields) (λ terms rest. followed (rhs_in rest) (λ rhs others. Got (record { terms = terms; rhs = rhs }) others))

-- ---- references

abbrev pub end_in : Text → Option End
end_in [] = None
end_in (b ∷ []) = if b == 76 then Some Lower else if b == 85 then Some Upper else None
end_in (b ∷ c ∷ text) = end_in (c ∷ text)

-- a number, and the letter of an end
abbrev pub side_in : (ℕ → End → Place) → Text → Option Ref
side_in place text = option_and_then (λ side. option_map (λ n. by.Side (place n side)) (natural_in (take (length text - 1) text))) (end_in text)

-- a lemma is named only where there are lemmas
abbrev pub ref_in : Bool → Text → Option Ref
ref_in lemmas [] = None
ref_in lemmas (letter ∷ text) =
    if letter == 114 then side_in Row text
    else if letter == 99 then side_in Bound text
    else if letter == 115 then option_map by.Step (natural_in text)
    else if letter == 103 then option_map by.Given (natural_in text)
    else if letter == 109 && lemmas then option_map by.Shared (natural_in text)
    else None

abbrev pub ref_pair_in : Bool → List Text → Parsed (Ref × ℤ)
ref_pair_in lemmas fields = followed (field_by (ref_in lemmas) fields) (λ r rest. followed (field_by integer_in rest) (λ m others. Got (r, m) others))

abbrev pub refs_in : Bool → List Text → Parsed (List (Ref × ℤ))
refs_in lemmas fields = followed (count_in fields) (λ n rest. times_in (ref_pair_in lemmas) n rest)

-- ---- lines

abbrev pub format_in : Text → Option Record
format_in text = if bytes_eq text (codes "1") then Some is.Format1 else if bytes_eq text (codes "2") then Some is.Format2 else None

abbrev pub lin_in : Bool → List Text → Parsed Record
lin_in lemmas fields =
    followed (field_by integer_in fields) (λ q rest.
    followed (refs_in lemmas rest) (λ refs others.
    followed (ineq_in others) (λ claim behind. Got (is.Lin (record { refs = refs; q = q; claim = claim })) behind)))

abbrev pub round_in : Bool → List Text → Parsed Record
round_in lemmas fields =
    followed (field_by integer_in fields) (λ g rest.
    followed (field_by (ref_in lemmas) rest) (λ from others.
    followed (ineq_in others) (λ claim behind. Got (is.Round (record { from = from; g = g; claim = claim })) behind)))

abbrev pub knap_in : Bool → List Text → Parsed Record
knap_in lemmas fields =
    followed (field_by (ref_in lemmas) fields) (λ from rest.
    followed (ineq_in rest) (λ claim behind. Got (is.Knap (record { from = from; claim = claim })) behind))

abbrev pub split_in : List Text → Parsed Record
split_in fields =
    followed (terms_in fields) (λ p rest.
    followed (field_by integer_in rest) (λ p0 others.
    followed (ineq_in others) (λ claim behind. Got (is.Split (record { p = p; p0 = p0; claim = claim })) behind)))

-- there is at least one lemma
abbrev pub lemmas_in : List Text → Parsed Record
lemmas_in fields = followed (count_in fields) (λ n rest. if n == 0 then Bad else Got (is.Lemmas n) rest)

abbrev pub behind_word : Bool → Text → List Text → Parsed Record
behind_word lemmas word fields =
    if bytes_eq word (codes "cgl-proof") then field_by format_in fields
    else if bytes_eq word (codes "lemmas") then lemmas_in fields
    else if bytes_eq word (codes "lemma") then followed (ineq_in fields) (λ c rest. Got (is.Lemma c) rest)
    else if bytes_eq word (codes "cuts") then followed (count_in fields) (λ n rest. Got (is.Cuts n) rest)
    else if bytes_eq word (codes "cut") then followed (ineq_in fields) (λ c rest. Got (is.Cut c) rest)
    else if bytes_eq word (codes "lin") then lin_in lemmas fields
    else if bytes_eq word (codes "round") then round_in lemmas fields
    else if bytes_eq word (codes "knap") then knap_in lemmas fields
    else if bytes_eq word (codes "split") then split_in fields
    else if bytes_eq word (codes "else") then Got is.Else fields
    else if bytes_eq word (codes "done") then Got is.Done fields
    else if bytes_eq word (codes "qed") then Got is.Qed fields
    else if bytes_eq word (codes "end") then Got is.End fields
    else Bad

abbrev pub record_in : Bool → List Text → Parsed Record
record_in lemmas [] = Bad
record_in lemmas (word ∷ fields) = behind_word lemmas word fields

-- ---- whether all numbers fit

abbrev pub fits_terms : List Term → Bool
fits_terms terms = list_all (λ t. fits_number t.0 && fits_integer t.1) terms

abbrev pub fits_ineq : Ineq → Bool
fits_ineq c = fits_terms c.terms && fits_integer c.rhs

abbrev pub number_of : Ref → ℕ
number_of (by.Side (Row r side)) = r
number_of (by.Side (Bound j side)) = j
number_of (by.Step k) = k
number_of (by.Given k) = k
number_of (by.Shared k) = k

abbrev pub fits_refs : List (Ref × ℤ) → Bool
fits_refs refs = list_all (λ r. fits_number (number_of r.0) && fits_integer r.1) refs

abbrev pub fits : Record → Bool
fits is.Format1 = true
fits is.Format2 = true
fits (is.Lemmas n) = fits_number n
fits (is.Lemma c) = fits_ineq c
fits (is.Cuts n) = fits_number n
fits (is.Cut c) = fits_ineq c
fits (is.Lin lin) = fits_integer lin.q && fits_refs lin.refs && fits_ineq lin.claim
fits (is.Round round) = fits_integer round.g && fits_number (number_of round.from) && fits_ineq round.claim
fits (is.Knap knap) = fits_number (number_of knap.from) && fits_ineq knap.claim
fits (is.Split s) = fits_terms s.p && fits_integer s.p0 && fits_ineq s.claim
fits is.Else = true
fits is.Done = true
fits is.Qed = true
fits is.End = true

-- ---- the line

-- nothing stands behind what the line says, and form wins over size
abbrev pub settled : Parsed Record → LineResult
settled (Got r []) = if fits r then IsLine r else TooLarge
settled (Got r (field ∷ rest)) = NotOfForm
settled Bad = NotOfForm
settled Big = TooLarge

-- the line of a file, by whether the file has lemmas
unfoldable pub line_result : Bool → Text → LineResult
line_result lemmas line = settled (record_in lemmas (fields_of line))
