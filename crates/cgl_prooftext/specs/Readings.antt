-- What a reader of fields answers.
use Rattle.std.specs.Prelude.{◌≡◌, ℕ, zero, suc, nat_lt, Bool, true, not, ◌&&◌, List, [], ◌∷◌, ◌++◌, Option, Some, None, Result, Ok, Err, if◌then◌else◌}
use denote.Ref.{Bor}
use Rattle.cgl_num.specs.NumberText.{natural}
use Rattle.cgl_model.specs.Inequality.{Term}
use Rattle.cgl_model.specs.Rising.{IsAboveAll, IsCoefficient}
use Rattle.cgl_derive.specs.declared.step.Ref.{Ref}
use Rattle.cgl_prooftext.specs.declared.record.LineFault.{LineFault}
use Rattle.cgl_prooftext.specs.declared.record.LineFault.TheVariants.{Form, Large, Memory}
use Rattle.cgl_prooftext.specs.LineResult.{Parsed, Got, Bad, Big, checked, fields_of, fits_integer, fits_number, followed, is_natural, is_zero, number_of, term_in}
use Rattle.cgl_prooftext.specs.ProofText.{Text}

-- the fields of what is left of a line
abbrev pub fields_left : Option (Bor Text) → List Text
fields_left None = []
fields_left (Some rest) = fields_of rest.now

-- a reader that leaves these fields answers as they say; it may run out of memory
abbrev pub IsRead : {A : Type 0} → Result A LineFault → List Text → Parsed A → Type 0
IsRead (Ok x) rest parsed = parsed ≡ Got x rest
IsRead (Err Form) rest parsed = parsed ≡ Bad
IsRead (Err Large) rest parsed = parsed ≡ Big
IsRead (Err Memory) rest parsed = Unit {0}

-- a value whose numbers fit, or none
abbrev pub fitting : {A : Type 0} → (A → Bool) → A → Option A
fitting fits x = if fits x then Some x else None

abbrev pub sized : {A : Type 0} → (A → Bool) → Parsed A → Parsed (Option A)
sized fits parsed = followed parsed (λ x rest. Got (fitting fits x) rest)

-- ---- what has to fit

abbrev pub fits_ref : Ref → Bool
fits_ref r = fits_number (number_of r)

abbrev pub fits_term : Term → Bool
fits_term t = fits_number t.0 && fits_integer t.1

-- ---- terms, one after another

-- the column is above the last one, and the coefficient is not 0
abbrev pub is_after : Option ℕ → ℕ → Bool
is_after None j = true
is_after (Some k) j = nat_lt k j

abbrev pub is_next : Option ℕ → Term → Bool
is_next last t = is_after last t.0 && not (is_zero t.1)

abbrev pub next_term : Option ℕ → List Text → Parsed Term
next_term last fields = checked (is_next last) (term_in fields)

-- the terms so far, or none where a number in them is too large, and one more
abbrev pub joined : {A : Type 0} → Option (List A) → Option A → Option (List A)
joined None x = None
joined (Some xs) None = None
joined (Some xs) (Some x) = Some (xs ++ x ∷ [])

-- n more terms behind those so far
abbrev pub more_terms : Option (List Term) → Option ℕ → ℕ → List Text → Parsed (Option (List Term))
more_terms found last zero fields = Got found fields
more_terms found last (suc n) fields = followed (next_term last fields) (λ t rest. more_terms (joined found (fitting fits_term t)) (Some t.0) n rest)

abbrev pub column_of : Option (Bor Text) → Option ℕ
column_of None = None
column_of (Some text) = Some (natural text.now)

-- a column as it stands, with its term
pub record IsTerm (column : Bor Text) (held : Option Term) (t : Term) : Type 0 where
  pub form : is_natural column.now ≡ true
  pub number : natural column.now ≡ t.0
  pub term : held ≡ fitting fits_term t

-- the term can be pushed
abbrev pub MayFollow : Option (List Term) → Option Term → Type 0
MayFollow None t = Unit {0}
MayFollow (Some terms) None = Unit {0}
MayFollow (Some terms) (Some t) = IsAboveAll terms t.0 × IsCoefficient t.1
