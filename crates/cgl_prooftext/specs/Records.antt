-- The lines of a proof file, their texts and their limits.
use Rattle.std.specs.Prelude.{◌≡◌, ℕ, ℤ, ◌≤◌, ◌<◌, ◌^◌, unsigned_abs, Bool, true, List, [], ◌∷◌, codes, length}
use Rattle.std.specs.List.{AllByRecursion}
use Rattle.std.specs.Fmt.{decimal}
use Rattle.cgl_model.specs.declared.linear.Ineq.{Ineq}
use Rattle.cgl_model.specs.declared.places.Place.TheVariants.{Row, Bound}
use Rattle.cgl_model.specs.Inequality.{Term, AreColumnsBelow}
use Rattle.cgl_model.specs.Rising.{IsRising}
use Rattle.cgl_derive.specs.declared.step.Ref.{Ref}
use Rattle.cgl_derive.specs.declared.step.Ref.TheVariants as by
use Rattle.cgl_prooftext.specs.declared.record.Record.{Record}
use Rattle.cgl_prooftext.specs.declared.record.Record.TheVariants as is
use Rattle.cgl_prooftext.specs.ProofText.{Text, line, ineq_fields, lin_text, round_text, knap_text, split_line}

-- ---- the text of a line

unfoldable pub record_text : Record → Text
record_text is.Format1 = line (codes "cgl-proof") (codes "1" ∷ [])
record_text is.Format2 = line (codes "cgl-proof") (codes "2" ∷ [])
record_text (is.Lemmas n) = line (codes "lemmas") (decimal n ∷ [])
record_text (is.Lemma c) = line (codes "lemma") (ineq_fields c)
record_text (is.Cuts n) = line (codes "cuts") (decimal n ∷ [])
record_text (is.Cut c) = line (codes "cut") (ineq_fields c)
record_text (is.Lin lin) = lin_text lin
record_text (is.Round round) = round_text round
record_text (is.Knap knap) = knap_text knap
record_text (is.Split s) = split_line s.p s.p0 s.claim
record_text is.Else = line (codes "else") []
record_text is.Done = line (codes "done") []
record_text is.Qed = line (codes "qed") []
record_text is.End = line (codes "end") []

-- ---- limits

-- a count, a column, or the number of a row, a step, a given or a lemma
abbrev pub IsNumber : ℕ → Type 0
IsNumber n = n < 2 ^ 32

abbrev pub IsNarrow : ℤ → Type 0
IsNarrow n = unsigned_abs n < 2 ^ 127

pub record AreTerms (terms : List Term) : Type 0 where
  pub counted : IsNumber (length terms)
  pub columns : AreColumnsBelow (2 ^ 32) terms
  pub rising : IsRising terms

pub record IsIneq (c : Ineq) : Type 0 where
  pub terms : AreTerms c.terms
  pub rhs : IsNarrow c.rhs

-- a lemma is named only where there are lemmas
abbrev pub IsRef : Bool → Ref → Type 0
IsRef lemmas (by.Side (Row r end)) = IsNumber r
IsRef lemmas (by.Side (Bound j end)) = IsNumber j
IsRef lemmas (by.Step k) = IsNumber k
IsRef lemmas (by.Given k) = IsNumber k
IsRef lemmas (by.Shared k) = (lemmas ≡ true) × IsNumber k

pub record AreRefs (lemmas : Bool) (refs : List (Ref × ℤ)) : Type 0 where
  pub counted : IsNumber (length refs)
  pub all : AllByRecursion (λ r. IsRef lemmas r.0 × IsNarrow r.1) refs

-- a line that a file may hold, by whether the file has lemmas
abbrev pub IsRecord : Bool → Record → Type 0
IsRecord lemmas is.Format1 = Unit {0}
IsRecord lemmas is.Format2 = Unit {0}
IsRecord lemmas (is.Lemmas n) = (1 ≤ n) × IsNumber n
IsRecord lemmas (is.Lemma c) = IsIneq c
IsRecord lemmas (is.Cuts n) = IsNumber n
IsRecord lemmas (is.Cut c) = IsIneq c
IsRecord lemmas (is.Lin lin) = IsNarrow lin.q × AreRefs lemmas lin.refs × IsIneq lin.claim
IsRecord lemmas (is.Round round) = IsNarrow round.g × IsRef lemmas round.from × IsIneq round.claim
IsRecord lemmas (is.Knap knap) = IsRef lemmas knap.from × IsIneq knap.claim
IsRecord lemmas (is.Split s) = AreTerms s.p × IsNarrow s.p0 × IsIneq s.claim
IsRecord lemmas is.Else = Unit {0}
IsRecord lemmas is.Done = Unit {0}
IsRecord lemmas is.Qed = Unit {0}
IsRecord lemmas is.End = Unit {0}
