-- A book whose cuts share the steps that they have in common.
use Rattle.std.specs.Prelude.{ℕ, ◌+◌, nat_le, pos, Bool, not, List, [], ◌∷◌, ◌++◌, length, map, filter, flat_map, position, Option, Some, None, is_some, if◌then◌else◌}
use Rattle.std.specs.List.{count_by}
use Rattle.cgl_model.specs.declared.linear.Ineq.{Ineq}
use Rattle.cgl_derive.specs.declared.book.Book.{Book}
use Rattle.cgl_derive.specs.declared.step.Ref.TheVariants as by
use Rattle.cgl_derive.specs.declared.step.Step.{Step, roll-Step, out-Step}
use Rattle.cgl_derive.specs.declared.step.Step.TheOpen as step
use Rattle.cgl_derive.specs.declared.step.Derivation.{roll-Derivation, out-Derivation}
use Rattle.cgl_derive.specs.Books.{Entry}
use Rattle.cgl_derive.specs.Dangling.{is_dangling}
use Rattle.cgl_derive.specs.Derives.{Layer, claim_in}
use Rattle.cgl_derive.specs.Layers.{derivation}
use Rattle.cgl_derive.specs.PlainSteps.{is_plain, is_same}

-- ---- the steps that become lemmas

-- those of the cuts' own lists, in order
abbrev pub own_steps : List Entry → List Step
own_steps cuts = flat_map (λ cut. (out-Derivation cut.1).steps) cuts

abbrev pub plain_steps : List Entry → List Layer
plain_steps cuts = filter is_plain (map out-Step (own_steps cuts))

-- each once, where it occurs first
abbrev pub distinct : List Layer → List Layer
distinct [] = []
distinct (s ∷ steps) = s ∷ filter (λ t. not (is_same s t)) (distinct steps)

abbrev pub is_repeated : List Layer → Layer → Bool
is_repeated steps s = nat_le 2 (count_by (is_same s) steps)

-- the plain steps that occur at least twice, in the order of their first occurrence
abbrev pub repeated_steps : List Entry → List Layer
repeated_steps cuts = filter (is_repeated (plain_steps cuts)) (distinct (plain_steps cuts))

-- the claim of a step, derived by that step alone
abbrev pub lemma_by : Layer → Entry
lemma_by s = (claim_in s, derivation (s ∷ []))

-- ---- the book

-- the shared inequality with this number, once
abbrev pub taking : ℕ → Ineq → Layer
taking k claim = step.Lin (record { refs = (by.Shared k, pos 1) ∷ []; q = pos 1; claim = claim })

-- the number of a step among those that become lemmas
abbrev pub lemma_number : List Layer → Step → Option ℕ
lemma_number lemmas s = position (λ t. is_same (out-Step s) t) lemmas

abbrev pub replaced_by : ℕ → Step → Option ℕ → Step
replaced_by first s None = s
replaced_by first s (Some k) = roll-Step (taking (first + k) (claim_in (out-Step s)))

-- a step that became a lemma takes it, where these lemmas are numbered from `first` on; each other step stays
abbrev pub shared_step : ℕ → List Layer → Step → Step
shared_step first lemmas s = replaced_by first s (lemma_number lemmas s)

abbrev pub with_shared_steps : ℕ → List Layer → Entry → Entry
with_shared_steps first lemmas cut = (cut.0, roll-Derivation (record { steps = map (shared_step first lemmas) (out-Derivation cut.1).steps }))

-- the lemmas behind those that are there, and the cuts that take them
abbrev pub with_lemmas : List Layer → Book → Book
with_lemmas lemmas book = record {
  shared = book.shared ++ map lemma_by lemmas;
  cuts = map (with_shared_steps (length book.shared) lemmas) book.cuts;
}

-- a book whose cuts refer to a shared inequality that is not there stays as it is
unfoldable pub shared_book : Book → Book
shared_book book = if is_dangling book then book else with_lemmas (repeated_steps book.cuts) book

-- how many steps were replaced
unfoldable pub replaced_steps : Book → ℕ
replaced_steps book = if is_dangling book then 0 else count_by (λ s. is_some (lemma_number (repeated_steps book.cuts) s)) (own_steps book.cuts)
