-- Whether a book of derivations is accepted, and where it fails first: the shared inequalities in order, then the cuts.
use Rattle.std.specs.Prelude.{◌≡◌, ℕ, ◌+◌, List, [], ◌∷◌, ◌++◌, Option, Some, None, option_map, if◌then◌else◌}
use Rattle.cgl_model.specs.declared.linear.Ineq.{Ineq}
use Rattle.cgl_model.specs.declared.mip.Model.{Model}
use Rattle.cgl_derive.specs.declared.book.Book.{Book}
use Rattle.cgl_derive.specs.Books.{Entry, inequalities}
use Rattle.cgl_check.specs.declared.path.Reject.{Reject}
use Rattle.cgl_check.specs.declared.refusal.BookError.{BookError}
use Rattle.cgl_check.specs.declared.refusal.BookError.TheVariants.{Refused, Memory}
use Rattle.cgl_check.specs.declared.refusal.BookRefusal.{BookRefusal}
use Rattle.cgl_check.specs.declared.refusal.EntryPlace.{EntryPlace}
use Rattle.cgl_check.specs.declared.refusal.EntryPlace.TheVariants.{Shared, Cut}
use Rattle.cgl_check.specs.FirstFailure.{bad_ref, first_failure}
use Rattle.cgl_check.specs.Places.{at_list}
use Rattle.cgl_check.specs.Tests.{are_columns}

-- a column of the inequality beyond the model, and then the failure of its derivation
abbrev pub entry_failure : Model → List Ineq → Entry → Option Reject
entry_failure m shared entry = if are_columns m entry.0.terms then first_failure m shared entry.1 entry.0 else Some (at_list bad_ref)

abbrev pub refused : EntryPlace → Option Reject → Option BookRefusal
refused entry failure = option_map (λ r. record { entry = entry; reject = r }) failure

abbrev pub or_next : Option BookRefusal → Option BookRefusal → Option BookRefusal
or_next None next = next
or_next (Some r) next = Some r

-- of shared inequalities, the first of which has the number k; each is derived from those before it
abbrev pub shared_refusal : Model → List Ineq → ℕ → List Entry → Option BookRefusal
shared_refusal m before k [] = None
shared_refusal m before k (entry ∷ entries) =
    or_next (refused (Shared k) (entry_failure m before entry)) (shared_refusal m (before ++ entry.0 ∷ []) (k + 1) entries)

-- of cuts, the first of which has the number k
abbrev pub cut_refusal : Model → List Ineq → ℕ → List Entry → Option BookRefusal
cut_refusal m shared k [] = None
cut_refusal m shared k (entry ∷ entries) = or_next (refused (Cut k) (entry_failure m shared entry)) (cut_refusal m shared (k + 1) entries)

-- the first refusal of a book
abbrev pub first_refusal : Model → Book → Option BookRefusal
first_refusal m book = or_next (shared_refusal m [] 0 book.shared) (cut_refusal m (inequalities book.shared) 0 book.cuts)

abbrev pub IsAccepted : Model → Book → Type 0
IsAccepted m book = first_refusal m book ≡ None

-- what is said of a refusal, and nothing of want of memory
abbrev pub IfRefused : BookError → (BookRefusal → Type 0) → Type 0
IfRefused (Refused r) says = says r
IfRefused Memory says = Unit {0}
