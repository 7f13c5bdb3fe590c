-- When the derivations of a book prove its inequalities.
use Rattle.std.specs.Prelude.{◌≡◌, ℕ, List, map, take, Some, slice_get}
use Rattle.std.specs.List.{AllByRecursion}
use Rattle.cgl_model.specs.declared.linear.Ineq.{Ineq}
use Rattle.cgl_model.specs.declared.mip.Model.{Model}
use Rattle.cgl_derive.specs.declared.book.Book.{Book}
use Rattle.cgl_derive.specs.declared.step.Derivation.{Derivation}
use Rattle.cgl_derive.specs.Derives.{AreColumns, Derives}

-- an inequality with its derivation
abbrev pub Entry : Type 0
Entry = Ineq × Derivation

abbrev pub inequalities : List Entry → List Ineq
inequalities entries = map (λ entry. entry.0) entries

abbrev pub HaveColumns : Model → List Entry → Type 0
HaveColumns m entries = AllByRecursion (λ entry. AreColumns m entry.0.terms) entries

-- each shared inequality is derived from those before it, and each cut from all that are shared
pub record BookIsRight (m : Model) (book : Book) : Type 0 where
  pub shared_columns : HaveColumns m book.shared
  pub cut_columns : HaveColumns m book.cuts
  pub shared : (k : ℕ) (entry : Entry) → slice_get book.shared k ≡ Some entry → Derives m (inequalities (take k book.shared)) entry.1 entry.0
  pub cuts : AllByRecursion (λ entry. Derives m (inequalities book.shared) entry.1 entry.0) book.cuts
