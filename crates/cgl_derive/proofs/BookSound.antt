-- Each feasible point meets the inequalities of a right book.
use Rattle.std.proofs.Common.{◌≡◌, ℕ, suc, List, [], ◌∷◌, ◌++◌, take, Some, refl, sym, subst}
use Rattle.std.specs.Prelude.{slice_get}
use Rattle.std.specs.List.{AllByRecursion}
use Rattle.std.proofs.lemmas.List.{append-nil, append_assoc}
use Rattle.cgl_model.specs.declared.linear.Ineq.{Ineq}
use Rattle.cgl_model.specs.declared.mip.Model.{Model}
use Rattle.cgl_model.specs.Feasible.{IsFeasible}
use Rattle.cgl_model.specs.Inequality.{Meets}
use Rattle.cgl_model.specs.Point.{Point}
use Rattle.cgl_derive.specs.declared.book.Book.{Book}
use Rattle.cgl_derive.specs.Books.{BookIsRight, Entry, inequalities}
use Rattle.cgl_derive.specs.Derives.{Derives}
use Rattle.cgl_derive.specs.Soundness.{AreMet}
use Rattle.cgl_derive.proofs.Sound.{SidesAreMet, all_push, sound}

-- behind inequalities that are met
shared_met : (m : Model) (x : Point) (before : List Ineq) (entries : List Entry) → SidesAreMet m x → IsFeasible m x → AreMet x before
    → ((k : ℕ) (entry : Entry) → slice_get entries k ≡ Some entry → Derives m (before ++ inequalities (take k entries)) entry.1 entry.0) → AreMet x (inequalities entries)
shared_met m x before [] sides f met all = tt
shared_met m x before (e ∷ entries) sides f met all =
    let first : Derives m before e.1 e.0 = subst (λ (list : List Ineq). Derives m list e.1 e.0) (append-nil before) (all 0 e refl) in
    let here : Meets x e.0 = sound m before e.1 e.0 x sides first f met in
    let later : (k : ℕ) (entry : Entry) → slice_get entries k ≡ Some entry → Derives m ((before ++ e.0 ∷ []) ++ inequalities (take k entries)) entry.1 entry.0 =
    λ k entry is. subst (λ (list : List Ineq). Derives m list entry.1 entry.0) (sym (append_assoc before (e.0 ∷ []) (inequalities (take k entries)))) (all (suc k) entry is) in
    (here, shared_met m x (before ++ e.0 ∷ []) entries sides f (all_push (Meets x) before e.0 met here) later)

cuts_met : (m : Model) (x : Point) (shared : List Ineq) (entries : List Entry) → SidesAreMet m x → IsFeasible m x → AreMet x shared
    → AllByRecursion (λ entry. Derives m shared entry.1 entry.0) entries → AreMet x (inequalities entries)
cuts_met m x shared [] sides f met all = tt
cuts_met m x shared (e ∷ entries) sides f met all = (sound m shared e.1 e.0 x sides all.0 f met, cuts_met m x shared entries sides f met all.1)

pub book_sound : (m : Model) (book : Book) (x : Point) → SidesAreMet m x → BookIsRight m book → IsFeasible m x
    → AreMet x (inequalities book.shared) × AreMet x (inequalities book.cuts)
book_sound m book x sides right f =
    let met = shared_met m x [] book.shared sides f tt right.shared in
    (met, cuts_met m x (inequalities book.shared) book.cuts sides f met right.cuts)
