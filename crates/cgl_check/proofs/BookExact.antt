-- A book has no refusal exactly where it is right.
use Rattle.std.proofs.Common.{◌≡◌, ◌↔◌, ℕ, zero, suc, ◌+◌, List, [], ◌∷◌, ◌++◌, take, Option, Some, None, Bool, true, false, cond, refl, sym, ap, ◌∙◌, subst}
use Rattle.std.specs.Prelude.{slice_get}
use Rattle.std.specs.List.{AllByRecursion}
use Rattle.std.proofs.lemmas.List.{append_assoc, append-nil}
use Rattle.cgl_model.specs.declared.linear.Ineq.{Ineq}
use Rattle.cgl_model.specs.declared.mip.Model.{Model}
use Rattle.cgl_derive.specs.declared.book.Book.{Book}
use Rattle.cgl_derive.specs.Books.{BookIsRight, Entry, HaveColumns, inequalities}
use Rattle.cgl_derive.specs.Derives.{AreColumns, Derives}
use Rattle.cgl_check.specs.declared.path.Reject.{Reject}
use Rattle.cgl_check.specs.declared.refusal.BookRefusal.{BookRefusal}
use Rattle.cgl_check.specs.declared.refusal.EntryPlace.{EntryPlace}
use Rattle.cgl_check.specs.declared.refusal.EntryPlace.TheVariants.{Cut, Shared}
use Rattle.cgl_check.specs.Accepted.{IsAccepted, cut_refusal, entry_failure, or_next, refused, shared_refusal}
use Rattle.cgl_check.specs.FirstFailure.{bad_ref, first_failure}
use Rattle.cgl_check.specs.Places.{at_list}
use Rattle.cgl_check.specs.Tests.{AreOverColumns, are_columns}
use Rattle.cgl_check.proofs.TestLaws.{columns_hold, columns_pass}
use Rattle.cgl_check.proofs.Ground.{BitsAreTested, Ground, NoneBeyond}
use Rattle.cgl_check.proofs.Exact.{all_push, exact}

pub next_none : (a b : Option BookRefusal) → or_next a b ≡ None → (a ≡ None) × (b ≡ None)
next_none None b e = (refl, e)
next_none (Some r) b e = cc

none_next : (a b : Option BookRefusal) → a ≡ None → b ≡ None → or_next a b ≡ None
none_next None b e f = f
none_next (Some r) b e f = cc

pub refused_none : (entry : EntryPlace) (failure : Option Reject) → refused entry failure ≡ None → failure ≡ None
refused_none entry None e = refl
refused_none entry (Some r) e = cc

pub if_none : (b : Bool) (failure : Option Reject) (r : Reject) → cond b failure (Some r) ≡ None → (b ≡ true) × (failure ≡ None)
if_none true failure r e = (refl, e)
if_none false failure r e = cc

-- ---- one entry

abbrev IsEntryRight : Model → List Ineq → Entry → Type 0
IsEntryRight m shared entry = AreColumns m entry.0.terms × Derives m shared entry.1 entry.0

entry_right : (m : Model) (shared : List Ineq) (entry : Entry) → Ground m shared → entry_failure m shared entry ≡ None → IsEntryRight m shared entry
entry_right m shared entry ss e =
    let both = if_none (are_columns m entry.0.terms) (first_failure m shared entry.1 entry.0) _ e in
    (columns_hold m entry.0.terms both.0, (exact m shared entry.1 entry.0 ss).0 both.1)

right_entry : (m : Model) (shared : List Ineq) (entry : Entry) → Ground m shared → IsEntryRight m shared entry → entry_failure m shared entry ≡ None
right_entry m shared entry ss right =
    ap (λ b. cond b (first_failure m shared entry.1 entry.0) (Some (at_list bad_ref))) (columns_pass m entry.0.terms right.0) ∙ (exact m shared entry.1 entry.0 ss).1 right.1

-- ---- cuts

cuts_right : (m : Model) (shared : List Ineq) (k : ℕ) (entries : List Entry) → Ground m shared → cut_refusal m shared k entries ≡ None → AllByRecursion (IsEntryRight m shared) entries
cuts_right m shared k [] ss e = tt
cuts_right m shared k (entry ∷ entries) ss e =
    let both = next_none (refused (Cut k) (entry_failure m shared entry)) _ e in
    (entry_right m shared entry ss (refused_none (Cut k) _ both.0), cuts_right m shared (k + 1) entries ss both.1)

right_cuts : (m : Model) (shared : List Ineq) (k : ℕ) (entries : List Entry) → Ground m shared → AllByRecursion (IsEntryRight m shared) entries → cut_refusal m shared k entries ≡ None
right_cuts m shared k [] ss all = refl
right_cuts m shared k (entry ∷ entries) ss all =
    none_next (refused (Cut k) (entry_failure m shared entry)) _ (ap (refused (Cut k)) (right_entry m shared entry ss all.0)) (right_cuts m shared (k + 1) entries ss all.1)

-- ---- shared inequalities

ground_more : (m : Model) (before : List Ineq) (c : Ineq) → Ground m before → AreColumns m c.terms → Ground m (before ++ c ∷ [])
ground_more m before c ground h = record { over = all_push (λ d. AreColumns m d.terms) before c ground.over h; beyond = ground.beyond; bits = ground.bits }

-- each is right by those before it
abbrev AreSharedRight : Model → List Ineq → List Entry → Type 0
AreSharedRight m before [] = Unit {0}
AreSharedRight m before (entry ∷ entries) = IsEntryRight m before entry × AreSharedRight m (before ++ entry.0 ∷ []) entries

shared_right : (m : Model) (before : List Ineq) (k : ℕ) (entries : List Entry) → Ground m before → shared_refusal m before k entries ≡ None → AreSharedRight m before entries
shared_right m before k [] ss e = tt
shared_right m before k (entry ∷ entries) ss e =
    let both = next_none (refused (Shared k) (entry_failure m before entry)) _ e in
    let here = entry_right m before entry ss (refused_none (Shared k) _ both.0) in
    (here, shared_right m (before ++ entry.0 ∷ []) (k + 1) entries (ground_more m before entry.0 ss here.0) both.1)

right_shared : (m : Model) (before : List Ineq) (k : ℕ) (entries : List Entry) → Ground m before → AreSharedRight m before entries → shared_refusal m before k entries ≡ None
right_shared m before k [] ss all = refl
right_shared m before k (entry ∷ entries) ss all =
    none_next (refused (Shared k) (entry_failure m before entry)) _ (ap (refused (Shared k)) (right_entry m before entry ss all.0))
    (right_shared m (before ++ entry.0 ∷ []) (k + 1) entries (ground_more m before entry.0 ss all.0.0) all.1)

shared_columns : (m : Model) (before : List Ineq) (entries : List Entry) → AreSharedRight m before entries → HaveColumns m entries
shared_columns m before [] all = tt
shared_columns m before (entry ∷ entries) all = (all.0.0, shared_columns m (before ++ entry.0 ∷ []) entries all.1)

pub over_columns : (m : Model) (entries : List Entry) → HaveColumns m entries → AreOverColumns m (inequalities entries)
over_columns m [] all = tt
over_columns m (entry ∷ entries) all = (all.0, over_columns m entries all.1)

some_same : {a b : Entry} → Some a ≡ Some b → a ≡ b
some_same e = cc

-- the k-th is derived from those before all, and those before it
at_place : (m : Model) (before : List Ineq) (entries : List Entry) → AreSharedRight m before entries
    → (k : ℕ) (entry : Entry) → slice_get entries k ≡ Some entry → Derives m (before ++ inequalities (take k entries)) entry.1 entry.0
at_place m before [] all k entry e = cc
at_place m before (first ∷ entries) all zero entry e =
    let same : first ≡ entry = some_same e in
    subst (λ (x : Entry). Derives m (before ++ []) x.1 x.0) same (subst (λ (s : List Ineq). Derives m s first.1 first.0) (sym (append-nil before)) all.0.1)
at_place m before (first ∷ entries) all (suc k) entry e =
    subst (λ (s : List Ineq). Derives m s entry.1 entry.0) (append_assoc before (first.0 ∷ []) (inequalities (take k entries)))
    (at_place m (before ++ first.0 ∷ []) entries all.1 k entry e)

place_all : (m : Model) (before : List Ineq) (entries : List Entry) → HaveColumns m entries
    → ((k : ℕ) (entry : Entry) → slice_get entries k ≡ Some entry → Derives m (before ++ inequalities (take k entries)) entry.1 entry.0) → AreSharedRight m before entries
place_all m before [] columns each = tt
place_all m before (first ∷ entries) columns each = (
  (columns.0, subst (λ (s : List Ineq). Derives m s first.1 first.0) (append-nil before) (each 0 first refl)),
  place_all m (before ++ first.0 ∷ []) entries columns.1
      (λ k entry e. subst (λ (s : List Ineq). Derives m s entry.1 entry.0) (sym (append_assoc before (first.0 ∷ []) (inequalities (take k entries)))) (each (suc k) entry e)),
)

-- ---- the book

firsts : (m : Model) (shared : List Ineq) (entries : List Entry) → AllByRecursion (IsEntryRight m shared) entries → HaveColumns m entries
firsts m shared [] all = tt
firsts m shared (entry ∷ entries) all = (all.0.0, firsts m shared entries all.1)

seconds : (m : Model) (shared : List Ineq) (entries : List Entry) → AllByRecursion (IsEntryRight m shared) entries → AllByRecursion (λ entry. Derives m shared entry.1 entry.0) entries
seconds m shared [] all = tt
seconds m shared (entry ∷ entries) all = (all.0.1, seconds m shared entries all.1)

both_of : (m : Model) (shared : List Ineq) (entries : List Entry) → HaveColumns m entries → AllByRecursion (λ entry. Derives m shared entry.1 entry.0) entries → AllByRecursion (IsEntryRight m shared) entries
both_of m shared [] columns all = tt
both_of m shared (entry ∷ entries) columns all = ((columns.0, all.0), both_of m shared entries columns.1 all.1)

pub book_exact : NoneBeyond → BitsAreTested → (m : Model) (book : Book) → IsAccepted m book ↔ BookIsRight m book
book_exact beyond bits m book =
    let none : Ground m [] = record { over = tt; beyond = beyond; bits = bits } in (
      (λ e.
          let parts = next_none (shared_refusal m [] 0 book.shared) _ e in
          let shared = shared_right m [] 0 book.shared none parts.0 in
          let columns = shared_columns m [] book.shared shared in
          let ground : Ground m (inequalities book.shared) = record { over = over_columns m book.shared columns; beyond = beyond; bits = bits } in
          let cuts = cuts_right m (inequalities book.shared) 0 book.cuts ground parts.1 in
          record {
            shared_columns = columns;
            cut_columns = firsts m (inequalities book.shared) book.cuts cuts;
            shared = at_place m [] book.shared shared;
            cuts = seconds m (inequalities book.shared) book.cuts cuts;
          }),
      (λ right.
          let ground : Ground m (inequalities book.shared) = record { over = over_columns m book.shared right.shared_columns; beyond = beyond; bits = bits } in
          none_next (shared_refusal m [] 0 book.shared) _ (right_shared m [] 0 book.shared none (place_all m [] book.shared right.shared_columns right.shared))
          (right_cuts m (inequalities book.shared) 0 book.cuts ground (both_of m (inequalities book.shared) book.cuts right.cut_columns right.cuts))),
    )
