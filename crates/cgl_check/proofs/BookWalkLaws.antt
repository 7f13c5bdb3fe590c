-- A book, entry after entry.
use Rattle.std.proofs.Common.{◌≡◌, ℕ, zero, suc, ◌+◌, ◌<◌, List, [], ◌∷◌, ◌++◌, take, drop, length, get_or, Option, Some, None, refl, sym, ap, ◌∙◌, subst, arith}
use Rattle.std.specs.Prelude.{slice_get}
use Rattle.cgl_model.specs.declared.linear.Ineq.{Ineq}
use Rattle.cgl_model.specs.declared.mip.Model.{Model}
use Rattle.cgl_derive.specs.Books.{Entry, HaveColumns, inequalities}
use Rattle.cgl_derive.specs.Derives.{AreColumns}
use Rattle.cgl_check.specs.declared.refusal.BookError.{BookError}
use Rattle.cgl_check.specs.declared.refusal.BookError.TheVariants.{Refused, Memory}
use Rattle.cgl_check.specs.declared.refusal.BookRefusal.{BookRefusal}
use Rattle.cgl_check.specs.declared.refusal.EntryPlace.TheVariants.{Shared}
use Rattle.cgl_check.specs.Accepted.{IfRefused, entry_failure, or_next, refused, shared_refusal}
use Rattle.cgl_check.specs.FirstFailure.{first_failure}
use Rattle.cgl_check.specs.Tests.{AreOverColumns, are_columns}
use Rattle.cgl_check.proofs.TestLaws.{columns_hold}
use Rattle.cgl_check.proofs.Exact.{all_push}
use Rattle.cgl_check.proofs.BookExact.{if_none, next_none, over_columns, refused_none}
use Rattle.cgl_check.proofs.WalkLaws.{take_none}

-- ---- the entries before a place

one_more : (i : ℕ) → suc (i + 1) ≡ suc i + 1
one_more i = omega arith

pub entry_from : (entries : List Entry) (i : ℕ) (entry : Entry) → i < length entries → entry ≡ get_or entries i entry → slice_get entries i ≡ Some entry
entry_from [] i entry h e = absurd (omega (arith, h))
entry_from (first ∷ entries) zero entry h e = ap Some (sym e)
entry_from (first ∷ entries) (suc i) entry h e = entry_from entries i entry (omega (arith, h)) e

drop_at : (entries : List Entry) (i : ℕ) (entry : Entry) → slice_get entries i ≡ Some entry → drop i entries ≡ entry ∷ drop (i + 1) entries
drop_at [] i entry e = cc
drop_at (first ∷ entries) zero entry e =
    let same : first ≡ entry = cc in
    ap (λ u. u ∷ entries) same
drop_at (first ∷ entries) (suc i) entry e = drop_at entries i entry e ∙ ap (λ n. entry ∷ drop n (first ∷ entries)) (one_more i)

front_next : (entries : List Entry) (i : ℕ) (entry : Entry) → slice_get entries i ≡ Some entry → inequalities (take (suc i) entries) ≡ inequalities (take i entries) ++ entry.0 ∷ []
front_next [] i entry e = cc
front_next (first ∷ entries) zero entry e =
    let same : first ≡ entry = cc in
    ap (λ xs. first.0 ∷ inequalities xs) (take_none entries) ∙ ap (λ (u : Entry). u.0 ∷ []) same
front_next (first ∷ entries) (suc i) entry e = ap (λ xs. first.0 ∷ xs) (front_next entries i entry e)

pub front_more : (entries : List Entry) (i : ℕ) (entry : Entry) → slice_get entries i ≡ Some entry → inequalities (take (i + 1) entries) ≡ inequalities (take i entries) ++ entry.0 ∷ []
front_more entries i entry e =
    let same : i + 1 ≡ suc i = omega arith in
    ap (λ n. inequalities (take n entries)) same ∙ front_next entries i entry e

front_of : (entries : List Entry) (i : ℕ) → take i (inequalities entries) ≡ inequalities (take i entries)
front_of [] zero = refl
front_of [] (suc i) = refl
front_of (first ∷ entries) zero = refl
front_of (first ∷ entries) (suc i) = ap (λ xs. first.0 ∷ xs) (front_of entries i)

-- claims that are the inequalities of entries, as far as a place
pub claims_front : (claims : List Ineq) (entries : List Entry) (i : ℕ) → claims ≡ inequalities entries → take i claims ≡ inequalities (take i entries)
claims_front claims entries i e = ap (take i) e ∙ front_of entries i

-- ---- one entry

entry_columns : (m : Model) (shared : List Ineq) (entry : Entry) → entry_failure m shared entry ≡ None → AreColumns m entry.0.terms
entry_columns m shared entry e = columns_hold m entry.0.terms (if_none (are_columns m entry.0.terms) (first_failure m shared entry.1 entry.0) _ e).0

-- ---- shared inequalities

shared_next : (m : Model) (entries : List Entry) (i : ℕ) (entry : Entry) → slice_get entries i ≡ Some entry
    → shared_refusal m (inequalities (take i entries)) i (drop i entries)
    ≡ or_next (refused (Shared i) (entry_failure m (inequalities (take i entries)) entry)) (shared_refusal m (inequalities (take (i + 1) entries)) (i + 1) (drop (i + 1) entries))
shared_next m entries i entry e =
    ap (shared_refusal m (inequalities (take i entries)) i) (drop_at entries i entry e)
    ∙ ap (λ before. or_next (refused (Shared i) (entry_failure m (inequalities (take i entries)) entry)) (shared_refusal m before (i + 1) (drop (i + 1) entries))) (sym (front_more entries i entry e))

pub shared_passed : (m : Model) (entries : List Entry) (i : ℕ) (entry : Entry) → slice_get entries i ≡ Some entry → entry_failure m (inequalities (take i entries)) entry ≡ None
    → shared_refusal m (inequalities (take i entries)) i (drop i entries) ≡ shared_refusal m (inequalities (take (i + 1) entries)) (i + 1) (drop (i + 1) entries)
shared_passed m entries i entry e none =
    shared_next m entries i entry e ∙ ap (λ o. or_next (refused (Shared i) o) (shared_refusal m (inequalities (take (i + 1) entries)) (i + 1) (drop (i + 1) entries))) none

pub shared_stopped : (m : Model) (entries : List Entry) (i : ℕ) (entry : Entry) (r : BookRefusal) → slice_get entries i ≡ Some entry → refused (Shared i) (entry_failure m (inequalities (take i entries)) entry) ≡ Some r
    → shared_refusal m (inequalities (take i entries)) i (drop i entries) ≡ Some r
shared_stopped m entries i entry r e some =
    shared_next m entries i entry e ∙ ap (λ o. or_next o (shared_refusal m (inequalities (take (i + 1) entries)) (i + 1) (drop (i + 1) entries))) some

pub shared_over : (m : Model) (entries : List Entry) (i : ℕ) (entry : Entry) → slice_get entries i ≡ Some entry → entry_failure m (inequalities (take i entries)) entry ≡ None → AreOverColumns m (inequalities (take i entries))
    → AreOverColumns m (inequalities (take (i + 1) entries))
shared_over m entries i entry e none over =
    subst (AreOverColumns m) (sym (front_more entries i entry e)) (all_push (λ d. AreColumns m d.terms) (inequalities (take i entries)) entry.0 over (entry_columns m (inequalities (take i entries)) entry none))

-- what is said of each refusal of one kind is said of those of another, where they are the same
pub told_of : (e : BookError) (a b : Option BookRefusal) → ((r : BookRefusal) → a ≡ Some r → b ≡ Some r) → IfRefused e (λ r. a ≡ Some r) → IfRefused e (λ r. b ≡ Some r)
told_of (Refused r) a b same h = same r h
told_of Memory a b same h = tt

-- ---- the book

columns_of : (m : Model) (before : List Ineq) (k : ℕ) (entries : List Entry) → shared_refusal m before k entries ≡ None → HaveColumns m entries
columns_of m before k [] e = tt
columns_of m before k (entry ∷ entries) e =
    let both = next_none (refused (Shared k) (entry_failure m before entry)) _ e in
    (entry_columns m before entry (refused_none (Shared k) _ both.0), columns_of m (before ++ entry.0 ∷ []) (k + 1) entries both.1)

-- where no shared inequality is refused, they are over columns of the model
pub passed_over : (m : Model) (entries : List Entry) (claims : List Ineq) → claims ≡ inequalities entries → shared_refusal m [] 0 entries ≡ None → AreOverColumns m claims
passed_over m entries claims is e = subst (AreOverColumns m) (sym is) (over_columns m entries (columns_of m [] 0 entries e))
