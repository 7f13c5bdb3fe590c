-- The cuts that are listed, and the items whose answer was too wide.
use Rattle.std.specs.Prelude.{◌≡◌, ◌≢◌, ◌⊎◌, ℕ, Bool, false, ◌&&◌, not, List, [], ◌∷◌, filter, filter_map, Option, Some, None}
use Rattle.std.specs.List.{AllByRecursion, list_any}
use Rattle.std.specs.List.Sorted.{IsStrictlySortedBy}
use Rattle.std.specs.Ordering.{is_eq, is_lt, match_ordering, nat_cmp, ordering_then}
use Rattle.std.specs.declared.cmp.Ordering.{Ordering}
use Rattle.std.specs.declared.cmp.Ordering.TheVariants.{Equal}
use Rattle.cgl_derive.specs.declared.answer.Answer.{Answer}
use Rattle.cgl_derive.specs.declared.answer.Answer.TheVariants.{Nothing, Cut, Wide}
use Rattle.cgl_gen.specs.declared.stamped.Stamped.{Stamped}
use Rattle.cgl_pool.specs.declared.kept.Kept.{Kept}
use Rattle.cgl_pool.specs.InequalityOrder.{ineq_cmp}

-- a generator's number and an item's
abbrev pub Key : Type 0
Key = ℕ × ℕ

abbrev pub key_cmp : Key → Key → Ordering
key_cmp a b = ordering_then (nat_cmp a.0 b.0) (nat_cmp a.1 b.1)

abbrev pub is_key_less : Key → Key → Bool
is_key_less a b = is_lt (key_cmp a b)

-- no two answers have the same key
abbrev pub HaveDistinctKeys : List Stamped → Type 0
HaveDistinctKeys [] = Unit {0}
HaveDistinctKeys (s ∷ answers) = AllByRecursion (λ other. s.key ≢ other.key) answers × HaveDistinctKeys answers

abbrev pub kept_by : Key → Answer → Option Kept
kept_by key Nothing = None
kept_by key (Cut candidate) = Some (record { key = key; candidate = candidate })
kept_by key Wide = None

-- the cuts among the answers
abbrev pub cuts_among : List Stamped → List Kept
cuts_among answers = filter_map (λ s. kept_by s.key s.answer) answers

abbrev pub same_cut : Kept → Kept → Bool
same_cut a b = is_eq (ineq_cmp a.candidate.cut b.candidate.cut)

-- no other answer has the same inequality under a lesser key
abbrev pub is_least : List Kept → Kept → Bool
is_least cuts k = not (list_any (λ other. same_cut k other && is_key_less other.key k.key) cuts)

-- ---- lists in order

-- the item in its place, unless one is there that compares as equal
abbrev pub insert_by : {A : Type 0} → (A → A → Ordering) → A → List A → List A
insert_by cmp x [] = x ∷ []
insert_by cmp x (y ∷ ys) = match_ordering (cmp x y) (x ∷ y ∷ ys) (y ∷ ys) (y ∷ insert_by cmp x ys)

abbrev pub sorted_by : {A : Type 0} → (A → A → Ordering) → List A → List A
sorted_by cmp [] = []
sorted_by cmp (x ∷ xs) = insert_by cmp x (sorted_by cmp xs)

abbrev pub cut_cmp : Kept → Kept → Ordering
cut_cmp a b = ineq_cmp a.candidate.cut b.candidate.cut

-- each inequality once, under its least key, in the order of inequalities
unfoldable pub listed : List Stamped → List Kept
listed answers = sorted_by cut_cmp (filter (is_least (cuts_among answers)) (cuts_among answers))

abbrev pub wide_by : Key → Answer → Option Key
wide_by key Nothing = None
wide_by key (Cut candidate) = None
wide_by key Wide = Some key

-- the keys of the answers that are too wide
abbrev pub wides_among : List Stamped → List Key
wides_among answers = filter_map (λ s. wide_by s.key s.answer) answers

-- the same, rising
unfoldable pub wides : List Stamped → List Key
wides answers = sorted_by key_cmp (wides_among answers)

-- ---- words for what lists have

abbrev pub IsIn : {A : Type 0} → A → List A → Type 0
IsIn x [] = ⊥
IsIn x (y ∷ ys) = (x ≡ y) ⊎ IsIn x ys

-- what a list of all cuts is, however it is made: each inequality that occurs once, in order, under its least key
pub record IsListing (cuts kept : List Kept) : Type 0 where
  pub rises : IsStrictlySortedBy cut_cmp kept
  pub members : (k : Kept) → IsIn k kept → IsIn k cuts
  pub least : (k : Kept) → IsIn k kept → (other : Kept) → IsIn other cuts → ineq_cmp k.candidate.cut other.candidate.cut ≡ Equal → is_key_less other.key k.key ≡ false
  pub each : (other : Kept) → IsIn other cuts → (k : Kept) × IsIn k kept × (ineq_cmp other.candidate.cut k.candidate.cut ≡ Equal)

-- what a list of the keys of all answers that are too wide is, however it is made: each of them once, and no other, rising
pub record AreWideKeys (answers : List Stamped) (keys : List Key) : Type 0 where
  pub rises : IsStrictlySortedBy key_cmp keys
  pub each : (s : Stamped) → IsIn s answers → s.answer ≡ Wide → IsIn s.key keys
  pub only : (key : Key) → IsIn key keys → (s : Stamped) × IsIn s answers × (s.key ≡ key) × (s.answer ≡ Wide)
