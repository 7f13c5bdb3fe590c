-- What sorting, and dropping of repeats, make of cuts and of keys.
use Rattle.std.proofs.Common.{◌≡◌, ◌⊎◌, inl, inr, ⊎_elim, ℕ, zero, suc, ◌≤◌, ◌<◌, List, [], ◌∷◌, length, get_or, Bool, true, false, cond, ◌&&◌, ◌==◌, refl, sym, ap, ◌∙◌, subst, arith}
use Rattle.std.specs.List.{AllByRecursion, Contains, dedup, dedup_from}
use Rattle.std.specs.Cmp.{unsigned_tied}
use Rattle.std.specs.List.Sorted.{IsPermutation, IsSorted, IsSortedBy}
use Rattle.std.specs.Ordering.{eq_by_cmp, is_eq, is_lt, nat_cmp, ordering_reverse, ordering_then}
use Rattle.std.specs.declared.cmp.Ordering.{Ordering}
use Rattle.std.specs.declared.cmp.Ordering.TheVariants.{Less, Equal, Greater}
use Rattle.std.proofs.lemmas.List.Kept.{Contains-from_dedup, IsStrictlySortedBy-dedup}
use Rattle.std.proofs.lemmas.List.Sorted.{Contains-permutation, IsPermutation-sym, ranks_by, sorted_far}
use Rattle.cgl_pool.specs.declared.kept.Kept.{Kept}
use Rattle.cgl_pool.specs.InequalityOrder.{ineq_cmp}
use Rattle.cgl_pool.specs.Listed.{Key, IsIn, IsListing, cut_cmp, is_key_less, key_cmp, same_cut, sorted_by}
use Rattle.cgl_pool.specs.Sorting.{kept_cmp}
use Rattle.cgl_pool.proofs.ListingLaws.{by_bool, equal_equal, equal_then, is_eq_equal, tied}
use Rattle.cgl_pool.proofs.OrderLaws.{ineq_order, kept_order, key_irreflexive, key_order, key_ranks, key_same}
use Rattle.cgl_pool.proofs.SortedLaws.{all_in, in_sorted, rises_cons, rises_none, rises_sorted, sorted_in, unique}

-- ---- members

in_contains : {A : Type 0} (xs : List A) (x : A) → IsIn x xs → Contains xs x
in_contains [] x is = absurd is
in_contains (y ∷ ys) x (inl e) = (0, omega arith, sym e)
in_contains (y ∷ ys) x (inr rest) = let c = in_contains ys x rest in (suc c.0, (omega (arith, c.1)), c.2)

contains_in : {A : Type 0} (xs : List A) (x : A) → Contains xs x → IsIn x xs
contains_in [] x (k, below, e) = absurd (omega (arith, below))
contains_in (y ∷ ys) x (zero, below, e) = inl (sym e)
contains_in (y ∷ ys) x (suc k, below, e) = inr (contains_in ys x (k, omega (arith, below), e))

pub permuted : {A : Type 0} (xs ys : List A) → IsPermutation xs ys → (x : A) → IsIn x xs → IsIn x ys
permuted xs ys moved x is = contains_in ys x (Contains-permutation xs ys x moved (in_contains xs x is))

-- ---- cuts that are sorted

-- none is less than those before it
abbrev AreSorted : List Kept → Type 0
AreSorted [] = Unit {0}
AreSorted (k ∷ cuts) = AllByRecursion (λ other. is_lt (kept_cmp other k) ≡ false) cuts × AreSorted cuts

all_from : {A : Type 0} (P : A → Type 0) (d : A) (xs : List A) → ((j : ℕ) → j < length xs → P (get_or xs j d)) → AllByRecursion P xs
all_from P d [] f = tt
all_from P d (x ∷ xs) f = (f 0 (omega arith), all_from P d xs (λ j h. f (suc j) (omega arith)))

sorted_from : (cuts : List Kept) → ((i j : ℕ) (d : Kept) → i ≤ j → j < length cuts → is_lt (kept_cmp (get_or cuts j d) (get_or cuts i d)) ≡ false) → AreSorted cuts
sorted_from [] f = tt
sorted_from (k ∷ cuts) f =
    (all_from (λ other. is_lt (kept_cmp other k) ≡ false) k cuts (λ j h. f 0 (suc j) k (omega arith) (omega arith)), sorted_from cuts (λ i j d low high. f (suc i) (suc j) d (omega arith) (omega arith)))

are_sorted : (cuts : List Kept) → IsSortedBy (λ a b. is_lt (kept_cmp a b)) cuts → AreSorted cuts
are_sorted cuts up = sorted_from cuts (sorted_far (λ a b. is_lt (kept_cmp a b)) (ranks_by kept_order (λ k. k)) cuts up)

not_less : (a b : Ordering) → is_lt (ordering_then a b) ≡ false → ((a ≡ Equal) × (is_lt b ≡ false)) ⊎ (a ≡ Greater)
not_less Less b e = cc
not_less Equal b e = inl (refl, e)
not_less Greater b e = inr refl

-- ---- those that are kept of them

-- a cut more, with the inequality of the last one and a key that is not less
with_tie : (k x : Kept) (cuts kept : List Kept) → cut_cmp x k ≡ Equal → is_key_less x.key k.key ≡ false → IsListing (k ∷ cuts) kept → IsListing (k ∷ x ∷ cuts) kept
with_tie k x cuts kept tie key l = record {
  rises = l.rises;
  members = (λ m is. ⊎_elim (λ e. inl e) (λ rest. inr (inr rest)) (l.members m is));
  least = (λ m is other at same. ⊎_elim
      (λ e. l.least m is other (inl e) same)
      (λ later. ⊎_elim
      (λ e.
      let at_x : cut_cmp m x ≡ Equal = subst (λ (z : Kept). cut_cmp m z ≡ Equal) e same in
      subst (λ (z : Kept). is_key_less z.key m.key ≡ false) (sym e) (key_ranks.chain x.key k.key m.key key (l.least m is k (inl refl) (equal_then m x k at_x ∙ tie))))
      (λ rest. l.least m is other (inr rest) same)
      later)
      at);
  each = (λ p at. ⊎_elim
      (λ e. l.each p (inl e))
      (λ later. ⊎_elim
      (λ e.
      let m = l.each k (inl refl) in
      (m.0, m.1, subst (λ (z : Kept). cut_cmp z m.0 ≡ Equal) (sym e) (equal_then x k m.0 tie ∙ m.2)))
      (λ rest. l.each p (inr rest))
      later)
      at);
}

not_equal : {P : Type 0} (o : Ordering) → o ≡ Less → o ≡ Equal → P
not_equal o e f = absurd (let g : Less ≡ Equal = sym e ∙ f in cc)

-- a cut more, below all others
with_least : (k : Kept) (cuts kept : List Kept) → ((o : Kept) → IsIn o cuts → cut_cmp k o ≡ Less) → IsListing cuts kept → IsListing (k ∷ cuts) (k ∷ kept)
with_least k cuts kept below l = record {
  rises = rises_cons ineq_cmp ineq_order (λ (c : Kept). c.candidate.cut) k kept (λ m is. below m (l.members m is)) l.rises;
  members = (λ m is. ⊎_elim (λ e. inl e) (λ rest. inr (l.members m rest)) is);
  least = (λ m is other at same. ⊎_elim
      (λ e. ⊎_elim
      (λ f. subst (λ (z : Kept). is_key_less z.key m.key ≡ false) (sym (f ∙ sym e)) (key_irreflexive m.key))
      (λ rest. not_equal (cut_cmp k other) (below other rest) (subst (λ (z : Kept). cut_cmp z other ≡ Equal) e same))
      at)
      (λ kept_is. ⊎_elim
      (λ f. not_equal (cut_cmp k m) (below m (l.members m kept_is)) (equal_equal m k (subst (λ (z : Kept). cut_cmp m z ≡ Equal) f same)))
      (λ rest. l.least m kept_is other rest same)
      at)
      is);
  each = (λ p at. ⊎_elim
      (λ e. (k, inl refl, subst (λ (z : Kept). cut_cmp z k ≡ Equal) (sym e) (tied k)))
      (λ rest. let m = l.each p rest in (m.0, inr m.1, m.2))
      at);
}

flip : (a b : Kept) → cut_cmp b a ≡ Greater → cut_cmp a b ≡ Less
flip a b e = ineq_order.antisymm a.candidate.cut b.candidate.cut ∙ ap ordering_reverse e

flipped : (a b : Kept) → cut_cmp a b ≡ Less → cut_cmp b a ≡ Greater
flipped a b e = ineq_order.antisymm b.candidate.cut a.candidate.cut ∙ ap ordering_reverse e

-- what is not less than what is above k is above k
above_all : (k x : Kept) (cuts : List Kept) → cut_cmp k x ≡ Less → AreSorted (x ∷ cuts) → (o : Kept) → IsIn o (x ∷ cuts) → cut_cmp k o ≡ Less
above_all k x cuts below sorted o is = ⊎_elim
    (λ e. subst (λ (z : Kept). cut_cmp k z ≡ Less) (sym e) below)
    (λ rest. ⊎_elim
    (λ tie. flip k o (equal_then o x k tie.0 ∙ flipped k x below))
    (λ greater. ineq_order.trans k.candidate.cut x.candidate.cut o.candidate.cut below (flip x o greater))
    (not_less (cut_cmp o x) (key_cmp o.key x.key) (all_in (λ other. is_lt (kept_cmp other x) ≡ false) cuts o sorted.0 rest)))
    is

listing_from : (k : Kept) (cuts : List Kept) → AreSorted (k ∷ cuts) → IsListing (k ∷ cuts) (dedup_from same_cut k cuts)
listing_from k [] sorted = record {
  rises = rises_cons ineq_cmp ineq_order (λ (c : Kept). c.candidate.cut) k [] (λ y is. absurd is) (rises_none ineq_cmp ineq_order (λ (c : Kept). c.candidate.cut));
  members = (λ m is. is);
  least = (λ m is other at same. ⊎_elim (λ e. ⊎_elim (λ f. subst (λ (z : Kept). is_key_less z.key m.key ≡ false) (sym (f ∙ sym e)) (key_irreflexive m.key)) (λ no. absurd no) at) (λ no. absurd no) is);
  each = (λ p at. ⊎_elim (λ e. (k, inl refl, subst (λ (z : Kept). cut_cmp z k ≡ Equal) (sym e) (tied k))) (λ no. absurd no) at);
}
listing_from k (x ∷ cuts) sorted =
    let K : Bool → Type 0 = λ b. IsListing (k ∷ x ∷ cuts) (cond b (dedup_from same_cut k cuts) (k ∷ dedup_from same_cut x cuts)) in
    ⊎_elim
    (λ tie. subst K (sym (ap is_eq tie.0)) (with_tie k x cuts (dedup_from same_cut k cuts) tie.0 tie.1 (listing_from k cuts (sorted.0.1, sorted.1.1))))
    (λ greater. subst K (sym (ap is_eq greater)) (with_least k (x ∷ cuts) (dedup_from same_cut x cuts) (above_all k x cuts (flip k x greater) sorted.1) (listing_from x cuts sorted.1)))
    (not_less (cut_cmp x k) (key_cmp x.key k.key) sorted.0.0)

listing_dedup : (cuts : List Kept) → AreSorted cuts → IsListing cuts (dedup same_cut cuts)
listing_dedup [] sorted = record { rises = rises_none ineq_cmp ineq_order (λ (c : Kept). c.candidate.cut); members = (λ k is. is); least = (λ k is. absurd is); each = (λ k is. absurd is) }
listing_dedup (k ∷ cuts) sorted = listing_from k cuts sorted

listing_moved : (cuts others kept : List Kept) → ((k : Kept) → IsIn k cuts → IsIn k others) → ((k : Kept) → IsIn k others → IsIn k cuts) → IsListing others kept → IsListing cuts kept
listing_moved cuts others kept to from l = record {
  rises = l.rises;
  members = (λ k is. from k (l.members k is));
  least = (λ k is other at same. l.least k is other (to other at) same);
  each = (λ p at. l.each p (to p at));
}

pub sorted_listing : (cuts sorted kept : List Kept) → IsPermutation cuts sorted → IsSortedBy (λ a b. is_lt (kept_cmp a b)) sorted → kept ≡ dedup same_cut sorted → IsListing cuts kept
sorted_listing cuts sorted kept moved up is =
    subst (IsListing cuts) (sym is) (listing_moved cuts sorted (dedup same_cut sorted) (permuted cuts sorted moved) (permuted sorted cuts (IsPermutation-sym cuts sorted moved)) (listing_dedup sorted (are_sorted sorted up)))

-- ---- keys that are sorted

keeps_from : {A : Type 0} (eq : A → A → Bool) → ((x y : A) → eq x y ≡ true → x ≡ y) → (k : A) (xs : List A) (m : A) → IsIn m (k ∷ xs) → IsIn m (dedup_from eq k xs)
keeps_from eq same k [] m is = is
keeps_from eq same k (x ∷ xs) m is =
    let K : Bool → Type 0 = λ b. IsIn m (cond b (dedup_from eq k xs) (k ∷ dedup_from eq x xs)) in
    by_bool (eq x k)
    (λ e. subst K (sym e) (keeps_from eq same k xs m (⊎_elim (λ s. inl s) (λ later. ⊎_elim (λ s. inl (s ∙ same x k e)) (λ rest. inr rest) later) is)))
    (λ e. subst K (sym e) (⊎_elim (λ s. inl s) (λ later. inr (keeps_from eq same x xs m later)) is))

keeps_all : {A : Type 0} (eq : A → A → Bool) → ((x y : A) → eq x y ≡ true → x ≡ y) → (xs : List A) (m : A) → IsIn m xs → IsIn m (dedup eq xs)
keeps_all eq same [] m is = is
keeps_all eq same (k ∷ xs) m is = keeps_from eq same k xs m is

abbrev pub same_key : Key → Key → Bool
same_key a b = (a.0 == b.0) && (a.1 == b.1)

then_eq : (a b : Ordering) → is_eq (ordering_then a b) ≡ (is_eq a && is_eq b)
then_eq Less b = refl
then_eq Equal b = refl
then_eq Greater b = refl

key_ties : (a b : Key) → same_key a b ≡ eq_by_cmp key_cmp a b
key_ties a b = sym (then_eq (nat_cmp a.0 b.0) (nat_cmp a.1 b.1) ∙ ap (λ z. z && is_eq (nat_cmp a.1 b.1)) (unsigned_tied a.0 b.0) ∙ ap (λ z. (a.0 == b.0) && z) (unsigned_tied a.1 b.1))

pub sorted_keys : (keys sorted kept : List Key) → IsPermutation keys sorted → IsSorted key_cmp sorted → kept ≡ dedup same_key sorted → kept ≡ sorted_by key_cmp keys
sorted_keys keys sorted kept moved up is =
    let itself : Key → Key = λ key. key in
    let same : (a b : Key) → same_key a b ≡ true → a ≡ b = λ a b e. key_same a b (is_eq_equal (key_cmp a b) (sym (key_ties a b) ∙ e)) in
    is ∙ unique key_cmp key_order itself (dedup same_key sorted) (sorted_by key_cmp keys) (IsStrictlySortedBy-dedup key_order key_ties sorted up) (rises_sorted key_cmp key_order itself keys)
    (λ k at. sorted_in key_cmp key_order itself keys (λ a b first second tie. key_same a b tie) k (permuted sorted keys (IsPermutation-sym keys sorted moved) k (contains_in sorted k (Contains-from_dedup same_key sorted k (in_contains (dedup same_key sorted) k at)))))
    (λ k at. keeps_all same_key same sorted k (permuted keys sorted moved k (in_sorted key_cmp key_order itself k keys at)))
