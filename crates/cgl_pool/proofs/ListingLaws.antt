-- The cuts that are listed are the one listing of the cuts among the answers.
use Rattle.std.proofs.Common.{◌≡◌, ◌≢◌, ◌⊎◌, inl, inr, ⊎_elim, List, [], ◌∷◌, Option, Some, None, Bool, true, false, not, ◌&&◌, ◌||◌, cond, refl, sym, ap, ◌∙◌, subst}
use Rattle.std.specs.Prelude.{filter}
use Rattle.std.specs.List.{AllByRecursion, list_any, cons_option}
use Rattle.std.specs.Ordering.{is_eq, ordering_reverse}
use Rattle.std.specs.declared.cmp.Ordering.{Ordering}
use Rattle.std.specs.declared.cmp.Ordering.TheVariants.{Less, Equal, Greater}
use Rattle.std.proofs.lemmas.Bool.{true≢false, false≢true}
use Rattle.std.proofs.lemmas.Cmp.{tied_itself}
use Rattle.cgl_model.specs.declared.linear.Ineq.{Ineq}
use Rattle.cgl_derive.specs.declared.answer.Answer.{Answer}
use Rattle.cgl_derive.specs.declared.answer.Answer.TheVariants.{Nothing, Cut, Wide}
use Rattle.cgl_gen.specs.declared.stamped.Stamped.{Stamped}
use Rattle.cgl_pool.specs.declared.kept.Kept.{Kept}
use Rattle.cgl_pool.specs.InequalityOrder.{ineq_cmp}
use Rattle.cgl_pool.specs.Listed.{Key, is_key_less, HaveDistinctKeys, kept_by, cut_cmp, cuts_among, same_cut, is_least, listed, sorted_by, IsIn, IsListing}
use Rattle.cgl_pool.proofs.OrderLaws.{ineq_order, key_irreflexive, key_ranks, key_total}
use Rattle.cgl_pool.proofs.SortedLaws.{in_sorted, rises_sorted, sorted_in, unique}

-- ---- tests

pub by_bool : {P : Type 0} (b : Bool) → (b ≡ true → P) → (b ≡ false → P) → P
by_bool true f g = f refl
by_bool false f g = g refl

or_false : (a b : Bool) → (a || b) ≡ false → (a ≡ false) × (b ≡ false)
or_false true b e = absurd (true≢false e)
or_false false b e = (refl, e)

false_or : (a b : Bool) → a ≡ false → b ≡ false → (a || b) ≡ false
false_or true b e f = absurd (true≢false e)
false_or false b e f = f

first_and : (a b : Bool) → a ≡ true → (a && b) ≡ false → b ≡ false
first_and true b e f = f
first_and false b e f = absurd (false≢true e)

both_and : (a b : Bool) → (a ≡ true → b ≡ false) → (a && b) ≡ false
both_and true b f = f refl
both_and false b f = refl

-- ---- the order

pub tied : (k : Kept) → cut_cmp k k ≡ Equal
tied k = tied_itself ineq_order k.candidate.cut

pub equal_equal : (a b : Kept) → cut_cmp a b ≡ Equal → cut_cmp b a ≡ Equal
equal_equal a b e = ineq_order.antisymm b.candidate.cut a.candidate.cut ∙ ap ordering_reverse e

pub equal_then : (a b c : Kept) → cut_cmp a b ≡ Equal → cut_cmp a c ≡ cut_cmp b c
equal_then a b c = ineq_order.congr a.candidate.cut b.candidate.cut c.candidate.cut

-- ---- the least of those with one inequality

not_true : (b : Bool) → not b ≡ true → b ≡ false
not_true true e = absurd (false≢true e)
not_true false e = refl

none_in : (q : Kept → Bool) (cuts : List Kept) (k : Kept) → list_any q cuts ≡ false → IsIn k cuts → q k ≡ false
none_in q [] k e is = absurd is
none_in q (other ∷ cuts) k e is =
    let both = or_false (q other) (list_any q cuts) e in
    ⊎_elim (λ s. subst (λ (z : Kept). q z ≡ false) (sym s) both.0) (λ rest. none_in q cuts k both.1 rest) is

in_none : (q : Kept → Bool) (cuts : List Kept) → ((k : Kept) → IsIn k cuts → q k ≡ false) → list_any q cuts ≡ false
in_none q [] f = refl
in_none q (other ∷ cuts) f = false_or (q other) (list_any q cuts) (f other (inl refl)) (in_none q cuts (λ k is. f k (inr is)))

least_is : (cuts : List Kept) (k other : Kept) → is_least cuts k ≡ true → IsIn other cuts → cut_cmp k other ≡ Equal → is_key_less other.key k.key ≡ false
least_is cuts k other e is same =
    let test = none_in (λ o. same_cut k o && is_key_less o.key k.key) cuts other (not_true _ e) is in
    first_and (same_cut k other) (is_key_less other.key k.key) (ap is_eq same) test

pub is_eq_equal : (o : Ordering) → is_eq o ≡ true → o ≡ Equal
is_eq_equal Less e = absurd (false≢true e)
is_eq_equal Equal e = refl
is_eq_equal Greater e = absurd (false≢true e)

is_least_if : (cuts : List Kept) (k : Kept) → ((other : Kept) → IsIn other cuts → cut_cmp k other ≡ Equal → is_key_less other.key k.key ≡ false) → is_least cuts k ≡ true
is_least_if cuts k f = ap not (in_none (λ o. same_cut k o && is_key_less o.key k.key) cuts (λ o is. both_and (same_cut k o) (is_key_less o.key k.key) (λ same. f o is (is_eq_equal (cut_cmp k o) same))))

in_filter : (p : Kept → Bool) (cuts : List Kept) (k : Kept) → IsIn k (filter p cuts) → IsIn k cuts × (p k ≡ true)
in_filter p [] k is = absurd is
in_filter p (other ∷ cuts) k is =
    by_bool (p other)
    (λ e.
    let here : IsIn k (other ∷ filter p cuts) = subst (IsIn k) (ap (λ b. cond b (other ∷ filter p cuts) (filter p cuts)) e) is in
    ⊎_elim (λ s. (inl s, subst (λ (z : Kept). p z ≡ true) (sym s) e)) (λ rest. let more = in_filter p cuts k rest in (inr more.0, more.1)) here)
    (λ e.
    let here : IsIn k (filter p cuts) = subst (IsIn k) (ap (λ b. cond b (other ∷ filter p cuts) (filter p cuts)) e) is in
    let more = in_filter p cuts k here in (inr more.0, more.1))

filter_in : (p : Kept → Bool) (cuts : List Kept) (k : Kept) → IsIn k cuts → p k ≡ true → IsIn k (filter p cuts)
filter_in p [] k is h = absurd is
filter_in p (other ∷ cuts) k is h =
    ⊎_elim
    (λ s.
    let e : p other ≡ true = subst (λ (z : Kept). p z ≡ true) s h in
    subst (IsIn k) (sym (ap (λ b. cond b (other ∷ filter p cuts) (filter p cuts)) e)) (inl s))
    (λ rest. by_bool (p other)
    (λ e. subst (IsIn k) (sym (ap (λ b. cond b (other ∷ filter p cuts) (filter p cuts)) e)) (inr (filter_in p cuts k rest h)))
    (λ e. subst (IsIn k) (sym (ap (λ b. cond b (other ∷ filter p cuts) (filter p cuts)) e)) (filter_in p cuts k rest h)))
    is

-- ---- a cut with the least key of those with one inequality

abbrev IsLeast : List Kept → Kept → Type 0
IsLeast cuts k = (other : Kept) → IsIn other cuts → cut_cmp k other ≡ Equal → is_key_less other.key k.key ≡ false

-- which has the inequality of p
abbrev HasLeast : List Kept → Kept → Type 0
HasLeast cuts p = (k : Kept) × IsIn k cuts × (cut_cmp p k ≡ Equal) × IsLeast cuts k

-- of two with one inequality, by their keys
lesser : (other : Kept) (cuts : List Kept) (p : Kept) (has : HasLeast cuts p) → cut_cmp p other ≡ Equal → (b : Bool) → is_key_less other.key has.0.key ≡ b → HasLeast (other ∷ cuts) p
lesser other cuts p has same true e = (
  other,
  inl refl,
  same,
  λ m is tie. ⊎_elim
      (λ s. subst (λ (z : Kept). is_key_less z.key other.key ≡ false) (sym s) (key_irreflexive other.key))
      (λ rest. key_ranks.chain m.key has.0.key other.key
      (has.3 m rest (equal_then has.0 other m (equal_then has.0 p other (equal_equal p has.0 has.2) ∙ same) ∙ tie))
      (key_ranks.one_way other.key has.0.key e))
      is,
)
lesser other cuts p has same false e =
    (has.0, inr has.1, has.2, λ m is tie. ⊎_elim (λ s. subst (λ (z : Kept). is_key_less z.key has.0.key ≡ false) (sym s) e) (λ rest. has.3 m rest tie) is)

other_apart : (p other : Kept) → is_eq (cut_cmp p other) ≡ false → cut_cmp p other ≡ Equal → ⊥
other_apart p other e same = true≢false (sym (ap is_eq same) ∙ e)

-- none of the cuts has the inequality of p, or there is a least one
least_or_none : (cuts : List Kept) (p : Kept) → ((m : Kept) → IsIn m cuts → cut_cmp p m ≡ Equal → ⊥) ⊎ HasLeast cuts p
least_or_none [] p = inl (λ m is. absurd is)
least_or_none (other ∷ cuts) p = by_bool (is_eq (cut_cmp p other))
    (λ e.
    let same = is_eq_equal (cut_cmp p other) e in
    inr (⊎_elim
    (λ none. (
      other,
      inl refl,
      same,
      λ m is tie. ⊎_elim
          (λ s. subst (λ (z : Kept). is_key_less z.key other.key ≡ false) (sym s) (key_irreflexive other.key))
          (λ rest. absurd (none m rest (equal_then p other m same ∙ tie)))
          is,
    ))
    (λ has. lesser other cuts p has same (is_key_less other.key has.0.key) refl)
    (least_or_none cuts p)))
    (λ e. ⊎_elim
    (λ none. inl (λ m is tie. ⊎_elim (λ s. other_apart p other e (subst (λ (z : Kept). cut_cmp p z ≡ Equal) s tie)) (λ rest. none m rest tie) is))
    (λ has. inr (
      has.0,
      inr has.1,
      has.2,
      λ m is tie. ⊎_elim
          (λ s. absurd (other_apart p other e (equal_then p has.0 other has.2 ∙ subst (λ (z : Kept). cut_cmp has.0 z ≡ Equal) s tie)))
          (λ rest. has.3 m rest tie)
          is,
    ))
    (least_or_none cuts p))

least_of : (cuts : List Kept) (p : Kept) → IsIn p cuts → HasLeast cuts p
least_of cuts p is = ⊎_elim (λ none. absurd (none p is (tied p))) (λ has. has) (least_or_none cuts p)

-- ---- keys that differ

abbrev AreApartKeys : List Kept → Type 0
AreApartKeys [] = Unit {0}
AreApartKeys (k ∷ cuts) = ((other : Kept) → IsIn other cuts → k.key ≡ other.key → ⊥) × AreApartKeys cuts

same_kept : (cuts : List Kept) (a b : Kept) → AreApartKeys cuts → IsIn a cuts → IsIn b cuts → a.key ≡ b.key → a ≡ b
same_kept [] a b apart is at e = absurd is
same_kept (k ∷ cuts) a b apart is at e =
    ⊎_elim
    (λ s. ⊎_elim (λ t. s ∙ sym t) (λ rest. absurd (apart.0 b rest (ap (λ z. z.key) (sym s) ∙ e))) at)
    (λ rest. ⊎_elim (λ t. absurd (apart.0 a rest (ap (λ z. z.key) (sym t) ∙ sym e))) (λ more. same_kept cuts a b apart.1 rest more e) at)
    is

-- ---- the listing

both_least : (cuts : List Kept) (a b : Kept) → IsIn a cuts → IsIn b cuts → is_least cuts a ≡ true → is_least cuts b ≡ true → cut_cmp a b ≡ Equal → a.key ≡ b.key
both_least cuts a b is at e f same = key_total a.key b.key (least_is cuts b a f is (equal_equal a b same)) (least_is cuts a b e at same)

listing_is : (cuts : List Kept) → AreApartKeys cuts → IsListing cuts (sorted_by cut_cmp (filter (is_least cuts) cuts))
listing_is cuts apart =
    let some = filter (is_least cuts) cuts in
    let cut_of : Kept → Ineq = λ k. k.candidate.cut in
    let from : (m : Kept) → IsIn m (sorted_by cut_cmp some) → IsIn m cuts × (is_least cuts m ≡ true) = λ m is. in_filter (is_least cuts) cuts m (in_sorted ineq_cmp ineq_order cut_of m some is) in
    let ties : (a b : Kept) → IsIn a some → IsIn b some → cut_cmp a b ≡ Equal → a ≡ b = λ a b is at same.
    let first = in_filter (is_least cuts) cuts a is in
    let second = in_filter (is_least cuts) cuts b at in
    same_kept cuts a b apart first.0 second.0 (both_least cuts a b first.0 second.0 first.1 second.1 same) in
    record {
      rises = rises_sorted ineq_cmp ineq_order cut_of some;
      members = (λ k is. (from k is).0);
      least = (λ k is other at same. least_is cuts k other (from k is).1 at same);
      each = (λ p is.
          let has = least_of cuts p is in
          (has.0, sorted_in ineq_cmp ineq_order cut_of some ties has.0 (filter_in (is_least cuts) cuts has.0 has.1 (is_least_if cuts has.0 has.3)), has.2));
    }

-- ---- answers

cuts_cons : (s : Stamped) (answers : List Stamped) (o : Option Kept) → kept_by s.key s.answer ≡ o → cuts_among (s ∷ answers) ≡ cons_option o (cuts_among answers)
cuts_cons s answers o e = ap (λ z. cons_option z (cuts_among answers)) e

kept_key : (key : Key) (answer : Answer) (k : Kept) → kept_by key answer ≡ Some k → k.key ≡ key
kept_key key Nothing k e = cc
kept_key key (Cut c) k e = let f : k ≡ record { key = key; candidate = c } = cc in ap (λ (z : Kept). z.key) f
kept_key key Wide k e = cc

by_option : {P : Type 0} (o : Option Kept) → (o ≡ None → P) → ((k : Kept) → o ≡ Some k → P) → P
by_option None f g = f refl
by_option (Some k) f g = g k refl

other_key : (key : Key) (answers : List Stamped) (k : Kept) → AllByRecursion (λ s. key ≢ s.key) answers → IsIn k (cuts_among answers) → key ≡ k.key → ⊥
other_key key [] k all is e = absurd is
other_key key (s ∷ answers) k all is e = by_option (kept_by s.key s.answer)
    (λ none. other_key key answers k all.1 (subst (IsIn k) (cuts_cons s answers None none) is) e)
    (λ m some.
    let here : IsIn k (m ∷ cuts_among answers) = subst (IsIn k) (cuts_cons s answers (Some m) some) is in
    ⊎_elim (λ t. all.0 (e ∙ ap (λ (z : Kept). z.key) t ∙ kept_key s.key s.answer m some)) (λ rest. other_key key answers k all.1 rest e) here)

apart_keys : (answers : List Stamped) → HaveDistinctKeys answers → AreApartKeys (cuts_among answers)
apart_keys [] d = tt
apart_keys (s ∷ answers) d = by_option (kept_by s.key s.answer)
    (λ none. subst AreApartKeys (sym (cuts_cons s answers None none)) (apart_keys answers d.1))
    (λ k some. subst AreApartKeys (sym (cuts_cons s answers (Some k) some))
    ((λ other is e. other_key s.key answers other d.0 is (sym (kept_key s.key s.answer k some) ∙ e)), apart_keys answers d.1))

pub listing_of : (answers : List Stamped) → HaveDistinctKeys answers → IsListing (cuts_among answers) (listed answers)
unfolding listed
listing_of answers d = listing_is (cuts_among answers) (apart_keys answers d)

-- ---- any order of the cuts

members_go : (cuts others kept rest : List Kept) → AreApartKeys cuts → ((k : Kept) → IsIn k cuts → IsIn k others) → ((k : Kept) → IsIn k others → IsIn k cuts) → IsListing cuts kept → IsListing others rest → (m : Kept) → IsIn m kept → IsIn m rest
members_go cuts others kept rest apart to from l r m is =
    let at = l.members m is in
    let k = r.each m (to m at) in
    let k_at = from k.0 (r.members k.0 k.1) in
    let keys = key_total m.key k.0.key (r.least k.0 k.1 m (to m at) (equal_equal m k.0 k.2)) (l.least m is k.0 k_at k.2) in
    subst (λ (z : Kept). IsIn z rest) (sym (same_kept cuts m k.0 apart at k_at keys)) k.1

-- a listing of the cuts among answers is the list of them
pub one_listing : (answers : List Stamped) (kept : List Kept) → HaveDistinctKeys answers → IsListing (cuts_among answers) kept → kept ≡ listed answers
one_listing answers kept d l =
    let cuts = cuts_among answers in
    let r = listing_of answers d in
    let apart = apart_keys answers d in
    unique ineq_cmp ineq_order (λ k. k.candidate.cut) kept (listed answers) l.rises r.rises (members_go cuts cuts kept (listed answers) apart (λ k is. is) (λ k is. is) l r) (members_go cuts cuts (listed answers) kept apart (λ k is. is) (λ k is. is) r l)

pub same_listing : (a b : List Stamped) → HaveDistinctKeys a → HaveDistinctKeys b → ((k : Kept) → IsIn k (cuts_among a) → IsIn k (cuts_among b)) → ((k : Kept) → IsIn k (cuts_among b) → IsIn k (cuts_among a)) → listed a ≡ listed b
same_listing a b da db to from =
    let l = listing_of a da in
    let r = listing_of b db in
    unique ineq_cmp ineq_order (λ k. k.candidate.cut) (listed a) (listed b) l.rises r.rises (members_go (cuts_among a) (cuts_among b) (listed a) (listed b) (apart_keys a da) to from l r) (members_go (cuts_among b) (cuts_among a) (listed b) (listed a) (apart_keys b db) from to r l)
