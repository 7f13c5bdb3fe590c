-- The orders of inequalities, of keys, and of cuts by both.
use Rattle.std.proofs.Common.{◌≡◌, ℕ, ℤ, List, [], ◌∷◌, false, refl, sym, ap, ◌∙◌}
use Rattle.std.specs.Cmp.{IsStrictWeakOrder, IsTotalOrder}
use Rattle.std.specs.Cmp.Lexicographic.{slice_cmp}
use Rattle.std.specs.Ordering.{int_cmp, is_lt, nat_cmp, ordering_reverse, ordering_then}
use Rattle.std.specs.declared.cmp.Ordering.{Ordering}
use Rattle.std.specs.declared.cmp.Ordering.TheVariants.{Less, Equal, Greater}
use Rattle.std.proofs.lemmas.Cmp.{then_total, on_total, lists_total, nat_cmp_total, int_cmp_total, ranked, int_ranked, tied_itself}
use Rattle.std.proofs.lemmas.List.Sorted.{ranks_by}
use Rattle.cgl_model.specs.declared.linear.Ineq.{Ineq}
use Rattle.cgl_model.specs.Inequality.{Term}
use Rattle.cgl_pool.specs.declared.kept.Kept.{Kept}
use Rattle.cgl_pool.specs.InequalityOrder.{ineq_cmp, term_cmp}
use Rattle.cgl_pool.specs.Listed.{Key, is_key_less, key_cmp}
use Rattle.cgl_pool.specs.Sorting.{kept_cmp}

term_order : IsTotalOrder term_cmp
term_order = then_total (on_total (λ (t : Term). t.0) nat_cmp_total) (on_total (λ (t : Term). t.1) int_cmp_total)

pub ineq_order : IsTotalOrder ineq_cmp
ineq_order = then_total (on_total (λ (c : Ineq). c.terms) (lists_total term_order)) (on_total (λ (c : Ineq). c.rhs) int_cmp_total)

pub key_order : IsTotalOrder key_cmp
key_order = then_total (on_total (λ (k : Key). k.0) nat_cmp_total) (on_total (λ (k : Key). k.1) nat_cmp_total)

pub kept_order : IsTotalOrder kept_cmp
kept_order = then_total (on_total (λ (k : Kept). k.candidate.cut) ineq_order) (on_total (λ (k : Kept). k.key) key_order)

-- ---- what compares as equal is equal

then_equal : (a b : Ordering) → ordering_then a b ≡ Equal → (a ≡ Equal) × (b ≡ Equal)
then_equal Less b e = absurd (let f : Less ≡ Equal = e in cc)
then_equal Equal b e = (refl, e)
then_equal Greater b e = absurd (let f : Greater ≡ Equal = e in cc)

nat_same : (x y : ℕ) → nat_cmp x y ≡ Equal → x ≡ y
nat_same x y e = ranked x y Equal (sym e)

int_same : (x y : ℤ) → int_cmp x y ≡ Equal → x ≡ y
int_same x y e = int_ranked x y Equal (sym e)

term_same : (t u : Term) → term_cmp t u ≡ Equal → t ≡ u
term_same (j, n) (k, m) e =
    let both = then_equal (nat_cmp j k) (int_cmp n m) e in
    let column : j ≡ k = nat_same j k both.0 in
    let number : n ≡ m = int_same n m both.1 in
    cc

terms_same : (xs ys : List Term) → slice_cmp term_cmp xs ys ≡ Equal → xs ≡ ys
terms_same [] [] e = refl
terms_same [] (u ∷ ys) e = absurd (let f : Less ≡ Equal = e in cc)
terms_same (t ∷ xs) [] e = absurd (let f : Greater ≡ Equal = e in cc)
terms_same (t ∷ xs) (u ∷ ys) e =
    let both = then_equal (term_cmp t u) (slice_cmp term_cmp xs ys) e in
    let head : t ≡ u = term_same t u both.0 in
    let tail : xs ≡ ys = terms_same xs ys both.1 in
    cc

pub ineq_same : (a b : Ineq) → ineq_cmp a b ≡ Equal → a ≡ b
ineq_same a b e =
    let both = then_equal (slice_cmp term_cmp a.terms b.terms) (int_cmp a.rhs b.rhs) e in
    let of_parts : List Term → ℤ → Ineq = λ terms rhs. record { terms = terms; rhs = rhs } in
    ap (λ z. of_parts z a.rhs) (terms_same a.terms b.terms both.0) ∙ ap (λ z. of_parts b.terms z) (int_same a.rhs b.rhs both.1)

pub key_same : (a b : Key) → key_cmp a b ≡ Equal → a ≡ b
key_same (a, i) (b, j) e =
    let both = then_equal (nat_cmp a b) (nat_cmp i j) e in
    let first : a ≡ b = nat_same a b both.0 in
    let second : i ≡ j = nat_same i j both.1 in
    cc

-- ---- lesser keys

pub key_ranks : IsStrictWeakOrder is_key_less
key_ranks = ranks_by key_order (λ (k : Key). k)

neither : (o : Ordering) → is_lt o ≡ false → is_lt (ordering_reverse o) ≡ false → o ≡ Equal
neither Less e f = cc
neither Equal e f = refl
neither Greater e f = cc

pub key_total : (a b : Key) → is_key_less a b ≡ false → is_key_less b a ≡ false → a ≡ b
key_total a b e f = key_same a b (neither (key_cmp a b) e (ap is_lt (sym (key_order.antisymm b a)) ∙ f))

pub key_irreflexive : (a : Key) → is_key_less a a ≡ false
key_irreflexive a = ap is_lt (tied_itself key_order a)
