-- The items that are served: their keys differ, and they are served one by one.
use Rattle.std.proofs.Common.{◌≡◌, ◌≢◌, ℕ, zero, suc, ◌+◌, ◌-◌, ◌<◌, List, [], ◌∷◌, ◌++◌, length, get_or, take, refl, sym, ap, ◌∙◌, arith, append_assoc}
use Rattle.std.proofs.lemmas.List.{append-nil, take_more}
use Rattle.std.specs.List.{AllByRecursion}
use Rattle.cgl_gen.specs.declared.stamped.Stamped.{Stamped}
use Rattle.cgl_gen.specs.Setting.{Setting}
use Rattle.cgl_pool.specs.Does.{Does, AreRising}
use Rattle.cgl_pool.specs.Listed.{HaveDistinctKeys, Key}
use Rattle.cgl_pool.specs.Served.{all_items, first_items, served_items, stamped}

-- ---- lists that are joined

pub all_append : {A : Type 0} (P : A → Type 0) (xs ys : List A) → AllByRecursion P xs → AllByRecursion P ys → AllByRecursion P (xs ++ ys)
all_append P [] ys a b = b
all_append P (x ∷ xs) ys a b = (a.0, all_append P xs ys a.1 b)

distinct_append : (xs ys : List Stamped) → HaveDistinctKeys xs → HaveDistinctKeys ys → AllByRecursion (λ x. AllByRecursion (λ y. x.key ≢ y.key) ys) xs → HaveDistinctKeys (xs ++ ys)
distinct_append [] ys a b all = b
distinct_append (x ∷ xs) ys a b all = (all_append (λ y. x.key ≢ y.key) xs ys a.0 all.0, distinct_append xs ys a.1 b all.1)

abbrev key_of : ℕ → ℕ → Key
key_of a i = (a, i)

first_of : (a b i j : ℕ) (k l : Key) → k ≡ (a, i) → l ≡ (b, j) → k ≡ l → a ≡ b
first_of a b i j k l e f s = ap (λ (z : Key). z.0) (sym e ∙ s ∙ f)

second_of : (a b i j : ℕ) (k l : Key) → k ≡ (a, i) → l ≡ (b, j) → k ≡ l → i ≡ j
second_of a b i j k l e f s = ap (λ (z : Key). z.1) (sym e ∙ s ∙ f)

apart_numbers : (a b i j : ℕ) → a < b → key_of a i ≢ key_of b j
apart_numbers a b i j h e = let same = first_of a b i j (a, i) (b, j) refl refl e in omega (arith, h, same)

apart_items : (a b i j : ℕ) → j < i → key_of a i ≢ key_of b j
apart_items a b i j h e = let same = second_of a b i j (a, i) (b, j) refl refl e in omega (arith, h, same)

module _ {G : Type 0} (d : Does G) where
  -- ---- what all served items have

  all_first : (P : Stamped → Type 0) (s : Setting) (g : G) (n : ℕ) → ((i : ℕ) → i < n → P (stamped d s g i)) → AllByRecursion P (first_items d s g n)
  all_first P s g zero f = tt
  all_first P s g (suc n) f = (f n (omega arith), all_first P s g n (λ i h. f i (omega arith)))

  pub all_served : (P : Stamped → Type 0) (s : Setting) (gens : List G) (served : List ℕ) → AllByRecursion (λ g. (i : ℕ) → P (stamped d s g i)) gens → AllByRecursion P (served_items d s gens served)
  all_served P s [] served all = tt
  all_served P s (g ∷ gens) [] all = tt
  all_served P s (g ∷ gens) (n ∷ served) all = all_append P (first_items d s g n) (served_items d s gens served) (all_first P s g n (λ i h. all.0 i)) (all_served P s gens served all.1)

  -- ---- keys that differ

  first_distinct : (s : Setting) (g : G) (n : ℕ) → HaveDistinctKeys (first_items d s g n)
  first_distinct s g zero = tt
  first_distinct s g (suc n) = (all_first (λ other. key_of (d.number g) n ≢ other.key) s g n (λ i h. apart_items (d.number g) (d.number g) n i h), first_distinct s g n)

  later : (g : G) (i : ℕ) (gens : List G) → AllByRecursion (λ h. d.number g < d.number h) gens → AllByRecursion (λ h. (j : ℕ) → key_of (d.number g) i ≢ key_of (d.number h) j) gens
  later g i [] all = tt
  later g i (h ∷ gens) all = ((λ j. apart_numbers (d.number g) (d.number h) i j all.0), later g i gens all.1)

  pub served_distinct : (s : Setting) (gens : List G) (served : List ℕ) → AreRising d gens → HaveDistinctKeys (served_items d s gens served)
  served_distinct s [] served r = tt
  served_distinct s (g ∷ gens) [] r = tt
  served_distinct s (g ∷ gens) (n ∷ served) r =
      let rest = served_items d s gens served in
      distinct_append (first_items d s g n) rest (first_distinct s g n) (served_distinct s gens served r.1)
      (all_first (λ x. AllByRecursion (λ y. x.key ≢ y.key) rest) s g n (λ i h. all_served (λ y. key_of (d.number g) i ≢ y.key) s gens served (later g i gens r.0)))

  -- ---- one by one

  -- one item more, from the last one down
  pub first_more : (s : Setting) (g : G) (n : ℕ) (before now new : List Stamped) (x : Stamped) → 0 < n → now ++ first_items d s g n ≡ before → x ≡ stamped d s g (n - 1) → new ≡ now ++ x ∷ []
      → new ++ first_items d s g (n - 1) ≡ before
  first_more s g zero before now new x h is e f = absurd (omega arith)
  first_more s g (suc n) before now new x h is e f =
      let one : suc n - 1 ≡ n = omega arith in
      let rest = first_items d s g n in
      ap (λ k. new ++ first_items d s g k) one ∙ ap (λ z. z ++ rest) f ∙ append_assoc now (x ∷ []) rest ∙ ap (λ z. now ++ z ∷ rest) (e ∙ ap (stamped d s g) one) ∙ is

  joined : (s : Setting) (xs ys : List G) → all_items d s (xs ++ ys) ≡ all_items d s xs ++ all_items d s ys
  joined s [] ys = refl
  joined s (g ∷ xs) ys = ap (λ z. first_items d s g (d.count g s) ++ z) (joined s xs ys) ∙ sym (append_assoc (first_items d s g (d.count g s)) (all_items d s xs) (all_items d s ys))

  -- the items of one generator more
  pub served_more : (s : Setting) (gens : List G) (i : ℕ) (g : G) (now new : List Stamped) → i < length gens → g ≡ get_or gens i g → now ≡ all_items d s (take i gens)
      → new ≡ now ++ first_items d s g (d.count g s) → new ≡ all_items d s (take (i + 1) gens)
  served_more s gens i g now new h is before e =
      let here : all_items d s (g ∷ []) ≡ first_items d s g (d.count g s) = append-nil (first_items d s g (d.count g s)) in
      e ∙ ap (λ z. z ++ first_items d s g (d.count g s)) before ∙ ap (λ z. all_items d s (take i gens) ++ z) (sym here) ∙ sym (joined s (take i gens) (g ∷ []))
      ∙ ap (λ z. all_items d s (take i gens ++ z ∷ [])) is ∙ sym (ap (all_items d s) (take_more gens i g h))
