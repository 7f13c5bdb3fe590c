-- Lists that rise by an order: their members determine them, and an insertion keeps the order.
use Rattle.std.proofs.Common.{◌≡◌, ◌⊎◌, inl, inr, ⊎_elim, List, [], ◌∷◌, refl, sym, ap, ◌∙◌, subst}
use Rattle.std.specs.List.{AllByRecursion}
use Rattle.std.specs.List.Sorted.{IsStrictlySortedBy}
use Rattle.std.specs.Cmp.{IsTotalOrder}
use Rattle.std.specs.Ordering.{match_ordering, ordering_reverse}
use Rattle.std.specs.declared.cmp.Ordering.{Ordering}
use Rattle.std.specs.declared.cmp.Ordering.TheVariants.{Less, Equal, Greater}
use Rattle.std.proofs.lemmas.Cmp.{tied_itself}
use Rattle.cgl_pool.specs.Listed.{IsIn, insert_by, sorted_by}

pub all_in : {A : Type 0} (P : A → Type 0) (xs : List A) (x : A) → AllByRecursion P xs → IsIn x xs → P x
all_in P [] x all is = absurd is
all_in P (y ∷ xs) x all is = ⊎_elim (λ e. subst P (sym e) all.0) (λ rest. all_in P xs x all.1 rest) is

pub in_all : {A : Type 0} (P : A → Type 0) (xs : List A) → ((x : A) → IsIn x xs → P x) → AllByRecursion P xs
in_all P [] f = tt
in_all P (y ∷ xs) f = (f y (inl refl), in_all P xs (λ x is. f x (inr is)))

by_order : {P : Type 0} (o : Ordering) → (o ≡ Less → P) → (o ≡ Equal → P) → (o ≡ Greater → P) → P
by_order Less f g h = f refl
by_order Equal f g h = g refl
by_order Greater f g h = h refl

module _ {X K : Type 0} (R : K → K → Ordering) (o : IsTotalOrder R) (key : X → K) where
  abbrev cmp : X → X → Ordering
  cmp a b = R (key a) (key b)

  pub rises_cons : (x : X) (xs : List X) → ((y : X) → IsIn y xs → cmp x y ≡ Less) → IsStrictlySortedBy cmp xs → IsStrictlySortedBy cmp (x ∷ xs)
  unfolding IsStrictlySortedBy
  rises_cons x xs f r = (in_all (λ y. cmp x y ≡ Less) xs f, r)

  pub rises_head : (x : X) (xs : List X) → IsStrictlySortedBy cmp (x ∷ xs) → (y : X) → IsIn y xs → cmp x y ≡ Less
  unfolding IsStrictlySortedBy
  rises_head x xs r y is = all_in (λ z. cmp x z ≡ Less) xs y r.0 is

  pub rises_tail : (x : X) (xs : List X) → IsStrictlySortedBy cmp (x ∷ xs) → IsStrictlySortedBy cmp xs
  unfolding IsStrictlySortedBy
  rises_tail x xs r = r.1

  pub rises_none : IsStrictlySortedBy cmp []
  unfolding IsStrictlySortedBy
  rises_none = tt

  -- ---- two lists that rise and have the same members are one

  pub unique : (a b : List X) → IsStrictlySortedBy cmp a → IsStrictlySortedBy cmp b → ((m : X) → IsIn m a → IsIn m b) → ((m : X) → IsIn m b → IsIn m a) → a ≡ b
  unique [] [] ra rb to from = refl
  unique [] (y ∷ b) ra rb to from = absurd (from y (inl refl))
  unique (x ∷ a) [] ra rb to from = absurd (to x (inl refl))
  unique (x ∷ a) (y ∷ b) ra rb to from =
      let above_x : (m : X) → IsIn m a → cmp x m ≡ Less = rises_head x a ra in
      let above_y : (m : X) → IsIn m b → cmp y m ≡ Less = rises_head y b rb in
      let head : x ≡ y = ⊎_elim (λ s. s) (λ at. ⊎_elim (λ t. sym t) (λ rest. absurd (let e : Greater ≡ Less = sym (o.antisymm (key x) (key y) ∙ ap ordering_reverse (above_y x at)) ∙ above_x y rest in cc)) (from y (inl refl))) (to x (inl refl)) in
      let never : (m : X) → m ≡ x → cmp x m ≡ Less → ⊥ = λ m s e. let f : Less ≡ Equal = sym (subst (λ (z : X). cmp x z ≡ Less) s e) ∙ tied_itself o (key x) in cc in
      let to_rest : (m : X) → IsIn m a → IsIn m b = λ m is. ⊎_elim (λ s. absurd (never m (s ∙ sym head) (above_x m is))) (λ rest. rest) (to m (inr is)) in
      let from_rest : (m : X) → IsIn m b → IsIn m a = λ m is. ⊎_elim (λ s. absurd (never m s (subst (λ (z : X). cmp z m ≡ Less) (sym head) (above_y m is)))) (λ rest. rest) (from m (inr is)) in
      ap (λ z. z ∷ a) head ∙ ap (λ z. y ∷ z) (unique a b (rises_tail x a ra) (rises_tail y b rb) to_rest from_rest)

  -- ---- insertion

  abbrev Insert : X → X → List X → Ordering → List X
  Insert x y ys order = match_ordering order (x ∷ y ∷ ys) (y ∷ ys) (y ∷ insert_by cmp x ys)

  insert_is : (x y : X) (ys : List X) (order : Ordering) → cmp x y ≡ order → insert_by cmp x (y ∷ ys) ≡ Insert x y ys order
  insert_is x y ys order e = ap (Insert x y ys) e

  in_insert : (m x : X) (xs : List X) → IsIn m (insert_by cmp x xs) → (m ≡ x) ⊎ IsIn m xs
  in_insert m x [] is = is
  in_insert m x (y ∷ ys) is = by_order (cmp x y)
      (λ e. subst (IsIn m) (insert_is x y ys Less e) is)
      (λ e. inr (subst (IsIn m) (insert_is x y ys Equal e) is))
      (λ e.
      let here : IsIn m (y ∷ insert_by cmp x ys) = subst (IsIn m) (insert_is x y ys Greater e) is in
      ⊎_elim (λ s. inr (inl s)) (λ rest. ⊎_elim (λ s. inl s) (λ more. inr (inr more)) (in_insert m x ys rest)) here)

  stays : (m x : X) (xs : List X) → IsIn m xs → IsIn m (insert_by cmp x xs)
  stays m x [] is = absurd is
  stays m x (y ∷ ys) is = by_order (cmp x y)
      (λ e. subst (IsIn m) (sym (insert_is x y ys Less e)) (inr is))
      (λ e. subst (IsIn m) (sym (insert_is x y ys Equal e)) is)
      (λ e. subst (IsIn m) (sym (insert_is x y ys Greater e)) (⊎_elim (λ s. inl s) (λ rest. inr (stays m x ys rest)) is))

  -- where it is one with each that compares as equal
  is_there : (x : X) (xs : List X) → ((y : X) → IsIn y xs → cmp x y ≡ Equal → x ≡ y) → IsIn x (insert_by cmp x xs)
  is_there x [] ties = inl refl
  is_there x (y ∷ ys) ties = by_order (cmp x y)
      (λ e. subst (IsIn x) (sym (insert_is x y ys Less e)) (inl refl))
      (λ e. subst (IsIn x) (sym (insert_is x y ys Equal e)) (inl (ties y (inl refl) e)))
      (λ e. subst (IsIn x) (sym (insert_is x y ys Greater e)) (inr (is_there x ys (λ z is. ties z (inr is)))))

  rises_insert : (x : X) (xs : List X) → IsStrictlySortedBy cmp xs → IsStrictlySortedBy cmp (insert_by cmp x xs)
  rises_insert x [] r = rises_cons x [] (λ y is. absurd is) r
  rises_insert x (y ∷ ys) r = by_order (cmp x y)
      (λ e.
      let above : (z : X) → IsIn z (y ∷ ys) → cmp x z ≡ Less = λ z is. ⊎_elim (λ s. subst (λ (w : X). cmp x w ≡ Less) (sym s) e) (λ rest. o.trans (key x) (key y) (key z) e (rises_head y ys r z rest)) is in
      subst (IsStrictlySortedBy cmp) (sym (insert_is x y ys Less e)) (rises_cons x (y ∷ ys) above r))
      (λ e. subst (IsStrictlySortedBy cmp) (sym (insert_is x y ys Equal e)) r)
      (λ e.
      let below : cmp y x ≡ Less = o.antisymm (key y) (key x) ∙ ap ordering_reverse e in
      let above : (z : X) → IsIn z (insert_by cmp x ys) → cmp y z ≡ Less = λ z is. ⊎_elim (λ s. subst (λ (w : X). cmp y w ≡ Less) (sym s) below) (λ rest. rises_head y ys r z rest) (in_insert z x ys is) in
      subst (IsStrictlySortedBy cmp) (sym (insert_is x y ys Greater e)) (rises_cons y (insert_by cmp x ys) above (rises_insert x ys (rises_tail y ys r))))

  -- ---- lists in order

  pub rises_sorted : (xs : List X) → IsStrictlySortedBy cmp (sorted_by cmp xs)
  rises_sorted [] = rises_none
  rises_sorted (x ∷ xs) = rises_insert x (sorted_by cmp xs) (rises_sorted xs)

  pub in_sorted : (m : X) (xs : List X) → IsIn m (sorted_by cmp xs) → IsIn m xs
  in_sorted m [] is = is
  in_sorted m (x ∷ xs) is = ⊎_elim (λ s. inl s) (λ rest. inr (in_sorted m xs rest)) (in_insert m x (sorted_by cmp xs) is)

  -- where those that compare as equal are one
  pub sorted_in : (xs : List X) → ((x y : X) → IsIn x xs → IsIn y xs → cmp x y ≡ Equal → x ≡ y) → (m : X) → IsIn m xs → IsIn m (sorted_by cmp xs)
  sorted_in [] ties m is = is
  sorted_in (x ∷ xs) ties m is = ⊎_elim
      (λ s. subst (λ (z : X). IsIn z (insert_by cmp x (sorted_by cmp xs))) (sym s) (is_there x (sorted_by cmp xs) (λ y at. ties x y (inl refl) (inr (in_sorted y xs at)))))
      (λ rest. stays m x (sorted_by cmp xs) (sorted_in xs (λ y z a b. ties y z (inr a) (inr b)) m rest))
      is
