-- Steps of the search for unused names.
use Rattle.std.proofs.Common.{◌≡◌, List, ℕ, suc, ◌+◌, ◌-◌, ◌<◌, ◌≤◌, [], ◌∷◌, ◌++◌, length, filter, take, map, ap, ap₂, sym, ◌∙◌, true, false, not, arith, inl, inr, append-nil, append_assoc, length-append, subst}
use Rattle.std.proofs.lemmas.Bool.{cases_Bool}
use Rattle.cgl_num.specs.NumberText.{Word}
use Rattle.cgl_text.specs.Text.{is_one_of}
use Rattle.cgl_model.specs.declared.mip.Model.{Model}
use Rattle.cgl_deck.specs.CutNames.{cut_name, cut_names, is_unused, numbers_from}

abbrev pub unused_from : Model → ℕ → ℕ → List Word
unused_from m k tries = filter (is_unused m) (map cut_name (numbers_from k tries))

pub record IsFound (m : Model) (n k tries : ℕ) (found all : List Word) : Type 0 where
  pub rest : found ++ take (n - length found) (unused_from m k tries) ≡ all
  pub within : length found ≤ n

used_turn : (m : Model) (n : ℕ) (found all : List Word) (k tries : ℕ) → is_unused m (cut_name k) ≡ false
    → IsFound m n k (suc tries) found all → IsFound m n (k + 1) tries (found ++ []) all
used_turn m n found all k tries used before =
    let h : IsFound m n (k + 1) tries found all = record { rest = rw used at before.rest; within = before.within } in
    rw append-nil h

unused_turn : (m : Model) (n : ℕ) (found all : List Word) (k tries room : ℕ) → is_unused m (cut_name k) ≡ true → length found + suc room ≡ n
    → IsFound m n k (suc tries) found all → IsFound m n (k + 1) tries (found ++ cut_name k ∷ []) all
unused_turn m n found all k tries room unused room_is before =
    let left : n - length found ≡ suc room = omega arith in
    let more : length (found ++ cut_name k ∷ []) ≡ length found + 1 = length-append found (cut_name k ∷ []) in
    let now : n - length (found ++ cut_name k ∷ []) ≡ room = omega arith in
    let split : found ++ take (suc room) (cut_name k ∷ unused_from m (k + 1) tries) ≡ all = rw (left, unused) at before.rest in
    record { rest = rw now (append_assoc found (cut_name k ∷ []) (take room (unused_from m (k + 1) tries)) ∙ split); within = omega arith }

-- one try more
pub names_turn : (m : Model) (n : ℕ) (found all : List Word) (k tries : ℕ) → length found < n
    → IsFound m n k (suc tries) found all → IsFound m n (k + 1) tries (found ++ filter (is_unused m) (cut_name k ∷ [])) all
names_turn m n found all k tries lt before =
    elim (cases_Bool (is_unused m (cut_name k))) [
      | inl e ↦ rw e (unused_turn m n found all k tries (n - length found - 1) e (omega arith) before)
      | inr e ↦ rw e (used_turn m n found all k tries e before)
    ]

pub names_start : (m : Model) (n : ℕ) (found : List Word) (tries : ℕ) → found ≡ [] → tries ≡ length m.rows + n → IsFound m n 1 tries found (cut_names m n)
unfolding cut_names
names_start m n found tries none all =
    let within : length found ≤ n = omega (arith, ap length none) in
    let left : n - length found ≡ n = omega (arith, ap length none) in
    record {
      rest = ap (λ k. found ++ take k (unused_from m 1 tries)) left ∙ ap (λ f. f ++ take n (unused_from m 1 tries)) none ∙ ap (λ t. take n (unused_from m 1 t)) all;
      within = within;
    }

pub names_turn_at : (m : Model) (n : ℕ) (found next all used : List Word) (number last : ℕ) (name : Word) → length found < n → number < last
    → name ≡ cut_name (number + 1) → used ≡ map (λ r. r.name) m.rows → next ≡ found ++ filter (λ w. not (is_one_of used w)) (name ∷ [])
    → IsFound m n (number + 1) (last - number) found all → IsFound m n (number + 1 + 1) (last - (number + 1)) next all
names_turn_at m n found next all used number last name room tries name_is used_is now before =
    let left : last - number ≡ suc (last - (number + 1)) = omega arith in
    let turned : IsFound m n (number + 1 + 1) (last - (number + 1)) (found ++ filter (is_unused m) (cut_name (number + 1) ∷ [])) all =
    names_turn m n found all (number + 1) (last - (number + 1)) room (rw left at before) in
    let more : found ++ filter (is_unused m) (cut_name (number + 1) ∷ []) ≡ next =
    ap₂ (λ ws w. found ++ filter (λ v. not (is_one_of ws v)) (w ∷ [])) (sym used_is) (sym name_is) ∙ sym now in
    subst (λ f. IsFound m n (number + 1 + 1) (last - (number + 1)) f all) more turned

pub no_names : (m : Model) (n : ℕ) (found : List Word) → found ≡ [] → n ≡ 0 → found ≡ cut_names m n
unfolding cut_names
no_names m n found none zero = none ∙ sym (ap (λ k. take k (filter (is_unused m) (map cut_name (numbers_from 1 (length m.rows + k))))) zero)
