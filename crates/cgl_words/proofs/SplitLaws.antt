-- A text cut in two at a byte.
use Rattle.std.proofs.Common.{◌≡◌, ◌≢◌, ◌<◌, ◌∙◌, ℕ, suc, List, Option, [], ◌∷◌, ◌++◌, Some, None, Bool, true, false, nat_eq, length, get_or, refl, ap, arith}
use Rattle.std.proofs.lemmas.Bool.{eq-eqb, eqb-true}
use Rattle.cgl_words.specs.CommandLine.{Text, behind, halves, lengthened, parts}

-- where the byte stands
pub halves_at : (at : ℕ) (front back : Text) → ((i : ℕ) → i < length front → get_or front i 0 ≢ at)
    → halves at (front ++ (at ∷ back)) ≡ (record { front = front; back = Some back })
halves_at at [] back lacks = rw (eq-eqb at at refl) refl
halves_at at (x ∷ xs) back lacks = by (nat_eq x at) refl (λ rest_lacks. halves_at at xs back rest_lacks)
  where
    by : (b : Bool) → nat_eq x at ≡ b
        → (((i : ℕ) → i < length xs → get_or xs i 0 ≢ at) → halves at (xs ++ (at ∷ back)) ≡ (record { front = xs; back = Some back }))
        → halves at ((x ∷ xs) ++ (at ∷ back)) ≡ (record { front = x ∷ xs; back = Some back })
    by true e more = absurd (lacks 0 (omega arith) (eqb-true x at e))
    by false e more = rw e (ap (behind x) (more (λ i low. lacks (suc i) (omega arith))))

-- where it stands nowhere
pub halves_whole : (at : ℕ) (text : Text) → ((i : ℕ) → i < length text → get_or text i 0 ≢ at)
    → halves at text ≡ (record { front = text; back = None })
halves_whole at [] lacks = refl
halves_whole at (x ∷ xs) lacks = by (nat_eq x at) refl (λ rest_lacks. halves_whole at xs rest_lacks)
  where
    by : (b : Bool) → nat_eq x at ≡ b
        → (((i : ℕ) → i < length xs → get_or xs i 0 ≢ at) → halves at xs ≡ (record { front = xs; back = None }))
        → halves at (x ∷ xs) ≡ (record { front = x ∷ xs; back = None })
    by true e more = absurd (lacks 0 (omega arith) (eqb-true x at e))
    by false e more = rw e (ap (behind x) (more (λ i low. lacks (suc i) (omega arith))))

-- ---- lists

abbrev joined : Text → Option Text → List Text
joined front None = front ∷ []
joined front (Some back) = front ∷ parts back

lengthened_joined : (byte : ℕ) (front : Text) (back : Option Text) → lengthened byte (joined front back) ≡ joined (byte ∷ front) back
lengthened_joined byte front None = refl
lengthened_joined byte front (Some back) = refl

parts_joined : (text : Text) → parts text ≡ joined (halves 44 text).front (halves 44 text).back
parts_joined [] = refl
parts_joined (x ∷ xs) = by (nat_eq x 44) refl (parts_joined xs)
  where
    by : (b : Bool) → nat_eq x 44 ≡ b → parts xs ≡ joined (halves 44 xs).front (halves 44 xs).back
        → parts (x ∷ xs) ≡ joined (halves 44 (x ∷ xs)).front (halves 44 (x ∷ xs)).back
    by true e more = rw e refl
    by false e more = rw e (ap (lengthened x) more ∙ lengthened_joined x (halves 44 xs).front (halves 44 xs).back)

-- a list of one word
pub parts_whole : (text : Text) → ((i : ℕ) → i < length text → get_or text i 0 ≢ 44) → parts text ≡ text ∷ []
parts_whole text lacks = parts_joined text ∙ ap (λ h. joined h.front h.back) (halves_whole 44 text lacks)

-- a list that goes on
pub parts_at : (front back : Text) → ((i : ℕ) → i < length front → get_or front i 0 ≢ 44) → parts (front ++ (44 ∷ back)) ≡ front ∷ parts back
parts_at front back lacks = parts_joined (front ++ (44 ∷ back)) ∙ ap (λ h. joined h.front h.back) (halves_at 44 front back lacks)

pub behind_shorter : (front back : Text) → length back < length (front ++ (44 ∷ back))
behind_shorter [] back = omega arith
behind_shorter (x ∷ xs) back = omega (behind_shorter xs back, arith)
