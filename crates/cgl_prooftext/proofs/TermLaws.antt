-- The terms of an inequality, read one after another.
use Rattle.std.proofs.Common.{◌≡◌, ℕ, zero, suc, Bool, true, false, not, ◌&&◌, nat_lt, List, [], ◌∷◌, ◌++◌, Option, Some, None, if◌then◌else◌, ◌∙◌, refl, sym, ap, append_assoc}
use Rattle.std.specs.List.{list_all}
use Rattle.std.proofs.lemmas.List.{append-nil}
use Rattle.cgl_model.specs.Inequality.{Term}
use Rattle.cgl_prooftext.specs.LineResult.{Parsed, Got, Bad, Big, are_rising, checked, count_in, field_by, fits_terms, followed, got, integer_in, is_zero, natural_in, term_in, terms_in, times_in}
use Rattle.cgl_prooftext.specs.ProofText.{Text}
use Rattle.cgl_prooftext.specs.Readings.{fits_term, fitting, is_after, is_next, joined, more_terms, sized}

-- ---- a list of terms is never too long

abbrev pub NotBig : {A : Type 0} → Parsed A → Type 0
NotBig (Got x rest) = Unit {0}
NotBig Bad = Unit {0}
NotBig Big = ⊥

pub followed_not_big : {A B : Type 0} (parsed : Parsed A) (next : A → List Text → Parsed B) → NotBig parsed → ((x : A) (rest : List Text) → NotBig (next x rest)) → NotBig (followed parsed next)
followed_not_big (Got x rest) next here behind = behind x rest
followed_not_big Bad next here behind = tt
followed_not_big Big next here behind = here

got_not_big : {A : Type 0} (x : Option A) (rest : List Text) → NotBig (got x rest)
got_not_big None rest = tt
got_not_big (Some x) rest = tt

pub field_not_big : {A : Type 0} (read : Text → Option A) (fields : List Text) → NotBig (field_by read fields)
field_not_big read [] = tt
field_not_big read (field ∷ rest) = got_not_big (read field) rest

pub times_not_big : {A : Type 0} (read : List Text → Parsed A) → ((fields : List Text) → NotBig (read fields)) → (n : ℕ) (fields : List Text) → NotBig (times_in read n fields)
times_not_big read each zero fields = tt
times_not_big {A = A} read each (suc n) fields =
    followed_not_big {A = A} {B = List A} (read fields) (λ x rest. followed (times_in read n rest) (λ xs others. Got (x ∷ xs) others)) (each fields)
    (λ x rest. followed_not_big {A = List A} {B = List A} (times_in read n rest) (λ xs others. Got (x ∷ xs) others) (times_not_big read each n rest) (λ xs others. tt))

term_not_big : (fields : List Text) → NotBig (term_in fields)
term_not_big fields =
    followed_not_big (field_by natural_in fields) (λ j rest. followed (field_by integer_in rest) (λ a others. Got (j, a) others)) (field_not_big natural_in fields)
    (λ j rest. followed_not_big (field_by integer_in rest) (λ a others. Got (j, a) others) (field_not_big integer_in rest) (λ a others. tt))

-- ---- terms that rise

-- the terms behind one of this column
abbrev rises_from : Option ℕ → List Term → Bool
rises_from last [] = true
rises_from last (t ∷ terms) = is_next last t && rises_from (Some t.0) terms

regroup : (a b c d : Bool) → ((a && b) && (c && d)) ≡ (a && (b && c && d))
regroup true true true d = refl
regroup true true false d = refl
regroup true false c d = refl
regroup false b c d = refl

alone : (a b : Bool) → ((a && b) && true) ≡ (a && b)
alone true true = refl
alone true false = refl
alone false b = refl

rises_behind : (last : Option ℕ) (t : Term) (terms : List Term) → rises_from last (t ∷ terms) ≡ (is_after last t.0 && are_rising (t ∷ terms))
rises_behind last t [] = alone (is_after last t.0) (not (is_zero t.1))
rises_behind last t (u ∷ terms) =
    ap (λ b. (is_after last t.0 && not (is_zero t.1)) && b) (rises_behind (Some t.0) u terms)
    ∙ regroup (is_after last t.0) (not (is_zero t.1)) (nat_lt t.0 u.0) (are_rising (u ∷ terms))

rises_is : (terms : List Term) → rises_from None terms ≡ are_rising terms
rises_is [] = refl
rises_is (t ∷ terms) = rises_behind None t terms

-- ---- terms so far, and more of them

abbrev added : Option (List Term) → List Term → Option (List Term)
added found [] = found
added found (t ∷ terms) = added (joined found (fitting fits_term t)) terms

none_added : (terms : List Term) → added None terms ≡ None
none_added [] = refl
none_added (t ∷ terms) = none_added terms

one_added : (xs : List Term) (t : Term) (terms : List Term) (fits : Bool)
    → added (Some (xs ++ t ∷ [])) terms ≡ (if list_all fits_term terms then Some ((xs ++ t ∷ []) ++ terms) else None)
    → added (joined (Some xs) (if fits then Some t else None)) terms ≡ (if fits && list_all fits_term terms then Some (xs ++ t ∷ terms) else None)
one_added xs t terms true rec = rec ∙ ap (λ ys. if list_all fits_term terms then Some ys else None) (append_assoc xs (t ∷ []) terms)
one_added xs t terms false rec = none_added terms

some_added : (xs terms : List Term) → added (Some xs) terms ≡ (if list_all fits_term terms then Some (xs ++ terms) else None)
some_added xs [] = ap (λ ys. Some ys) (sym (append-nil xs))
some_added xs (t ∷ terms) = one_added xs t terms (fits_term t) (some_added (xs ++ t ∷ []) terms)

abbrev put : Option (List Term) → Parsed (List Term) → Parsed (Option (List Term))
put found parsed = followed parsed (λ terms rest. Got (added found terms) rest)

abbrev behind : Option (List Term) → ℕ → Term → List Text → Parsed (Option (List Term))
behind found n t rest = more_terms (joined found (fitting fits_term t)) (Some t.0) n rest

settle : (found : Option (List Term)) (n : ℕ) (t : Term) (rest : List Text) (xs : List Term) (others : List Text) (next rises : Bool)
    → put (joined found (fitting fits_term t)) (if rises then Got xs others else Bad) ≡ behind found n t rest
    → put found (if next && rises then Got (t ∷ xs) others else Bad) ≡ followed (if next then Got t rest else Bad) (behind found n)
settle found n t rest xs others true true rec = rec
settle found n t rest xs others true false rec = rec
settle found n t rest xs others false rises rec = refl

settle_bad : (found : Option (List Term)) (n : ℕ) (t : Term) (rest : List Text) (next : Bool)
    → Bad ≡ behind found n t rest → Bad ≡ followed (if next then Got t rest else Bad) (behind found n)
settle_bad found n t rest true rec = rec
settle_bad found n t rest false rec = refl

one_got : (found : Option (List Term)) (last : Option ℕ) (n : ℕ) (t : Term) (rest : List Text) (more : Parsed (List Term)) → NotBig more
    → put (joined found (fitting fits_term t)) (checked (rises_from (Some t.0)) more) ≡ behind found n t rest
    → put found (checked (rises_from last) (followed more (λ xs others. Got (t ∷ xs) others))) ≡ followed (checked (is_next last) (Got t rest)) (behind found n)
one_got found last n t rest (Got xs others) small rec = settle found n t rest xs others (is_next last t) (rises_from (Some t.0) xs) rec
one_got found last n t rest Bad small rec = settle_bad found n t rest (is_next last t) rec
one_got found last n t rest Big small rec = absurd small

one_more : (found : Option (List Term)) (last : Option ℕ) (n : ℕ) (parsed : Parsed Term)
    → ((t : Term) (rest : List Text) → put (joined found (fitting fits_term t)) (checked (rises_from (Some t.0)) (times_in term_in n rest)) ≡ behind found n t rest)
    → put found (checked (rises_from last) (followed parsed (λ t rest. followed (times_in term_in n rest) (λ xs others. Got (t ∷ xs) others))))
    ≡ followed (checked (is_next last) parsed) (behind found n)
one_more found last n (Got t rest) rec = one_got found last n t rest (times_in term_in n rest) (times_not_big term_in term_not_big n rest) (rec t rest)
one_more found last n Bad rec = refl
one_more found last n Big rec = refl

reads_more : (n : ℕ) (found : Option (List Term)) (last : Option ℕ) (fields : List Text)
    → put found (checked (rises_from last) (times_in term_in n fields)) ≡ more_terms found last n fields
reads_more zero found last fields = refl
reads_more (suc n) found last fields =
    one_more found last n (term_in fields) (λ t rest. reads_more n (joined found (fitting fits_term t)) (Some t.0) rest)

-- ---- all terms

whole_test : (terms : List Term) (rest : List Text) (rises : Bool)
    → sized fits_terms (if rises then Got terms rest else Bad) ≡ put (Some []) (if rises then Got terms rest else Bad)
whole_test terms rest true = ap (λ xs. Got xs rest) (sym (some_added [] terms))
whole_test terms rest false = refl

whole : (parsed : Parsed (List Term)) → sized fits_terms (checked are_rising parsed) ≡ put (Some []) (checked (rises_from None) parsed)
whole (Got terms rest) =
    whole_test terms rest (are_rising terms) ∙ ap (λ rises. put (Some []) (if rises then Got terms rest else Bad)) (sym (rises_is terms))
whole Bad = refl
whole Big = refl

behind_count : (parsed : Parsed ℕ)
    → sized fits_terms (checked are_rising (followed parsed (λ n rest. times_in term_in n rest))) ≡ followed parsed (λ n rest. more_terms (Some []) None n rest)
behind_count (Got n rest) = whole (times_in term_in n rest) ∙ reads_more n (Some []) None rest
behind_count Bad = refl
behind_count Big = refl

pub terms_sized : (fields : List Text) → sized fits_terms (terms_in fields) ≡ followed (count_in fields) (λ n rest. more_terms (Some []) None n rest)
terms_sized fields = behind_count (count_in fields)
