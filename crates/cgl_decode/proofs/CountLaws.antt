-- Counts of pairs, and of names each once.
use Rattle.std.proofs.Common.{◌≡◌, refl, ap, ◌∙◌, arith, ℕ, suc, ◌/◌, ◌<◌, nat_le, Bool, true, false, cond, not, ◌||◌, List, [], ◌∷◌, ◌++◌, length, filter, bytes_eq}
use Rattle.std.proofs.lemmas.List.Elements.{filter-append}
use Rattle.std.proofs.lemmas.Bool.Decides.{nat_tests}
use denote.Ref.{Bor}
use Rattle.cgl_num.specs.NumberText.{Word}
use Rattle.cgl_text.specs.Text.{is_one_of}
use Rattle.cgl_decode.specs.Sections.{distinct, pairs_of}
use Rattle.cgl_text.specs.Seen.{words}

-- pairs

pub length-pairs_of : (ws : List Word) → length (pairs_of ws) ≡ length ws / 2
length-pairs_of [] = refl
length-pairs_of (w ∷ []) = refl
length-pairs_of (w ∷ (v ∷ ws)) = let so_far = length-pairs_of ws in omega arith

pub length-words : (ws : List (Bor (List ℕ))) → length (words ws) ≡ length ws
length-words [] = refl
length-words (w ∷ ws) = ap suc (length-words ws)

pub pair_count : (ws : List (Bor (List ℕ))) → length (pairs_of (words ws)) ≡ length ws / 2
pair_count ws = length-pairs_of (words ws) ∙ ap (λ n. n / 2) (length-words ws)

-- columns

kept_or_dropped : (p : Word → Bool) (x : Word) (a b : Bool) → p x ≡ not a → filter p (cond b [] (x ∷ [])) ≡ cond (a || b) [] (x ∷ [])
kept_or_dropped p x true true e = refl
kept_or_dropped p x false true e = refl
kept_or_dropped p x true false e = ap (λ c. cond c (x ∷ []) []) e
kept_or_dropped p x false false e = ap (λ c. cond c (x ∷ []) []) e

pub distinct-push : (names : List Word) (name : Word) → distinct (names ++ name ∷ []) ≡ distinct names ++ cond (is_one_of names name) [] (name ∷ [])
distinct-push [] name = refl
distinct-push (first ∷ names) name =
    let other : Word → Bool = λ o. not (bytes_eq o first) in
    ap (λ l. first ∷ filter other l) (distinct-push names name)
    ∙ ap (λ l. first ∷ l) (filter-append other (distinct names) (cond (is_one_of names name) [] (name ∷ [])))
    ∙ ap (λ l. first ∷ (filter other (distinct names) ++ l)) (kept_or_dropped other name (bytes_eq name first) (is_one_of names name) refl)

pub not_reached : (limit n : ℕ) → n < limit → nat_le limit n ≡ false
not_reached limit n lt = grind (arith, nat_tests)
