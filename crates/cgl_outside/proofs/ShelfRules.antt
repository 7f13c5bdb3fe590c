-- The same laws in the form that goals have, under names that a tactic attribute can cite.
use Rattle.std.proofs.Common.{◌⊎◌, inl, inr, zero, suc, [], ◌∷◌, ◌≡◌, List, ℕ, ◌++◌, take, ◌≤◌, drop, ◌+◌, ◌-◌, ◌∙◌, ap, sym, subst, None, IsSome, refl, length, arith}
use Rattle.std.proofs.lemmas.List.{take_all}
use Rattle.std.proofs.Math.Seq.{take-add}
use Rattle.cgl_outside.specs.Shelf.{Held, file_of, with_file, with_more, Lacks}
use Rattle.cgl_outside.proofs.ShelfLaws.{with_more-with_file, file_of-with_file, told_written}

-- a file that was written is not lacking
pub not_lacking : (held now : Held) (name a : List ℕ) → now ≡ with_file held name a → Lacks now name → ⊥
not_lacking held now name a e lacks =
    let told = subst IsSome e lacks.told in
    let is = file_of-with_file held name a (told_written held name a told) in
    let none : file_of (with_file held name a) name ≡ None = rw e at lacks.none in
    cc

-- one more piece behind what was written
pub more_written : (held now next : Held) (name bytes : List ℕ) (done end : ℕ) → done ≤ end → now ≡ with_file held name (take done bytes)
    → next ≡ with_more now name (take (end - done) (drop done bytes)) → next ≡ with_file held name (take end bytes)
more_written held now next name bytes done end le e is =
    let sum : done + (end - done) ≡ end = omega arith in
    is ∙ ap (λ h. with_more h name (take (end - done) (drop done bytes))) e
    ∙ with_more-with_file held name (take done bytes) (take (end - done) (drop done bytes))
    ∙ ap (with_file held name) (sym (take-add done (end - done) bytes) ∙ ap (λ n. take n bytes) sum)

-- a front of a front is a front
pub take_within : (k m : ℕ) (xs : List ℕ) → (n : ℕ) × (take k (take m xs) ≡ take n xs)
take_within zero m xs = (0, refl)
take_within (suc k) zero xs = (0, refl)
take_within (suc k) (suc m) [] = (0, refl)
take_within (suc k) (suc m) (x ∷ xs) = let inner = take_within k m xs in (suc inner.0, ap (λ ys. x ∷ ys) inner.1)

-- a part of one more piece behind what was written
pub part_written : (held now next : Held) (name bytes : List ℕ) (done kept end : ℕ) → now ≡ with_file held name (take done bytes)
    → next ≡ with_more now name (take kept (take end (drop done bytes))) → (k : ℕ) × (next ≡ with_file held name (take k bytes))
part_written held now next name bytes done kept end e is =
    let part = take_within kept end (drop done bytes) in (
      done + part.0,
      is ∙ ap (λ h. with_more h name (take kept (take end (drop done bytes)))) e
          ∙ with_more-with_file held name (take done bytes) (take kept (take end (drop done bytes)))
          ∙ ap (λ p. with_file held name (take done bytes ++ p)) part.1
          ∙ ap (with_file held name) (sym (take-add done part.0 bytes)),
    )

-- nothing of the bytes was written
pub none_written : (held now : Held) (name bytes : List ℕ) → (now ≡ held) ⊎ (now ≡ with_file held name [])
    → (now ≡ held) ⊎ ((kept : ℕ) × (now ≡ with_file held name (take kept bytes)))
none_written held now name bytes (inl same) = inl same
none_written held now name bytes (inr empty) = inr (0, empty)

-- all of the bytes were written
pub all_written : (held now : Held) (name bytes : List ℕ) (done : ℕ) → now ≡ with_file held name (take done bytes) → length bytes ≤ done → now ≡ with_file held name bytes
all_written held now name bytes done e le = e ∙ ap (with_file held name) (take_all done bytes le)
