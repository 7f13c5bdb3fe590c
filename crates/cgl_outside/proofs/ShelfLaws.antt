-- Laws of what a shelf holds: a write over a write, and a look-up after a write.
use Rattle.std.proofs.Common.{◌≡◌, ◌≢◌, ◌↔◌, append_assoc, Option, ℕ, List, ◌++◌, Some, None, IsSome, cond, true, false, Bool, refl, sym, ap, ◌∙◌}
use Rattle.std.specs.Ordering.{nat_cmp, eq_by_cmp}
use Rattle.std.specs.Option.{option_map_or}
use Rattle.std.proofs.lemmas.Cmp.{nat_list_cmp_total}
use Rattle.std.specs.Cmp.Lexicographic.{slice_cmp}
use Rattle.std.specs.Cmp.{eq_by_cmp_equiv, Equal-is}
use Rattle.std.specs.FinMap.{insert, get, get-insert, same_map, slice_cmp-IsAntisymmetric, nat_cmp-IsAntisymmetric}
use Rattle.cgl_outside.specs.Shelf.{Files, Held, file_of, with_file, with_more}

pub same_name : (name : List ℕ) → eq_by_cmp (slice_cmp nat_cmp) name name ≡ true
same_name name = (eq_by_cmp_equiv nat_list_cmp_total).refl name

pub get_written : (files : Files) (name bytes : List ℕ) → get (insert files name bytes) name ≡ Some bytes
get_written files name bytes = get-insert nat_list_cmp_total files name bytes name ∙ ap (λ b. cond b (Some bytes) (get files name)) (same_name name)

same_choice : {A : Type 0} (b : Bool) (x y z : A) → cond b x (cond b y z) ≡ cond b x z
same_choice true x y z = refl
same_choice false x y z = refl

-- a write over a write is the last one
pub written_twice : (files : Files) (name a b : List ℕ) → insert (insert files name a) name b ≡ insert files name b
written_twice files name a b = same_map nat_list_cmp_total (slice_cmp-IsAntisymmetric nat_cmp-IsAntisymmetric) _ _ (λ q.
    get-insert nat_list_cmp_total (insert files name a) name b q
    ∙ ap (λ o. cond (eq_by_cmp (slice_cmp nat_cmp) q name) (Some b) o) (get-insert nat_list_cmp_total files name a q)
    ∙ same_choice (eq_by_cmp (slice_cmp nat_cmp) q name) (Some b) (Some a) (get files q)
    ∙ sym (get-insert nat_list_cmp_total files name b q))

pub file_of-with_file : (held : Held) (name bytes : List ℕ) → IsSome held → file_of (with_file held name bytes) name ≡ Some bytes
unfolding file_of with_file
file_of-with_file None name bytes told = cc
file_of-with_file (Some files) name bytes told = get_written files name bytes

pub with_more-with_file : (held : Held) (name a b : List ℕ) → with_more (with_file held name a) name b ≡ with_file held name (a ++ b)
unfolding file_of with_file with_more
with_more-with_file None name a b = refl
with_more-with_file (Some files) name a b =
    ap (λ o. option_map_or (λ old. Some (insert (insert files name a) name (old ++ b))) o (Some (insert files name a))) (get_written files name a)
    ∙ ap Some (written_twice files name a (a ++ b))

pub told_written : (held : Held) (name bytes : List ℕ) → IsSome (with_file held name bytes) → IsSome held
unfolding with_file
told_written None name bytes told = told
told_written (Some files) name bytes told = refl

pub told_by_file : (held : Held) (name bytes : List ℕ) → file_of held name ≡ Some bytes → IsSome held
unfolding file_of
told_by_file None name bytes e = cc
told_by_file (Some files) name bytes e = refl

pub told_after : (held : Held) (name bytes : List ℕ) → IsSome held → IsSome (with_file held name bytes)
unfolding with_file
told_after None name bytes told = told
told_after (Some files) name bytes told = refl

pub with_file-twice : (held : Held) (name a b : List ℕ) → with_file (with_file held name a) name b ≡ with_file held name b
unfolding with_file
with_file-twice None name a b = refl
with_file-twice (Some files) name a b = ap Some (written_twice files name a b)

same_test : (other name : List ℕ) (b : Bool) → eq_by_cmp (slice_cmp nat_cmp) other name ≡ b → other ≢ name → b ≡ false
same_test other name true e apart = absurd (apart (slice_cmp-IsAntisymmetric nat_cmp-IsAntisymmetric other name ((Equal-is _).0 e)))
same_test other name false e apart = refl

-- two names that compare as equal are one
pub other_name : (other name : List ℕ) → other ≢ name → eq_by_cmp (slice_cmp nat_cmp) other name ≡ false
other_name other name apart = same_test other name _ refl apart

pub get_other : (files : Files) (name other bytes : List ℕ) → other ≢ name → get (insert files name bytes) other ≡ get files other
get_other files name other bytes apart =
    get-insert nat_list_cmp_total files name bytes other ∙ ap (λ b. cond b (Some bytes) (get files other)) (other_name other name apart)

pub file_of-other : (held : Held) (name other bytes : List ℕ) → other ≢ name → file_of (with_file held name bytes) other ≡ file_of held other
unfolding file_of with_file
file_of-other None name other bytes apart = refl
file_of-other (Some files) name other bytes apart = get_other files name other bytes apart

with_found : (held : Held) (name other bytes : List ℕ) (o : Option (List ℕ)) → other ≢ name
    → file_of (option_map_or (λ old. with_file held name (old ++ bytes)) o held) other ≡ file_of held other
with_found held name other bytes None apart = refl
with_found held name other bytes (Some old) apart = file_of-other held name other (old ++ bytes) apart

pub file_of-other_more : (held : Held) (name other bytes : List ℕ) → other ≢ name → file_of (with_more held name bytes) other ≡ file_of held other
unfolding with_more
file_of-other_more held name other bytes apart = with_found held name other bytes (file_of held name) apart

with_found_twice : (held : Held) (name a b : List ℕ) (o : Option (List ℕ)) → file_of held name ≡ o
    → with_more (option_map_or (λ old. with_file held name (old ++ a)) o held) name b ≡ option_map_or (λ old. with_file held name (old ++ (a ++ b))) o held
unfolding with_more
with_found_twice held name a b None e = ap (λ o. option_map_or (λ old. with_file held name (old ++ b)) o held) e
with_found_twice held name a b (Some old) e = with_more-with_file held name (old ++ a) b ∙ ap (with_file held name) (append_assoc old a b)

pub with_more-twice : (held : Held) (name a b : List ℕ) → with_more (with_more held name a) name b ≡ with_more held name (a ++ b)
unfolding with_more
with_more-twice held name a b = with_found_twice held name a b (file_of held name) refl

pub with_more-found : (held : Held) (name old bytes : List ℕ) → file_of held name ≡ Some old → with_more held name bytes ≡ with_file held name (old ++ bytes)
unfolding with_more
with_more-found held name old bytes e = ap (λ o. option_map_or (λ old. with_file held name (old ++ bytes)) o held) e

pub file_of-with_more : (held : Held) (name old bytes : List ℕ) → file_of held name ≡ Some old → file_of (with_more held name bytes) name ≡ Some (old ++ bytes)
file_of-with_more held name old bytes e =
    ap (λ h. file_of h name) (with_more-found held name old bytes e) ∙ file_of-with_file held name (old ++ bytes) (told_by_file held name old e)

told_choice : (held : Held) (name bytes : List ℕ) (o : Option (List ℕ)) → IsSome (option_map_or (λ old. with_file held name (old ++ bytes)) o held) ↔ IsSome held
told_choice held name bytes None = (λ h. h, λ h. h)
told_choice held name bytes (Some old) = (told_written held name (old ++ bytes), told_after held name (old ++ bytes))

pub told_more : (held : Held) (name bytes : List ℕ) → IsSome (with_more held name bytes) ↔ IsSome held
unfolding with_more
told_more held name bytes = told_choice held name bytes (file_of held name)
