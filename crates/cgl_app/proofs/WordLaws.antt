-- The files of a command differ.
use Rattle.std.proofs.Common.{◌≡◌, ◌≢◌, ◌&&◌, ◌∙◌, ℕ, List, Option, Some, IfSome, true, false, refl, sym, subst, not, Bool, bytes_eq, true≢false, ap}
use Rattle.std.proofs.lemmas.Slice.Eq.{bytes_eq-Decides}
use Rattle.cgl_words.specs.CommandLine.{CommandWords, CutWords, CutCommand, are_three, are_four, command_of, differ, is_name, start_name}
use Rattle.cgl_words.specs.FileNames.{FilesDiffer, HasOwnFiles}

and_left : (a b : Bool) → (a && b) ≡ true → a ≡ true
and_left true b e = refl
and_left false b e = e

and_right : (a b : Bool) → (a && b) ≡ true → b ≡ true
and_right true b e = e
and_right false b e = absurd (true≢false (sym e))

same_bytes : (a : List ℕ) → bytes_eq a a ≡ true
same_bytes a = (bytes_eq-Decides a a).1 refl

apart_of : (a b : List ℕ) → differ a b ≡ true → a ≢ b
apart_of a b e same = let P : List ℕ → Type 0 = λ x. differ a x ≡ true in true≢false (sym (subst P (sym same) e) ∙ ap not (same_bytes a))

middle_apart : (m o p x : List ℕ) → are_four m o p x ≡ true → o ≢ p
unfolding are_three are_four
middle_apart m o p x e =
    apart_of o p (and_right _ (differ o p) (and_left (are_three m o p) (is_name x) (and_left _ (differ m x) (and_left _ (differ o x) (and_left _ (differ p x) e)))))

-- OUT and PROOF are two files
pub files_apart : FilesDiffer → (words : List (List ℕ)) (c : CutWords) → command_of words ≡ Some (CutCommand c) → c.out ≢ c.proof
files_apart differ words c e =
    let P : Option CommandWords → Type 0 = λ o. IfSome o HasOwnFiles in
    middle_apart c.model c.out c.proof (start_name c.start) (subst P e (differ words))
