-- The records of lines, in the order of the lines: those before a line, and the first that something is found in.
use Rattle.std.proofs.Common.{◌≡◌, refl, ap, ap₂, ◌∙◌, arith, ℕ, ◌+◌, ◌<◌, ◌≤◌, nat_lt, Bool, true, false, cond, List, [], ◌∷◌, ◌++◌, append-nil, filter, filter_map, Option}
use Rattle.std.specs.List.{cons_option}
use Rattle.std.proofs.lemmas.Bool.Decides.{nat_tests}
use Rattle.std.proofs.lemmas.List.Elements.{filter-append, filter_map-append}

pub not_below : (n m : ℕ) → m ≤ n → nat_lt n m ≡ false
not_below n m le = grind (arith, nat_tests)

is_below : (n m : ℕ) → n < m → nat_lt n m ≡ true
is_below n m lt = grind (arith, nat_tests)

-- where nothing is found in the earlier ones
pub first-found : {X Y : Type 0} (h : X → Option Y) (xs ys : List X) (x : X) → filter_map h xs ≡ [] → filter_map h (xs ++ x ∷ ys) ≡ cons_option (h x) (filter_map h ys)
first-found h xs ys x none = filter_map-append h xs (x ∷ ys) ∙ ap (λ l. l ++ cons_option (h x) (filter_map h ys)) none

-- each of these stands before line n
abbrev pub AllBelow : {X : Type 0} → (X → ℕ) → ℕ → List X → Type 0
AllBelow line n [] = Unit {0}
AllBelow line n (r ∷ rs) = (line r < n) × AllBelow line n rs

pub below-push : {X : Type 0} (line : X → ℕ) (n : ℕ) (rs : List X) (r : X) → line r ≡ n → AllBelow line n rs → AllBelow line (n + 1) (rs ++ r ∷ [])
below-push line n [] r at all = (omega (arith, at), tt)
below-push line n (s ∷ rs) r at all = (omega (arith, all.0), below-push line n rs r at all.1)

kept-below : {X : Type 0} (line : X → ℕ) (n : ℕ) (r : X) (rs : List X) → line r < n → filter (λ s. nat_lt (line s) n) rs ≡ rs
    → (b : Bool) → filter (λ s. nat_lt (line s) n) (cond b (r ∷ rs) rs) ≡ cond b (r ∷ rs) rs
kept-below line n r rs lt all true = ap (λ c. cond c (r ∷ filter (λ s. nat_lt (line s) n) rs) (filter (λ s. nat_lt (line s) n) rs)) (is_below (line r) n lt) ∙ ap (λ l. r ∷ l) all
kept-below line n r rs lt all false = all

before-kept : {X : Type 0} (line : X → ℕ) (keeps : X → Bool) (n : ℕ) (rs : List X) → AllBelow line n rs → filter (λ s. nat_lt (line s) n) (filter keeps rs) ≡ filter keeps rs
before-kept line keeps n [] all = refl
before-kept line keeps n (r ∷ rs) all = kept-below line n r (filter keeps rs) all.0 (before-kept line keeps n rs all.1) (keeps r)

-- the kept records before line n, seen from the whole list
pub before-all : {X : Type 0} (line : X → ℕ) (keeps : X → Bool) (all : List X) (n : ℕ) (done later : List X) → all ≡ done ++ later → AllBelow line n done
    → filter (λ s. nat_lt (line s) n) (filter keeps later) ≡ [] → filter (λ s. nat_lt (line s) n) (filter keeps all) ≡ filter keeps done
before-all line keeps all n done later parts below none =
    ap (λ l. filter (λ s. nat_lt (line s) n) (filter keeps l)) parts
    ∙ ap (filter (λ s. nat_lt (line s) n)) (filter-append keeps done later)
    ∙ filter-append (λ s. nat_lt (line s) n) (filter keeps done) (filter keeps later)
    ∙ ap₂ (λ a b. a ++ b) (before-kept line keeps n done below) none
    ∙ append-nil (filter keeps done)
