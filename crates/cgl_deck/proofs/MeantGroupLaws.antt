-- Lists that are made of groups, each under a name of its own.
use Rattle.std.proofs.Common.{◌≡◌, refl, ap, ap₂, ◌∙◌, Bool, true, false, cond, List, [], ◌∷◌, ◌++◌, append-nil, map, filter, filter_map, find, flat_map, bytes_eq, Option, Some, slice_get}
use Rattle.std.specs.List.{AllByRecursion, cons_option}
use Rattle.std.proofs.lemmas.List.Elements.{filter-append, filter_map-append}
use Rattle.std.proofs.lemmas.Grind.{flat_map-append}
use Rattle.cgl_num.specs.NumberText.{Word}
use Rattle.cgl_text.specs.Text.{is_one_of}
use Rattle.cgl_model.specs.Valid.{AreDistinct}
use Rattle.cgl_decode.proofs.DistinctLaws.{flip_differ, not_false, or_false_parts, same_word}
use Rattle.cgl_decode.proofs.SoundLaws.{all_append}

pub all_both : {X : Type 0} (P Q R : X → Type 0) → ((x : X) → P x → Q x → R x) → (xs : List X) → AllByRecursion P xs → AllByRecursion Q xs → AllByRecursion R xs
all_both P Q R both [] all more = tt
all_both P Q R both (x ∷ xs) all more = (both x all.0 more.0, all_both P Q R both xs all.1 more.1)

pub all_flat : {X Y : Type 0} (P : Y → Type 0) (f : X → List Y) (xs : List X) → AllByRecursion (λ x. AllByRecursion P (f x)) xs → AllByRecursion P (flat_map f xs)
all_flat P f [] all = tt
all_flat P f (x ∷ xs) all = all_append P (f x) (flat_map f xs) all.0 (all_flat P f xs all.1)

pub all_pass : {Y : Type 0} (p : Y → Bool) (ys : List Y) → AllByRecursion (λ y. p y ≡ true) ys → filter p ys ≡ ys
all_pass p [] all = refl
all_pass p (y ∷ ys) all = ap₂ (λ b others. cond b (y ∷ others) others) all.0 (all_pass p ys all.1)

pub none_pass : {Y : Type 0} (p : Y → Bool) (ys : List Y) → AllByRecursion (λ y. p y ≡ false) ys → filter p ys ≡ []
none_pass p [] all = refl
none_pass p (y ∷ ys) all = ap₂ (λ b others. cond b (y ∷ others) others) all.0 (none_pass p ys all.1)

-- every other name differs from the first
pub all_apart : {X : Type 0} (name : X → Word) (x : X) (xs : List X) → is_one_of (map name xs) (name x) ≡ false → AllByRecursion (λ s. bytes_eq (name s) (name x) ≡ false) xs
all_apart name x [] none = tt
all_apart name x (s ∷ xs) none =
    let parts = or_false_parts (bytes_eq (name x) (name s)) (is_one_of (map name xs) (name x)) none in
    (flip_differ (name x) (name s) parts.0, all_apart name x xs parts.1)

-- the key of each item of an element's group is the element's name
abbrev pub Keyed : {X Y : Type 0} → (X → Word) → (Word → Y → Bool) → (X → List Y) → X → Type 0
Keyed name key f x = (w : Word) → AllByRecursion (λ y. key w y ≡ bytes_eq w (name x)) (f x)

keyed_as : {Y : Type 0} (p : Y → Bool) (b c : Bool) (ys : List Y) → b ≡ c → AllByRecursion (λ y. p y ≡ b) ys → AllByRecursion (λ y. p y ≡ c) ys
keyed_as p b c [] same all = tt
keyed_as p b c (y ∷ ys) same all = (all.0 ∙ same, keyed_as p b c ys same all.1)

pub own_group : {X Y : Type 0} (name : X → Word) (key : Word → Y → Bool) (f : X → List Y) (x : X) → Keyed name key f x → filter (key (name x)) (f x) ≡ f x
own_group name key f x keyed = all_pass (key (name x)) (f x) (keyed_as (key (name x)) (bytes_eq (name x) (name x)) true (f x) (same_word (name x) (name x) refl) (keyed (name x)))

pub other_group : {X Y : Type 0} (name : X → Word) (key : Word → Y → Bool) (f : X → List Y) (x : X) (w : Word) → Keyed name key f x → bytes_eq w (name x) ≡ false → filter (key w) (f x) ≡ []
other_group name key f x w keyed differ = none_pass (key w) (f x) (keyed_as (key w) (bytes_eq w (name x)) false (f x) differ (keyed w))

other_groups : {X Y : Type 0} (name : X → Word) (key : Word → Y → Bool) (f : X → List Y) (xs : List X) (w : Word) → AllByRecursion (Keyed name key f) xs → is_one_of (map name xs) w ≡ false
    → filter (key w) (flat_map f xs) ≡ []
other_groups name key f [] w keyed none = refl
other_groups name key f (x ∷ xs) w keyed none =
    let parts = or_false_parts (bytes_eq w (name x)) (is_one_of (map name xs) w) none in
    filter-append (key w) (f x) (flat_map f xs) ∙ ap₂ (λ a b. a ++ b) (other_group name key f x w keyed.0 parts.0) (other_groups name key f xs w keyed.1 parts.1)

-- where names stand once, what is found under a name is its group
pub groups : {X Y : Type 0} (name : X → Word) (key : Word → Y → Bool) (f : X → List Y) (xs : List X) → AllByRecursion (Keyed name key f) xs → AreDistinct (map name xs)
    → AllByRecursion (λ x. filter (key (name x)) (flat_map f xs) ≡ f x) xs
groups name key f [] keyed once = tt
groups name key f (x ∷ xs) keyed once =
    let none = not_false (is_one_of (map name xs) (name x)) once.0 in (
      filter-append (key (name x)) (f x) (flat_map f xs)
          ∙ ap₂ (λ a b. a ++ b) (own_group name key f x keyed.0) (other_groups name key f xs (name x) keyed.1 none)
          ∙ append-nil (f x),
      all_both (λ s. bytes_eq (name s) (name x) ≡ false) (λ s. filter (key (name s)) (flat_map f xs) ≡ f s) (λ s. filter (key (name s)) (f x ++ flat_map f xs) ≡ f s)
          (λ s differ found. filter-append (key (name s)) (f x) (flat_map f xs) ∙ ap₂ (λ a b. a ++ b) (other_group name key f x (name s) keyed.0 differ) found)
          xs (all_apart name x xs none) (groups name key f xs keyed.1 once.1),
    )

find_case : {Y : Type 0} (y : Y) (others : List Y) (later : Option Y) → later ≡ slice_get others 0 → (b : Bool) → cond b (Some y) later ≡ slice_get (cond b (y ∷ others) others) 0
find_case y others later same true = refl
find_case y others later same false = same

pub find_first : {Y : Type 0} (p : Y → Bool) (ys : List Y) → find p ys ≡ slice_get (filter p ys) 0
find_first p [] = refl
find_first p (y ∷ ys) = find_case y (filter p ys) (find p ys) (find_first p ys) (p y)

-- ---- lists of lists

pub flat_same : {X Y : Type 0} (f g : X → List Y) → ((x : X) → f x ≡ g x) → (xs : List X) → flat_map f xs ≡ flat_map g xs
flat_same f g same [] = refl
flat_same f g same (x ∷ xs) = ap₂ (λ a b. a ++ b) (same x) (flat_same f g same xs)

pub flat_flat : {X Y Z : Type 0} (g : Y → List Z) (f : X → List Y) (xs : List X) → flat_map g (flat_map f xs) ≡ flat_map (λ x. flat_map g (f x)) xs
flat_flat g f [] = refl
flat_flat g f (x ∷ xs) = flat_map-append g (f x) (flat_map f xs) ∙ ap (λ l. flat_map g (f x) ++ l) (flat_flat g f xs)

pub found_flat : {X Y Z : Type 0} (g : Y → Option Z) (f : X → List Y) (xs : List X) → filter_map g (flat_map f xs) ≡ flat_map (λ x. filter_map g (f x)) xs
found_flat g f [] = refl
found_flat g f (x ∷ xs) = filter_map-append g (f x) (flat_map f xs) ∙ ap (λ l. filter_map g (f x) ++ l) (found_flat g f xs)

pub found_map : {X Y Z : Type 0} (g : Y → Option Z) (f : X → Y) (xs : List X) → filter_map g (map f xs) ≡ filter_map (λ x. g (f x)) xs
found_map g f [] = refl
found_map g f (x ∷ xs) = ap (cons_option (g (f x))) (found_map g f xs)

kept_case : {X Y : Type 0} (f : X → Y) (x : X) (xs : List X) (ys : List Y) → map f xs ≡ ys → (b : Bool) → map f (cond b (x ∷ xs) xs) ≡ cond b (f x ∷ ys) ys
kept_case f x xs ys same true = ap (λ l. f x ∷ l) same
kept_case f x xs ys same false = same

pub map_filter : {X Y : Type 0} (f : X → Y) (p : Y → Bool) (xs : List X) → map f (filter (λ x. p (f x)) xs) ≡ filter p (map f xs)
map_filter f p [] = refl
map_filter f p (x ∷ xs) = kept_case f x (filter (λ x. p (f x)) xs) (filter p (map f xs)) (map_filter f p xs) (p (f x))

pub map_back : {X Y : Type 0} (g : X → Y) (f : Y → X) (xs : List X) → AllByRecursion (λ x. f (g x) ≡ x) xs → map f (map g xs) ≡ xs
map_back g f [] all = refl
map_back g f (x ∷ xs) all = ap₂ (λ y ys. y ∷ ys) all.0 (map_back g f xs all.1)

pub map_map : {X Y Z : Type 0} (g : Y → Z) (f : X → Y) (xs : List X) → map g (map f xs) ≡ map (λ x. g (f x)) xs
map_map g f [] = refl
map_map g f (x ∷ xs) = ap (λ l. g (f x) ∷ l) (map_map g f xs)
