-- A name among the rows, columns or pairs of some records: one record after another answers.
use Rattle.std.proofs.Common.{◌≡◌, refl, sym, ap, ap₂, ◌∙◌, Bool, true, false, cond, not, ◌&&◌, ◌||◌, List, [], ◌∷◌, map, filter, bytes_eq}
use Rattle.std.specs.List.{list_any, flat_map}
use Rattle.std.proofs.lemmas.List.Folds.{list_any-append}
use Rattle.std.specs.Cmp.Lexicographic.{same_text}
use Rattle.cgl_num.specs.NumberText.{Word}
use Rattle.cgl_text.specs.Text.{is_one_of}
use Rattle.cgl_decode.specs.declared.kinds.Section.TheVariants.{Columns}
use Rattle.cgl_decode.specs.Records.{Record, field, data_in}
use Rattle.cgl_decode.specs.Sections.{distinct, is_marker, names_column, column_records, column_names}
use Rattle.cgl_decode.specs.Faults.{is_new_column}
use Rattle.cgl_decode.specs.Found.{is_data_of}

-- a list that is made element by element

filtered : {A : Type 0} (q p : A → Bool) (x : A) (xs : List A) → list_any (λ y. q y && p y) xs ≡ list_any p (filter q xs) → (b : Bool)
    → ((b && p x) || list_any (λ y. q y && p y) xs) ≡ list_any p (cond b (x ∷ filter q xs) (filter q xs))
filtered q p x xs so_far true = ap (λ c. p x || c) so_far
filtered q p x xs so_far false = so_far

pub any-filter : {A : Type 0} (q p : A → Bool) (xs : List A) → list_any (λ x. q x && p x) xs ≡ list_any p (filter q xs)
any-filter q p [] = refl
any-filter q p (x ∷ xs) = filtered q p x xs (any-filter q p xs) (q x)

pub any-flat_map : {A B : Type 0} (f : A → List B) (p : B → Bool) (xs : List A) → list_any (λ x. list_any p (f x)) xs ≡ list_any p (flat_map f xs)
any-flat_map f p [] = refl
any-flat_map f p (x ∷ xs) = ap (λ b. list_any p (f x) || b) (any-flat_map f p xs) ∙ sym (list_any-append p (f x) (flat_map f xs))

pub any-same : {A : Type 0} (p q : A → Bool) → ((x : A) → p x ≡ q x) → (xs : List A) → list_any p xs ≡ list_any q xs
any-same p q same [] = refl
any-same p q same (x ∷ xs) = ap₂ (λ a b. a || b) (same x) (any-same p q same xs)

-- columns

-- a name of a column stands on no marker line
not_marker : (m b : Bool) → (not m && b) ≡ (not m && (not m && b))
not_marker true b = refl
not_marker false b = refl

-- a line of the column
abbrev pub is_column_named : Word → Record → Bool
is_column_named name r = is_data_of Columns r && names_column name r

pub any_column : (records : List Record) (name : Word) → list_any (is_column_named name) records ≡ list_any (names_column name) (column_records records)
any_column records name =
    any-filter (is_data_of Columns) (names_column name) records
    ∙ any-same (names_column name) (λ r. not (is_marker r) && names_column name r) (λ r. not_marker (is_marker r) (bytes_eq name (field 0 r))) (data_in Columns records)
    ∙ any-filter (λ r. not (is_marker r)) (names_column name) (data_in Columns records)

-- a table of names, each once, has the names that stand on the lines

stay_case : (name w : Word) (words l : List Word) → is_one_of l name ≡ is_one_of words name → (b : Bool) → (b ≡ true → bytes_eq name w ≡ false) → list_any (bytes_eq name) (cond (not b) (w ∷ l) l) ≡ (bytes_eq name w || is_one_of words name)
stay_case name w words l so_far true gone = so_far ∙ sym (ap (λ c. c || is_one_of words name) (gone refl))
stay_case name w words l so_far false gone = ap (λ c. bytes_eq name w || c) so_far

-- a word that is not the removed one stays
others-stay : (name word : Word) (words : List Word) → bytes_eq name word ≡ false → is_one_of (filter (λ other. not (bytes_eq other word)) words) name ≡ is_one_of words name
others-stay name word [] differ = refl
others-stay name word (w ∷ words) differ =
    stay_case name w words (filter (λ other. not (bytes_eq other word)) words) (others-stay name word words differ) (bytes_eq w word)
    (λ same. ap (bytes_eq name) (same_text w word (sym same)) ∙ differ)

distinct_case : (name word : Word) (words : List Word) → is_one_of (distinct words) name ≡ is_one_of words name → (b : Bool) → bytes_eq name word ≡ b
    → (b || is_one_of (filter (λ other. not (bytes_eq other word)) (distinct words)) name) ≡ (b || is_one_of words name)
distinct_case name word words so_far true e = refl
distinct_case name word words so_far false e = others-stay name word (distinct words) e ∙ so_far

pub is_one_of-distinct : (words : List Word) (name : Word) → is_one_of (distinct words) name ≡ is_one_of words name
is_one_of-distinct [] name = refl
is_one_of-distinct (word ∷ words) name = distinct_case name word words (is_one_of-distinct words name) (bytes_eq name word) refl

any-map : (name : Word) (records : List Record) → list_any (λ r. bytes_eq name (field 0 r)) records ≡ is_one_of (map (field 0) records) name
any-map name [] = refl
any-map name (r ∷ records) = ap (λ b. bytes_eq name (field 0 r) || b) (any-map name records)

passed : {X : Type 0} (q p : X → Bool) (x : X) (l : List X) → list_any (λ y. q y && p y) l ≡ list_any p l → (b : Bool) → q x ≡ b → list_any (λ y. q y && p y) (cond b (x ∷ l) l) ≡ list_any p (cond b (x ∷ l) l)
passed q p x l so_far true e = ap (λ c. (c && p x) || list_any (λ y. q y && p y) l) e ∙ ap (λ c. p x || c) so_far
passed q p x l so_far false e = so_far

any-passed : {X : Type 0} (q p : X → Bool) (xs : List X) → list_any (λ x. q x && p x) (filter q xs) ≡ list_any p (filter q xs)
any-passed q p [] = refl
any-passed q p (x ∷ xs) = passed q p x (filter q xs) (any-passed q p xs) (q x) refl

-- a name is new where it stands on no line of COLUMNS
pub new_column-names : (before : List Record) (name : Word) → is_new_column before name ≡ not (is_one_of (map (field 0) (column_records before)) name)
new_column-names before name = ap not (any-passed (λ r. not (is_marker r)) (λ r. bytes_eq name (field 0 r)) (data_in Columns before) ∙ any-map name (column_records before))

pub is_new_column-names : (before : List Record) (name : Word) → is_new_column before name ≡ not (is_one_of (column_names before) name)
is_new_column-names before name = new_column-names before name ∙ ap not (sym (is_one_of-distinct (map (field 0) (column_records before)) name))

pub lacked : (before : List Record) (name : Word) → is_new_column before name ≡ not (is_one_of (column_names before) name)
lacked = is_new_column-names
