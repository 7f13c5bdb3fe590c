-- The model of a deck is valid.
use Rattle.std.proofs.Common.{◌≡◌, refl, sym, ap, ap₂, ◌∙◌, subst, arith, ℕ, ◌+◌, ◌<◌, ◌≤◌, true, cond, not, ◌&&◌, List, [], ◌∷◌, ◌++◌, append_assoc, length, length-append, map, filter, filter_map, flat_map, bytes_eq, Option, Some, None, unwrap_or, pos, negsuc, lit<}
use Rattle.std.specs.List.{AllByRecursion}
use Rattle.std.specs.Prelude.{ℤ, ◌≤ℤ◌}
use Rattle.std.proofs.lemmas.List.{length-map}
use Rattle.std.proofs.lemmas.List.Elements.{filter-append}
use Rattle.std.proofs.lemmas.Grind.{flat_map-append}
use Rattle.std.proofs.lemmas.Int.{ints}
use Rattle.cgl_num.specs.Decimal.{Decimal, places_in}
use Rattle.cgl_num.specs.declared.number_text.Limit.{Limit}
use Rattle.cgl_num.specs.declared.number_text.Limit.TheVariants.{Finite, Plus, Minus}
use Rattle.cgl_num.specs.NumberText.{Word, whole, limit, finite}
use Rattle.cgl_num.proofs.NumberLawsValid.{bound-small, bound-valid}
use Rattle.cgl_model.specs.declared.mip.RowKind.{RowKind}
use Rattle.cgl_model.specs.declared.mip.Row.{Row}
use Rattle.cgl_model.specs.declared.mip.Column.{Column}
use Rattle.cgl_model.specs.Valid.{IsSized, IsValid, IsColumn, IsBound, IsName, IsModelName, IsRowName, AreDistinct}
use Rattle.cgl_decode.specs.Records.{Record, field}
use Rattle.cgl_decode.specs.Sections.{Bound, rows, row_names, names_column, column_records, column_names, entry_pairs, distinct}
use Rattle.cgl_decode.specs.Faults.{pairs_of_column}
use Rattle.cgl_decode.specs.Models.{model_of, row_of, column_of, entries_of, last_or, name_in, value_in, bounds_of}
use Rattle.cgl_decode.specs.Decode.{deck_limits}
use Rattle.cgl_decode.specs.Meaning.{DecksAreValid}
use Rattle.cgl_decode.proofs.BoundValueLaws.{HoldsOfBounds, last_keeps, lower_holds, upper_holds}
use Rattle.cgl_decode.proofs.DistinctLaws.{are_distinct, same_word, weight}
use Rattle.cgl_decode.proofs.JudgedLaws.{Found, deck_keeps}
use Rattle.cgl_decode.proofs.SizeLaws.{rows_are, cols_are, decks_sized, all_pairs}
use Rattle.cgl_decode.proofs.SoundLaws.{all_append, all_weaker, all_filter, all_map, all_unmap, IsKnown, IsColumnLine, IsSound, stays_sound, none_sound}
use Rattle.cgl_decode.proofs.EntryLaws.{entries_many, entries_below, entries_apart}

-- bounds

few_places : (e : ℤ) → negsuc 29 ≤ℤ e → places_in e ≤ 30
few_places (pos n) le = omega arith
few_places (negsuc n) le = omega (arith, ints, le)

finite_case : (text : Word) (o : Option Limit) → limit text ≡ o → IsBound (finite o)
finite_case text None is = tt
finite_case text (Some Plus) is = tt
finite_case text (Some Minus) is = tt
finite_case text (Some (Finite d)) is = bound-small text d 30 is (few_places d.e (bound-valid text d is).within.scale)

value_bound : (b : Bound) → IsBound (value_in b)
value_bound b = finite_case (unwrap_or b.value []) (limit (unwrap_or b.value [])) refl

zero_bound : IsBound (Some (whole (pos 0)))
zero_bound = lit< tt

one_bound : IsBound (Some (whole (pos 1)))
one_bound = lit< tt

bounds_hold : HoldsOfBounds IsBound
bounds_hold = record { none = tt; zero = zero_bound; one = one_bound; value = value_bound }

-- pairs of a column

all_parts : {X : Type 0} (P : X → Type 0) (xs ys : List X) → AllByRecursion P (xs ++ ys) → AllByRecursion P xs × AllByRecursion P ys
all_parts P [] ys all = (tt, all)
all_parts P (x ∷ xs) ys all = let parts = all_parts P xs ys all.1 in ((all.0, parts.0), parts.1)

all_joined : {X Y : Type 0} (P : Y → Type 0) (f : X → List Y) (xs : List X) → AllByRecursion (λ x. AllByRecursion P (f x)) xs → AllByRecursion P (flat_map f xs)
all_joined P f [] all = tt
all_joined P f (x ∷ xs) all = all_append P (f x) (flat_map f xs) all.0 (all_joined P f xs all.1)

all_flat : {X Y : Type 0} (P : Y → Type 0) (f : X → List Y) (xs : List X) → AllByRecursion P (flat_map f xs) → AllByRecursion (λ x. AllByRecursion P (f x)) xs
all_flat P f [] all = tt
all_flat P f (x ∷ xs) all = let parts = all_parts P (f x) (flat_map f xs) all in (parts.0, all_flat P f xs parts.1)

known_pairs : (records : List Record) (name : Word) → AllByRecursion (IsKnown (row_names records)) (all_pairs records) → AllByRecursion (IsKnown (row_names records)) (pairs_of_column records name)
known_pairs records name all =
    all_joined (IsKnown (row_names records)) entry_pairs (filter (names_column name) (column_records records))
    (all_filter (λ r. AllByRecursion (IsKnown (row_names records)) (entry_pairs r)) (names_column name) (column_records records) (all_flat (IsKnown (row_names records)) entry_pairs (column_records records) all))

-- a column's own record has pairs

weight-append : (name : Word) (some others : List Record) → weight name (some ++ others) ≡ weight name some + weight name others
weight-append name some others =
    ap (λ l. length (flat_map entry_pairs l)) (filter-append (names_column name) some others)
    ∙ ap length (flat_map-append entry_pairs (filter (names_column name) some) (filter (names_column name) others))
    ∙ length-append (flat_map entry_pairs (filter (names_column name) some)) (flat_map entry_pairs (filter (names_column name) others))

own_weight : (r : Record) (others : List Record) → IsColumnLine r → 0 < weight (field 0 r) (r ∷ others)
own_weight r others line =
    let named : names_column (field 0 r) r ≡ true = ap₂ (λ a b. not a && b) line.entries (same_word (field 0 r) (field 0 r) refl) in
    let first : weight (field 0 r) (r ∷ others) ≡ length (entry_pairs r ++ flat_map entry_pairs (filter (names_column (field 0 r)) others)) =
    ap (λ b. length (flat_map entry_pairs (cond b (r ∷ filter (names_column (field 0 r)) others) (filter (names_column (field 0 r)) others)))) named in
    omega (arith, first, line.some, length-append (entry_pairs r) (flat_map entry_pairs (filter (names_column (field 0 r)) others)))

have_weight : (all before records : List Record) → all ≡ before ++ records → AllByRecursion IsColumnLine records → AllByRecursion (λ r. 0 < weight (field 0 r) all) records
have_weight all before [] parts lines = tt
have_weight all before (r ∷ records) parts lines =
    let own = own_weight r records lines.0 in (
      omega (arith, own, ap (weight (field 0 r)) parts, weight-append (field 0 r) before (r ∷ records)),
      have_weight all (before ++ r ∷ []) records (parts ∙ sym (append_assoc before (r ∷ []) records)) lines.1,
    )

-- a column

both_all : {X : Type 0} (P Q : X → Type 0) (xs : List X) → AllByRecursion P xs → AllByRecursion Q xs → AllByRecursion (λ x. P x × Q x) xs
both_all P Q [] all more = tt
both_all P Q (x ∷ xs) all more = ((all.0, more.0), both_all P Q xs all.1 more.1)

all_distinct : (P : Word → Type 0) (words : List Word) → AllByRecursion P words → AllByRecursion P (distinct words)
all_distinct P [] all = tt
all_distinct P (word ∷ words) all = (all.0, all_filter P (λ other. not (bytes_eq other word)) (distinct words) (all_distinct P words all.1))

row_count : (records : List Record) → length (row_names records) ≡ length (model_of records).rows
row_count records = length-map (rows records) (λ r. r.1) ∙ sym (ap length (rows_are records) ∙ length-map (rows records) (row_of records))

sound_column : (records : List Record) → IsSound records → (name : Word) → IsName name → 0 < weight name (column_records records) → IsColumn (length (model_of records).rows) (column_of records name)
sound_column records sound name good heavy =
    let names = row_names records in
    let pairs = pairs_of_column records name in
    let known = known_pairs records name sound.known in
    let Below : ℕ → Type 0 = λ n. AllByRecursion (λ (e : ℕ × Decimal). e.0 < n) (entries_of records name) in
    record {
      name = good;
      some = omega (arith, heavy, entries_many names pairs known);
      known = subst Below (row_count records) (entries_below names pairs known);
      distinct = entries_apart names pairs known (sound.once name);
      lower = lower_holds IsBound bounds_hold (bounds_of records name);
      upper = upper_holds IsBound bounds_hold (bounds_of records name);
    }

columns_valid : (records : List Record) → IsSound records → AllByRecursion (IsColumn (length (model_of records).rows)) (map (column_of records) (column_names records))
columns_valid records sound =
    let own = column_records records in
    let Good : Word → Type 0 = λ name. IsName name × (0 < weight name own) in
    let lines : AllByRecursion (λ r. Good (field 0 r)) own =
    both_all (λ r. IsName (field 0 r)) (λ r. 0 < weight (field 0 r) own) own (all_weaker IsColumnLine (λ r. IsName (field 0 r)) (λ r line. line.name) own sound.columns) (have_weight own [] own refl sound.columns) in
    all_map (IsColumn (length (model_of records).rows)) (column_of records) (column_names records)
    (all_weaker Good (λ name. IsColumn (length (model_of records).rows) (column_of records name)) (λ name good. sound_column records sound name good.0 good.1) (column_names records)
    (all_distinct Good (map (field 0) own) (all_map Good (field 0) own lines)))

-- a model

name_is : (records : List Record) → (model_of records).name ≡ last_or [] (filter_map name_in records)
unfolding model_of
name_is records = refl

names_of_rows : (records : List Record) (own : List (RowKind × Word)) → map (λ (r : Row). r.name) (map (row_of records) own) ≡ map (λ (r : RowKind × Word). r.1) own
names_of_rows records [] = refl
names_of_rows records (r ∷ own) = ap (λ l. r.1 ∷ l) (names_of_rows records own)

names_of_columns : (records : List Record) (names : List Word) → map (λ (c : Column). c.name) (map (column_of records) names) ≡ names
names_of_columns records [] = refl
names_of_columns records (name ∷ names) = ap (λ l. name ∷ l) (names_of_columns records names)

sound_valid : (records : List Record) → IsSized (model_of records) → IsSound records → IsValid (model_of records)
sound_valid records sized sound = record {
  sized = sized;
  name = subst IsModelName (sym (name_is records)) (last_keeps IsModelName [] (filter_map name_in records) refl sound.name);
  row_names = subst (AllByRecursion (λ (r : Row). IsRowName r.name)) (sym (rows_are records)) (all_map (λ (r : Row). IsRowName r.name) (row_of records) (rows records) (all_unmap IsRowName (λ (r : RowKind × Word). r.1) (rows records) sound.rows.good));
  distinct_rows = subst AreDistinct (sym (ap (map (λ (r : Row). r.name)) (rows_are records) ∙ names_of_rows records (rows records))) sound.rows.distinct;
  columns = subst (AllByRecursion (IsColumn (length (model_of records).rows))) (sym (cols_are records)) (columns_valid records sound);
  distinct_columns = subst AreDistinct (sym (ap (map (λ (c : Column). c.name)) (cols_are records) ∙ names_of_columns records (column_names records))) (are_distinct (map (field 0) (column_records records)));
}

pub decks_valid : DecksAreValid
decks_valid bytes m is =
    let found : Found IsSound m = deck_keeps IsSound deck_limits bytes (stays_sound deck_limits bytes) none_sound m is in
    let sized : IsSized (model_of found.0) = subst IsSized found.1 (decks_sized bytes m is) in
    subst IsValid (sym found.1) (sound_valid found.0 sized found.2)
