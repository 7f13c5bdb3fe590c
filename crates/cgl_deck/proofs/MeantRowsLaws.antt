-- The rows of a model from the lines of its deck.
use Rattle.std.proofs.Common.{◌≡◌, refl, sym, ap, ap₂, ◌∙◌, subst, pos, Bool, true, false, cond, List, [], ◌∷◌, codes, length, map, filter, filter_map, flat_map, bytes_eq, Option, Some, None, option_and_then, unwrap_or, slice_get}
use Rattle.std.specs.List.{AllByRecursion, cons_option}
use Rattle.std.specs.Option.{IfSome}
use Rattle.std.proofs.lemmas.Bool.Decides.{Decides-int_eq}
use Rattle.std.proofs.lemmas.List.Folds.{flat_map-map}
use Rattle.cgl_num.specs.Decimal.{Decimal, IsDecimal, decimal_text}
use Rattle.cgl_num.specs.NumberText.{Word, number, whole}
use Rattle.cgl_model.specs.HasDecimals.{IsDecimalRow}
use Rattle.cgl_model.specs.Valid.{AreDistinct}
use Rattle.cgl_model.specs.declared.mip.RowKind.{RowKind}
use Rattle.cgl_model.specs.declared.mip.RowKind.TheVariants.{N, L, G, E}
use Rattle.cgl_model.specs.declared.mip.Row.{Row}
use Rattle.cgl_decode.specs.declared.kinds.Section.{Section}
use Rattle.cgl_decode.specs.declared.kinds.Section.TheVariants.{Rows, Rhs, Ranges}
use Rattle.cgl_decode.specs.Records.{Record, data_in}
use Rattle.cgl_decode.specs.Sections.{Pair, counting, counting_pairs, counts_after, first_or, is_odd, pairs_of, rest, row_in, rows, same_set, set_in, set_pairs}
use Rattle.cgl_decode.specs.Models.{row_of, value_at}
use Rattle.cgl_decode.proofs.DistinctLaws.{same_word}
use Rattle.cgl_decode.proofs.SoundLaws.{all_map, all_unmap, all_weaker}
use Rattle.cgl_deck.specs.DeckText.{is_zero_decimal, kind_word}
use Rattle.cgl_deck.specs.DeckLines.{Line, data_of, range_lines, range_lines_of, rhs_lines, row_line}
use Rattle.cgl_deck.proofs.MeantLineLaws.{all_flat_map, fields_in, words_of}
use Rattle.cgl_deck.proofs.MeantGroupLaws.{Keyed, all_both, all_pass, find_first, flat_flat, flat_same, found_map, groups, map_back}

-- the text of a decimal is read as that decimal
abbrev pub ReadsBack : Type 0
ReadsBack = (d : Decimal) → IsDecimal d → number (decimal_text d) ≡ Some d

-- ---- names and kinds

row_said : (r : Row) → row_in (kind_word r.kind ∷ r.name ∷ []) ≡ Some (r.kind, r.name)
row_said r = kind_said r.kind r.name
  where
    kind_said : (kind : RowKind) (name : Word) → row_in (kind_word kind ∷ name ∷ []) ≡ Some (kind, name)
    kind_said N name = refl
    kind_said L name = refl
    kind_said G name = refl
    kind_said E name = refl

rows_listed : (rs : List Row) → filter_map row_in (map (λ l. l.words) (map row_line rs)) ≡ map (λ r. (r.kind, r.name)) rs
rows_listed [] = refl
rows_listed (r ∷ rs) = ap₂ (λ o others. cons_option o others) (row_said r) (rows_listed rs)

pub rows_said : (records : List Record) (rs : List Row) → fields_in (data_in Rows records) ≡ map (λ l. l.words) (map row_line rs) → rows records ≡ map (λ r. (r.kind, r.name)) rs
rows_said records rs said = sym (found_map row_in (λ (r : Record). r.fields) (data_in Rows records)) ∙ ap (filter_map row_in) said ∙ rows_listed rs

-- ---- sets: every line is of one set, so all count

counts_same : (section : Section) (set : Word) (found : List Record) → AllByRecursion (λ r. set_in section r ≡ Some set) found
    → AllByRecursion (λ r. same_set (set_in section (first_or r found)) (set_in section r) ≡ true) found
counts_same section set [] all = tt
counts_same section set (first ∷ found) all =
    all_weaker (λ r. set_in section r ≡ Some set) (λ r. same_set (set_in section first) (set_in section r) ≡ true)
    (λ r is. ap₂ same_set all.0 is ∙ same_word set set refl) (first ∷ found) all

pub all_count : (section : Section) (set : Word) (records : List Record) → AllByRecursion (λ r. set_in section r ≡ Some set) (data_in section records) → counting section records ≡ data_in section records
all_count section set records all = all_pass (counts_after section records) (data_in section records) (counts_same section set (data_in section records) all)

abbrev set_of : List Word → Option Word
set_of fields = cond (is_odd (length fields)) (slice_get fields 0) None

abbrev pairs_said : List Word → List Pair
pairs_said fields = pairs_of (cond (is_odd (length fields)) (rest fields) fields)

pairs_counted : (section : Section) (set : Word) (records : List Record) (lines : List (List Word)) → ((r : Record) → set_in section r ≡ set_of r.fields)
    → fields_in (data_in section records) ≡ lines → AllByRecursion (λ fields. set_of fields ≡ Some set) lines → counting_pairs section records ≡ flat_map pairs_said lines
pairs_counted section set records lines plain said all =
    let sets : AllByRecursion (λ r. set_of r.fields ≡ Some set) (data_in section records) =
    all_unmap (λ fields. set_of fields ≡ Some set) (λ (r : Record). r.fields) (data_in section records) (subst (AllByRecursion (λ fields. set_of fields ≡ Some set)) (sym said) all) in
    ap (flat_map set_pairs) (all_count section set records (all_weaker (λ r. set_of r.fields ≡ Some set) (λ r. set_in section r ≡ Some set) (λ r is. plain r ∙ is) (data_in section records) sets))
    ∙ sym (flat_map-map pairs_said (λ (r : Record). r.fields) (data_in section records))
    ∙ ap (flat_map pairs_said) said

-- ---- values by names

abbrev pub pair_of : Word → Option Decimal → List Pair
pair_of name None = []
pair_of name (Some d) = (name, decimal_text d) ∷ []

keyed_case : (name : Word) (o : Option Decimal) (w : Word) → AllByRecursion (λ p. bytes_eq w p.0 ≡ bytes_eq w name) (pair_of name o)
keyed_case name None w = tt
keyed_case name (Some d) w = (refl, tt)

all_keyed : (value : Row → Option Decimal) (rs : List Row) → AllByRecursion (Keyed (λ r. r.name) (λ w p. bytes_eq w p.0) (λ r. pair_of r.name (value r))) rs
all_keyed value [] = tt
all_keyed value (r ∷ rs) = (λ w. keyed_case r.name (value r) w, all_keyed value rs)

value_case : ReadsBack → (name : Word) (o : Option Decimal) → IfSome o IsDecimal → option_and_then (λ p. number p.1) (slice_get (pair_of name o) 0) ≡ o
value_case reads name None is = refl
value_case reads name (Some d) is = reads d is

pub values_found : ReadsBack → (value : Row → Option Decimal) (rs : List Row) → AreDistinct (map (λ r. r.name) rs) → AllByRecursion (λ r. IfSome (value r) IsDecimal) rs
    → AllByRecursion (λ r. value_at (flat_map (λ r. pair_of r.name (value r)) rs) r.name ≡ value r) rs
values_found reads value rs once decimals =
    let pairs : List Pair = flat_map (λ r. pair_of r.name (value r)) rs in
    all_both (λ r. IfSome (value r) IsDecimal) (λ r. filter (λ p. bytes_eq r.name p.0) pairs ≡ pair_of r.name (value r)) (λ r. value_at pairs r.name ≡ value r)
    (λ r is found.
    ap (option_and_then (λ p. number p.1)) (find_first (λ p. bytes_eq r.name p.0) pairs ∙ ap (λ l. slice_get l 0) found) ∙ value_case reads r.name (value r) is)
    rs decimals (groups (λ r. r.name) (λ w p. bytes_eq w p.0) (λ r. pair_of r.name (value r)) rs (all_keyed value rs) once)

-- ---- right sides

abbrev rhs_value : Row → Option Decimal
rhs_value r = cond (is_zero_decimal r.rhs) None (Some r.rhs)

rhs_case : (name : Word) (d : Decimal) (b : Bool)
    → flat_map (λ (l : Line). pairs_said l.words) (cond b [] (data_of Rhs (codes "RHS" ∷ name ∷ decimal_text d ∷ []) ∷ [])) ≡ pair_of name (cond b None (Some d))
rhs_case name d true = refl
rhs_case name d false = refl

rhs_set : (name : Word) (d : Decimal) (b : Bool)
    → AllByRecursion (λ (l : Line). set_of l.words ≡ Some (codes "RHS")) (cond b [] (data_of Rhs (codes "RHS" ∷ name ∷ decimal_text d ∷ []) ∷ []))
rhs_set name d true = tt
rhs_set name d false = (refl, tt)

rhs_pairs : (records : List Record) (rs : List Row) → fields_in (data_in Rhs records) ≡ map words_of (flat_map rhs_lines rs) → counting_pairs Rhs records ≡ flat_map (λ r. pair_of r.name (rhs_value r)) rs
rhs_pairs records rs said =
    pairs_counted Rhs (codes "RHS") records (map words_of (flat_map rhs_lines rs)) (λ r. refl) said
    (all_map (λ fields. set_of fields ≡ Some (codes "RHS")) words_of (flat_map rhs_lines rs)
    (all_flat_map (λ l. set_of l.words ≡ Some (codes "RHS")) rhs_lines (λ r. rhs_set r.name r.rhs (is_zero_decimal r.rhs)) rs))
    ∙ flat_map-map pairs_said words_of (flat_map rhs_lines rs)
    ∙ flat_flat (λ l. pairs_said l.words) rhs_lines rs
    ∙ flat_same (λ r. flat_map (λ l. pairs_said l.words) (rhs_lines r)) (λ r. pair_of r.name (rhs_value r)) (λ r. rhs_case r.name r.rhs (is_zero_decimal r.rhs)) rs

decimal_case : (d : Decimal) → IsDecimal d → (b : Bool) → IfSome (cond b None (Some d)) IsDecimal
decimal_case d is true = tt
decimal_case d is false = is

pub zero_is : (d : Decimal) → IsDecimal d → is_zero_decimal d ≡ true → whole (pos 0) ≡ d
zero_is d is zero =
    let m_zero : d.m ≡ pos 0 = (Decides-int_eq d.m (pos 0)).0 zero in
    ap₂ (λ m e. record { m = m; e = e }) (sym m_zero) (sym (is.normal.zero m_zero))

side_case : (d : Decimal) → IsDecimal d → (b : Bool) → is_zero_decimal d ≡ b → unwrap_or (cond b None (Some d)) (whole (pos 0)) ≡ d
side_case d is true e = zero_is d is e
side_case d is false e = refl

-- ---- ranges

range_case : (name : Word) (o : Option Decimal) → flat_map (λ (l : Line). pairs_said l.words) (range_lines_of name o) ≡ pair_of name o
range_case name None = refl
range_case name (Some d) = refl

range_set : (name : Word) (o : Option Decimal) → AllByRecursion (λ (l : Line). set_of l.words ≡ Some (codes "RNG")) (range_lines_of name o)
range_set name None = tt
range_set name (Some d) = (refl, tt)

range_pairs : (records : List Record) (rs : List Row) → fields_in (data_in Ranges records) ≡ map words_of (flat_map range_lines rs) → counting_pairs Ranges records ≡ flat_map (λ r. pair_of r.name r.range) rs
range_pairs records rs said =
    pairs_counted Ranges (codes "RNG") records (map words_of (flat_map range_lines rs)) (λ r. refl) said
    (all_map (λ fields. set_of fields ≡ Some (codes "RNG")) words_of (flat_map range_lines rs)
    (all_flat_map (λ l. set_of l.words ≡ Some (codes "RNG")) range_lines (λ r. range_set r.name r.range) rs))
    ∙ flat_map-map pairs_said words_of (flat_map range_lines rs)
    ∙ flat_flat (λ l. pairs_said l.words) range_lines rs
    ∙ flat_same (λ r. flat_map (λ l. pairs_said l.words) (range_lines r)) (λ r. pair_of r.name r.range) (λ r. range_case r.name r.range) rs

-- ---- rows

row_back : (records : List Record) (r : Row) → IsDecimalRow r → value_at (counting_pairs Rhs records) r.name ≡ rhs_value r → value_at (counting_pairs Ranges records) r.name ≡ r.range → row_of records (r.kind, r.name) ≡ r
row_back records r is side range =
    ap₂ (λ a b. record { name = r.name; kind = r.kind; rhs = a; range = b })
    (ap (λ o. unwrap_or o (whole (pos 0))) side ∙ side_case r.rhs is.rhs (is_zero_decimal r.rhs) refl) range

pub rows_back : ReadsBack → (records : List Record) (rs : List Row) → AreDistinct (map (λ r. r.name) rs) → AllByRecursion IsDecimalRow rs
    → fields_in (data_in Rows records) ≡ map (λ l. l.words) (map row_line rs)
    → fields_in (data_in Rhs records) ≡ map (λ l. l.words) (flat_map rhs_lines rs)
    → fields_in (data_in Ranges records) ≡ map (λ l. l.words) (flat_map range_lines rs)
    → map (row_of records) (rows records) ≡ rs
rows_back reads records rs once decimals said sides ranges =
    let side_at : Row → Type 0 = λ r. value_at (counting_pairs Rhs records) r.name ≡ rhs_value r in
    let range_at : Row → Type 0 = λ r. value_at (counting_pairs Ranges records) r.name ≡ r.range in
    let all_sides : AllByRecursion side_at rs =
    subst (λ pairs. AllByRecursion (λ r. value_at pairs r.name ≡ rhs_value r) rs) (sym (rhs_pairs records rs sides))
    (values_found reads rhs_value rs once (all_weaker IsDecimalRow (λ r. IfSome (rhs_value r) IsDecimal) (λ r is. decimal_case r.rhs is.rhs (is_zero_decimal r.rhs)) rs decimals)) in
    let all_ranges : AllByRecursion range_at rs =
    subst (λ pairs. AllByRecursion (λ r. value_at pairs r.name ≡ r.range) rs) (sym (range_pairs records rs ranges))
    (values_found reads (λ r. r.range) rs once (all_weaker IsDecimalRow (λ r. IfSome r.range IsDecimal) (λ r is. is.range) rs decimals)) in
    ap (map (row_of records)) (rows_said records rs said)
    ∙ map_back (λ r. (r.kind, r.name)) (row_of records) rs
    (all_both IsDecimalRow (λ r. side_at r × range_at r) (λ r. row_of records (r.kind, r.name) ≡ r) (λ r is at. row_back records r is at.0 at.1) rs decimals
    (all_both side_at range_at (λ r. side_at r × range_at r) (λ r a b. (a, b)) rs all_sides all_ranges))
