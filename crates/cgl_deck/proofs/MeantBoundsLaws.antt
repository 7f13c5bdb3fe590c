-- The bounds of a model's columns from the lines of its deck.
use Rattle.std.proofs.Common.{◌≡◌, refl, sym, ap, ap₂, ◌∙◌, subst, ℕ, ◌^◌, ◌<◌, pos, int_lt, unsigned_abs, Bool, true, false, cond, not, ◌&&◌, ◌||◌, List, [], ◌∷◌, ◌++◌, codes, map, filter, filter_map, flat_map, bytes_eq, Option, Some, None, option_and_then}
use Rattle.std.specs.List.{AllByRecursion, list_any}
use Rattle.std.specs.Option.{IfSome}
use Rattle.std.proofs.lemmas.Bool.{and_parts, cond_both}
use Rattle.std.proofs.lemmas.Bool.Decides.{Decides-int_eq}
use Rattle.cgl_num.specs.Decimal.{Decimal, IsDecimal, decimal_text, scaled}
use Rattle.cgl_num.specs.NumberText.{Word, finite, limit, whole}
use Rattle.cgl_num.specs.declared.number_text.Limit.TheVariants.{Finite}
use Rattle.cgl_model.specs.HasDecimals.{IsDecimalColumn}
use Rattle.cgl_model.specs.Valid.{AreDistinct, IsBound, IsColumn}
use Rattle.cgl_model.specs.declared.mip.Column.{Column}
use Rattle.cgl_decode.specs.declared.kinds.Section.TheVariants.{Bounds}
use Rattle.cgl_decode.specs.Records.{Record, data_in}
use Rattle.cgl_decode.specs.Sections.{Bound, bound_in, counting_bounds}
use Rattle.cgl_decode.specs.Models.{bounds_of, is_below_zero, lower_of, makes_integer, upper_of}
use Rattle.cgl_decode.proofs.DistinctLaws.{not_false}
use Rattle.cgl_decode.proofs.SoundLaws.{all_map, all_unmap, all_weaker}
use Rattle.cgl_deck.specs.DeckText.{is_same_decimal, is_zero_decimal}
use Rattle.cgl_deck.specs.DeckLines.{Line, bound_line_of, bound_lines, bound_lines_of, both_lines}
use Rattle.cgl_deck.proofs.MeantLineLaws.{fields_in, words_of}
use Rattle.cgl_deck.proofs.MeantGroupLaws.{Keyed, all_both, all_flat, found_flat, found_map, groups}
use Rattle.cgl_deck.proofs.MeantRowsLaws.{all_count, zero_is}

-- the text of a bound below 10^20 in magnitude is read as that bound
abbrev pub LimitReadsBack : Type 0
LimitReadsBack = (d : Decimal) → IsDecimal d → unsigned_abs (scaled 30 d) < 10 ^ 50 → limit (decimal_text d) ≡ Some (Finite d)

-- ---- what the lines of one column say

abbrev pub said : List Line → List Bound
said lines = filter_map (λ l. bound_in l.words) lines

abbrev set_of : List Word → Option Word
set_of fields = option_and_then (λ b. b.set) (bound_in fields)

record AreMeant (name : Word) (lo up : Option Decimal) (lines : List Line) : Type 0 where
  sets : AllByRecursion (λ l. set_of l.words ≡ Some (codes "BND")) lines
  columns : AllByRecursion (λ b. b.column ≡ name) (said lines)
  plain : list_any (λ b. makes_integer b.kind) (said lines) ≡ false
  lower : lower_of (said lines) ≡ lo
  upper : upper_of (said lines) ≡ up

abbrev text_line : Word → Word → Word → Line
text_line kind name text = bound_line_of kind name (text ∷ [])

abbrev low_line : Word → Word → Line
low_line name text = text_line (codes "LO") name text

abbrev high_line : Word → Word → Line
high_line name text = text_line (codes "UP") name text

free_meant : (name : Word) → AreMeant name None None (bound_line_of (codes "FR") name [] ∷ [])
free_meant name = record { sets = (refl, tt); columns = (refl, tt); plain = refl; lower = refl; upper = refl }

below_meant : (name text : Word) (u : Decimal) → finite (limit text) ≡ Some u → AreMeant name None (Some u) (bound_line_of (codes "MI") name [] ∷ high_line name text ∷ [])
below_meant name text u is = record { sets = (refl, (refl, tt)); columns = (refl, (refl, tt)); plain = refl; lower = refl; upper = is }

no_line_meant : (name : Word) → AreMeant name (Some (whole (pos 0))) None []
no_line_meant name = record { sets = tt; columns = tt; plain = refl; lower = refl; upper = refl }

plus_meant : (name : Word) → AreMeant name (Some (whole (pos 0))) None (bound_line_of (codes "PL") name [] ∷ [])
plus_meant name = record { sets = (refl, tt); columns = (refl, tt); plain = refl; lower = refl; upper = refl }

low_meant : (name text : Word) (l : Decimal) → finite (limit text) ≡ Some l → AreMeant name (Some l) None (low_line name text ∷ [])
low_meant name text l is = record { sets = (refl, tt); columns = (refl, tt); plain = refl; lower = is; upper = refl }

fixed_meant : (name text : Word) (l : Decimal) → finite (limit text) ≡ Some l → AreMeant name (Some l) (Some l) (text_line (codes "FX") name text ∷ [])
fixed_meant name text l is = record { sets = (refl, tt); columns = (refl, tt); plain = refl; lower = is; upper = is }

both_meant : (name low high : Word) (l u : Decimal) → finite (limit low) ≡ Some l → finite (limit high) ≡ Some u → AreMeant name (Some l) (Some u) (low_line name low ∷ high_line name high ∷ [])
both_meant name low high l u low_is high_is = record { sets = (refl, (refl, tt)); columns = (refl, (refl, tt)); plain = refl; lower = low_is; upper = high_is }

high_meant : (name text : Word) (u : Decimal) → finite (limit text) ≡ Some u → int_lt u.m (pos 0) ≡ false → AreMeant name (Some (whole (pos 0))) (Some u) (high_line name text ∷ [])
high_meant name text u is above = record {
  sets = (refl, tt);
  columns = (refl, tt);
  plain = refl;
  lower = ap (λ o. cond (is_below_zero o || false) None (Some (whole (pos 0)))) is ∙ ap (λ b. cond (b || false) None (Some (whole (pos 0)))) above;
  upper = is;
}

same_decimal : (l u : Decimal) → is_same_decimal l u ≡ true → l ≡ u
same_decimal l u same =
    let parts = and_parts _ _ same in
    ap₂ (λ m e. record { m = m; e = e }) ((Decides-int_eq l.m u.m).0 parts.0) ((Decides-int_eq l.e u.e).0 parts.1)

bounds_meant : LimitReadsBack → (name : Word) (integer : Bool) (lo up : Option Decimal) → IfSome lo IsDecimal → IfSome up IsDecimal → IsBound lo → IsBound up → AreMeant name lo up (bound_lines_of name integer lo up)
bounds_meant reads name integer None None lo_is up_is lo_small up_small = free_meant name
bounds_meant reads name integer None (Some u) lo_is up_is lo_small up_small = below_meant name (decimal_text u) u (ap finite (reads u up_is up_small))
bounds_meant reads name integer (Some l) None lo_is up_is lo_small up_small =
    let plus : List Line = bound_line_of (codes "PL") name [] ∷ [] in
    cond_both (is_zero_decimal l) (cond integer plus []) (low_line name (decimal_text l) ∷ []) (AreMeant name (Some l) None)
    (λ zero. subst (λ d. AreMeant name (Some d) None (cond integer plus [])) (zero_is l lo_is zero)
    (cond_both integer plus [] (AreMeant name (Some (whole (pos 0))) None) (λ e. plus_meant name) (λ e. no_line_meant name)))
    (λ other. low_meant name (decimal_text l) l (ap finite (reads l lo_is lo_small)))
bounds_meant reads name integer (Some l) (Some u) lo_is up_is lo_small up_small =
    let high : List Line = high_line name (decimal_text u) ∷ [] in
    let low : List Line = low_line name (decimal_text l) ∷ [] in
    let low_is : finite (limit (decimal_text l)) ≡ Some l = ap finite (reads l lo_is lo_small) in
    let high_is : finite (limit (decimal_text u)) ≡ Some u = ap finite (reads u up_is up_small) in
    cond_both (is_same_decimal l u) (text_line (codes "FX") name (decimal_text l) ∷ []) (both_lines name l u) (AreMeant name (Some l) (Some u))
    (λ same. subst (λ d. AreMeant name (Some l) (Some d) (text_line (codes "FX") name (decimal_text l) ∷ [])) (same_decimal l u same) (fixed_meant name (decimal_text l) l low_is))
    (λ differ. cond_both (is_zero_decimal l && not (int_lt u.m (pos 0))) [] low (λ first. AreMeant name (Some l) (Some u) (first ++ high))
    (λ free.
    let parts = and_parts (is_zero_decimal l) (not (int_lt u.m (pos 0))) free in
    subst (λ d. AreMeant name (Some d) (Some u) high) (zero_is l lo_is parts.0) (high_meant name (decimal_text u) u high_is (not_false (int_lt u.m (pos 0)) parts.1)))
    (λ bound. both_meant name (decimal_text l) (decimal_text u) l u low_is high_is))

-- ---- the lines of all columns

column_meant : LimitReadsBack → (rows : ℕ) (c : Column) → IsColumn rows c → IsDecimalColumn c → AreMeant c.name c.lo c.up (bound_lines c)
column_meant reads rows c valid is = bounds_meant reads c.name c.integer c.lo c.up is.lower is.upper valid.lower valid.upper

abbrev IsMeant : Column → Type 0
IsMeant c = AreMeant c.name c.lo c.up (bound_lines c)

all_meant : LimitReadsBack → (rows : ℕ) (cols : List Column) → AllByRecursion (IsColumn rows) cols → AllByRecursion IsDecimalColumn cols → AllByRecursion IsMeant cols
all_meant reads rows cols valid decimals = all_both (IsColumn rows) IsDecimalColumn IsMeant (λ c a b. column_meant reads rows c a b) cols valid decimals

bounds_counted : (records : List Record) (cols : List Column) → fields_in (data_in Bounds records) ≡ map words_of (flat_map bound_lines cols) → AllByRecursion IsMeant cols
    → counting_bounds records ≡ flat_map (λ c. said (bound_lines c)) cols
bounds_counted records cols lines meant =
    let own : List Record = data_in Bounds records in
    let InSet : List Word → Type 0 = λ fields. set_of fields ≡ Some (codes "BND") in
    let sets : AllByRecursion InSet (map words_of (flat_map bound_lines cols)) =
    all_map InSet words_of (flat_map bound_lines cols)
    (all_flat (λ l. InSet l.words) bound_lines cols (all_weaker IsMeant (λ c. AllByRecursion (λ l. InSet l.words) (bound_lines c)) (λ c is. is.sets) cols meant)) in
    ap (filter_map (λ r. bound_in r.fields)) (all_count Bounds (codes "BND") records (all_unmap InSet (λ (r : Record). r.fields) own (subst (AllByRecursion InSet) (sym lines) sets)))
    ∙ sym (found_map bound_in (λ (r : Record). r.fields) own)
    ∙ ap (filter_map bound_in) lines
    ∙ found_map bound_in words_of (flat_map bound_lines cols)
    ∙ found_flat (λ l. bound_in l.words) bound_lines cols

bounds_keyed : (cols : List Column) → AllByRecursion IsMeant cols → AllByRecursion (Keyed (λ c. c.name) (λ w b. bytes_eq w b.column) (λ c. said (bound_lines c))) cols
bounds_keyed cols meant =
    all_weaker IsMeant (Keyed (λ c. c.name) (λ w b. bytes_eq w b.column) (λ c. said (bound_lines c)))
    (λ c is w. all_weaker (λ (b : Bound). b.column ≡ c.name) (λ (b : Bound). bytes_eq w b.column ≡ bytes_eq w c.name) (λ b same. ap (bytes_eq w) same) (said (bound_lines c)) is.columns)
    cols meant

-- what a column's bounds come to
pub record HasBounds (records : List Record) (c : Column) : Type 0 where
  pub plain : list_any (λ b. makes_integer b.kind) (bounds_of records c.name) ≡ false
  pub lower : lower_of (bounds_of records c.name) ≡ c.lo
  pub upper : upper_of (bounds_of records c.name) ≡ c.up

has_bounds : (records : List Record) (c : Column) → IsMeant c → bounds_of records c.name ≡ said (bound_lines c) → HasBounds records c
has_bounds records c meant own = record {
  plain = ap (list_any (λ b. makes_integer b.kind)) own ∙ meant.plain;
  lower = ap lower_of own ∙ meant.lower;
  upper = ap upper_of own ∙ meant.upper;
}

pub bounds_said : LimitReadsBack → (rows : ℕ) (records : List Record) (cols : List Column) → AllByRecursion (IsColumn rows) cols → AllByRecursion IsDecimalColumn cols
    → AreDistinct (map (λ c. c.name) cols) → fields_in (data_in Bounds records) ≡ map (λ l. l.words) (flat_map bound_lines cols)
    → AllByRecursion (HasBounds records) cols
bounds_said reads rows records cols valid decimals once lines =
    let meant : AllByRecursion IsMeant cols = all_meant reads rows cols valid decimals in
    all_both IsMeant (λ c. filter (λ b. bytes_eq c.name b.column) (flat_map (λ c. said (bound_lines c)) cols) ≡ said (bound_lines c)) (HasBounds records)
    (λ c is own. has_bounds records c is (ap (filter (λ b. bytes_eq c.name b.column)) (bounds_counted records cols lines meant) ∙ own)) cols meant
    (groups (λ c. c.name) (λ w b. bytes_eq w b.column) (λ c. said (bound_lines c)) cols (bounds_keyed cols meant) once)
