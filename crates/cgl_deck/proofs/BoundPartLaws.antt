-- The lines of BOUNDS have no fault.
use Rattle.std.proofs.Common.{◌≡◌, refl, sym, ap, ◌∙◌, subst, arith, ℕ, Bool, true, false, cond, not, ◌&&◌, List, [], ◌∷◌, ◌++◌, flat_map, codes, Option, Some, None, option_map, unwrap_or, pos, int_lt}
use Rattle.std.specs.List.{AllByRecursion}
use Rattle.std.proofs.lemmas.Bool.{and_right}
use Rattle.cgl_num.specs.Decimal.{Decimal, decimal_text}
use Rattle.cgl_num.specs.NumberText.{Word, limit}
use Rattle.cgl_num.specs.declared.number_text.Limit.TheVariants.{Finite}
use Rattle.cgl_text.specs.Text.{is_one_of}
use Rattle.cgl_model.specs.declared.mip.Column.{Column}
use Rattle.cgl_decode.specs.declared.kinds.Section.TheVariants.{Bounds}
use Rattle.cgl_decode.specs.declared.kinds.BoundKind.TheVariants.{Lo, Up, Fx}
use Rattle.cgl_decode.specs.Records.{Record}
use Rattle.cgl_decode.specs.Sections.{column_names, counts_after}
use Rattle.cgl_decode.specs.Faults.{bound_conditions, takes}
use Rattle.cgl_deck.specs.DeckText.{is_zero_decimal, is_same_decimal}
use Rattle.cgl_deck.specs.DeckLines.{Line, data_of, record_at, bound_line_of, bound_lines, bound_lines_of, both_lines, lower_lines}
use Rattle.cgl_deck.proofs.PartLaws.{IsGood, Part, fine, first, nothing}
use Rattle.cgl_deck.proofs.SetPartLaws.{AfterColumns, pushed}

pub record IsBoundLine (rows names : List Word) (l : Line) : Type 0 where
  pub words : List Word
  pub is : l ≡ data_of Bounds words
  pub good : (before : List Record) (n : ℕ) → AfterColumns 8 rows names before → IsGood before (record_at n (data_of Bounds words))

pub bounds_part : (rows names : List Word) (lines : List Line) → AllByRecursion (IsBoundLine rows names) lines → Part (AfterColumns 8 rows names) lines (AfterColumns 8 rows names)
bounds_part rows names [] all = nothing (AfterColumns 8 rows names) (AfterColumns 8 rows names) (λ before h. h)
bounds_part rows names (l ∷ lines) all =
    subst (λ k. Part (AfterColumns 8 rows names) (k ∷ lines) (AfterColumns 8 rows names)) (sym all.0.is)
    (first (AfterColumns 8 rows names) (AfterColumns 8 rows names) (AfterColumns 8 rows names) (data_of Bounds all.0.words) lines
    (λ before n h. (all.0.good before n h, pushed 8 8 (omega arith) rows names before (record_at n (data_of Bounds all.0.words)) refl refl (omega arith) (omega arith) h))
    (bounds_part rows names lines all.1))

-- ---- the lines of a column

known : (rows names : List Word) (name : Word) → is_one_of names name ≡ true → (counts : Bool) (before : List Record) → AfterColumns 8 rows names before → (counts && not (is_one_of (column_names before) name)) ≡ false
known rows names name has counts before h = and_right counts (not (is_one_of (column_names before) name)) (ap (λ l. not (is_one_of l name)) h.columns ∙ ap not has)

free_line : (rows names : List Word) (name : Word) → is_one_of names name ≡ true → IsBoundLine rows names (bound_line_of (codes "FR") name [])
free_line rows names name has = record {
  words = codes "FR" ∷ codes "BND" ∷ name ∷ [];
  is = refl;
  good = λ before n h.
      let r = record_at n (bound_line_of (codes "FR") name []) in
      (refl, fine (bound_conditions before r) (refl, (refl, (known rows names name has (counts_after Bounds before r) before h, (refl, tt)))));
}

minus_line : (rows names : List Word) (name : Word) → is_one_of names name ≡ true → IsBoundLine rows names (bound_line_of (codes "MI") name [])
minus_line rows names name has = record {
  words = codes "MI" ∷ codes "BND" ∷ name ∷ [];
  is = refl;
  good = λ before n h.
      let r = record_at n (bound_line_of (codes "MI") name []) in
      (refl, fine (bound_conditions before r) (refl, (refl, (known rows names name has (counts_after Bounds before r) before h, (refl, tt)))));
}

plus_line : (rows names : List Word) (name : Word) → is_one_of names name ≡ true → IsBoundLine rows names (bound_line_of (codes "PL") name [])
plus_line rows names name has = record {
  words = codes "PL" ∷ codes "BND" ∷ name ∷ [];
  is = refl;
  good = λ before n h.
      let r = record_at n (bound_line_of (codes "PL") name []) in
      (refl, fine (bound_conditions before r) (refl, (refl, (known rows names name has (counts_after Bounds before r) before h, (refl, tt)))));
}

-- a bound whose text is read back
abbrev pub IsLimit : Decimal → Type 0
IsLimit d = limit (decimal_text d) ≡ Some (Finite d)

abbrev pub IsLimitOf : Option Decimal → Type 0
IsLimitOf None = Unit {0}
IsLimitOf (Some d) = IsLimit d

lower_line : (rows names : List Word) (name : Word) (d : Decimal) → is_one_of names name ≡ true → IsLimit d → IsBoundLine rows names (bound_line_of (codes "LO") name (decimal_text d ∷ []))
lower_line rows names name d has read = record {
  words = codes "LO" ∷ codes "BND" ∷ name ∷ decimal_text d ∷ [];
  is = refl;
  good = λ before n h.
      let r = record_at n (bound_line_of (codes "LO") name (decimal_text d ∷ [])) in
      (refl, fine (bound_conditions before r) (refl, (refl, (known rows names name has (counts_after Bounds before r) before h, (ap (λ o. not (unwrap_or (option_map (takes Lo) o) false)) read, tt)))));
}

upper_line : (rows names : List Word) (name : Word) (d : Decimal) → is_one_of names name ≡ true → IsLimit d → IsBoundLine rows names (bound_line_of (codes "UP") name (decimal_text d ∷ []))
upper_line rows names name d has read = record {
  words = codes "UP" ∷ codes "BND" ∷ name ∷ decimal_text d ∷ [];
  is = refl;
  good = λ before n h.
      let r = record_at n (bound_line_of (codes "UP") name (decimal_text d ∷ [])) in
      (refl, fine (bound_conditions before r) (refl, (refl, (known rows names name has (counts_after Bounds before r) before h, (ap (λ o. not (unwrap_or (option_map (takes Up) o) false)) read, tt)))));
}

fixed_line : (rows names : List Word) (name : Word) (d : Decimal) → is_one_of names name ≡ true → IsLimit d → IsBoundLine rows names (bound_line_of (codes "FX") name (decimal_text d ∷ []))
fixed_line rows names name d has read = record {
  words = codes "FX" ∷ codes "BND" ∷ name ∷ decimal_text d ∷ [];
  is = refl;
  good = λ before n h.
      let r = record_at n (bound_line_of (codes "FX") name (decimal_text d ∷ [])) in
      (refl, fine (bound_conditions before r) (refl, (refl, (known rows names name has (counts_after Bounds before r) before h, (ap (λ o. not (unwrap_or (option_map (takes Fx) o) false)) read, tt)))));
}

all_cond : {X : Type 0} (P : X → Type 0) (b : Bool) (xs ys : List X) → AllByRecursion P xs → AllByRecursion P ys → AllByRecursion P (cond b xs ys)
all_cond P true xs ys first second = first
all_cond P false xs ys first second = second

pub all_append : {X : Type 0} (P : X → Type 0) (xs ys : List X) → AllByRecursion P xs → AllByRecursion P ys → AllByRecursion P (xs ++ ys)
all_append P [] ys first second = second
all_append P (x ∷ xs) ys first second = (first.0, all_append P xs ys first.1 second)

lower_part : (rows names : List Word) (name : Word) (integer : Bool) (l : Decimal) → is_one_of names name ≡ true → IsLimit l → AllByRecursion (IsBoundLine rows names) (lower_lines name integer l)
lower_part rows names name integer l has read =
    all_cond (IsBoundLine rows names) (is_zero_decimal l) (cond integer (bound_line_of (codes "PL") name [] ∷ []) []) (bound_line_of (codes "LO") name (decimal_text l ∷ []) ∷ [])
    (all_cond (IsBoundLine rows names) integer (bound_line_of (codes "PL") name [] ∷ []) [] (plus_line rows names name has, tt) tt)
    (lower_line rows names name l has read, tt)

both_part : (rows names : List Word) (name : Word) (l u : Decimal) → is_one_of names name ≡ true → IsLimit l → IsLimit u → AllByRecursion (IsBoundLine rows names) (both_lines name l u)
both_part rows names name l u has low high =
    all_append (IsBoundLine rows names) (cond (is_zero_decimal l && not (int_lt u.m (pos 0))) [] (bound_line_of (codes "LO") name (decimal_text l ∷ []) ∷ [])) (bound_line_of (codes "UP") name (decimal_text u ∷ []) ∷ [])
    (all_cond (IsBoundLine rows names) (is_zero_decimal l && not (int_lt u.m (pos 0))) [] (bound_line_of (codes "LO") name (decimal_text l ∷ []) ∷ []) tt (lower_line rows names name l has low, tt))
    (upper_line rows names name u has high, tt)

column_bounds : (rows names : List Word) (name : Word) (integer : Bool) (lo up : Option Decimal) → is_one_of names name ≡ true → IsLimitOf lo → IsLimitOf up → AllByRecursion (IsBoundLine rows names) (bound_lines_of name integer lo up)
column_bounds rows names name integer None None has low high = (free_line rows names name has, tt)
column_bounds rows names name integer None (Some u) has low high = (minus_line rows names name has, (upper_line rows names name u has high, tt))
column_bounds rows names name integer (Some l) None has low high = lower_part rows names name integer l has low
column_bounds rows names name integer (Some l) (Some u) has low high =
    all_cond (IsBoundLine rows names) (is_same_decimal l u) (bound_line_of (codes "FX") name (decimal_text l ∷ []) ∷ []) (both_lines name l u)
    (fixed_line rows names name l has low, tt)
    (both_part rows names name l u has low high)

pub record HasLimits (c : Column) : Type 0 where
  pub lower : IsLimitOf c.lo
  pub upper : IsLimitOf c.up

pub bounds_good : (rows names : List Word) (cols : List Column) → AllByRecursion HasLimits cols → AllByRecursion (λ c. is_one_of names c.name ≡ true) cols → AllByRecursion (IsBoundLine rows names) (flat_map bound_lines cols)
bounds_good rows names [] limits has = tt
bounds_good rows names (c ∷ cols) limits has =
    all_append (IsBoundLine rows names) (bound_lines c) (flat_map bound_lines cols)
    (column_bounds rows names c.name c.integer c.lo c.up has.0 limits.0.lower limits.0.upper)
    (bounds_good rows names cols limits.1 has.1)
