-- The first kind of fault of a line's value, from what the code finds out in turn.
use Rattle.std.proofs.Common.{◌≡◌, ◌≢◌, sym, ap, ap₂, ◌∙◌, subst, arith, ℕ, ◌<◌, ◌≤◌, ◌^◌, ◌==◌, nat_lt, Bool, true, false, not, cond, List, [], length, get_or, Option, Some, None, is_some, is_none, option_and_then}
use Rattle.std.specs.Prelude.{option_map, slice_get, unsigned_abs, unwrap_or}
use denote.Ref.{Bor}
use Rattle.std.specs.List.{list_any}
use Rattle.std.proofs.lemmas.List.{get_or_read, length-map}
use Rattle.std.proofs.lemmas.Option.{slice_get-get_or, slice_get-map, unwrap_or-slice_get}
use Rattle.std.proofs.lemmas.Bool.Decides.{nat_tests}
use Rattle.cgl_num.specs.Fraction.{Fraction}
use Rattle.cgl_text.specs.Conditions.{first_kind}
use Rattle.cgl_text.specs.Seen.{word, words}
use Rattle.cgl_model.specs.declared.mip.Model.{Model}
use Rattle.cgl_where.specs.declared.carried.Carried.{Carried}
use Rattle.cgl_where.specs.PointValue.{value}
use Rattle.cgl_where.specs.PointFile.{Record, field, lcm}
use Rattle.cgl_where.proofs.CarriedLaws.{number_within}
use Rattle.cgl_where.specs.Carried.{column_number, named_at, grown_denominator, carried_conditions, is_wide}

-- ---- the two fields of a line

counted : (n : ℕ) → 2 ≤ n → n < 3 → not (n == 2) ≡ false
counted n least most = grind (arith, nat_tests)

two_fields : (fields : List (Bor (List ℕ))) (r : Record) → r.fields ≡ words fields → 2 ≤ length fields → length fields < 3 → not (length r.fields == 2) ≡ false
two_fields fields r is least most = ap (λ l. not (length l == 2)) is ∙ ap (λ n. not (n == 2)) (length-map fields word) ∙ counted (length fields) least most

pub field_at : (fields : List (Bor (List ℕ))) (r : Record) (k : ℕ) (empty : Bor (List ℕ)) → r.fields ≡ words fields → k < length fields → field k r ≡ (get_or fields k empty).now
field_at fields r k empty is lt =
    ap (λ l. unwrap_or (slice_get l k) []) is
    ∙ ap (λ o. unwrap_or o []) (slice_get-map word fields k ∙ ap (option_map word) (slice_get-get_or fields k empty lt))

-- ---- the kind of the first fault

-- of a value, where its column has none so far
abbrev pub taken_kind : Carried → Option Fraction → Option ℕ
taken_kind carried taken =
    cond (is_none taken) (Some 4) (cond (is_none (option_and_then (grown_denominator carried.values.items carried.denominator) taken)) (Some 13) None)

-- of a line of two fields that names this column and has this value
abbrev pub value_kind : Carried → Option ℕ → Option Fraction → Option ℕ
value_kind carried number taken = cond (is_none number) (Some 6) (cond (is_some (named_at carried.named.items number)) (Some 14) (taken_kind carried taken))

not_two : (n : ℕ) → n ≢ 2 → not (n == 2) ≡ true
not_two n other = grind (arith, nat_tests)

pub kind_count : (m : Model) (carried : Carried) (fields : List (Bor (List ℕ))) (r : Record) → r.fields ≡ words fields → length fields ≢ 2 → Some 3 ≡ first_kind (carried_conditions m carried r)
kind_count m carried fields r is other =
    let met : not (length r.fields == 2) ≡ true = ap (λ l. not (length l == 2)) is ∙ ap (λ n. not (n == 2)) (length-map fields word) ∙ not_two (length fields) other in
    sym (ap (λ b. cond b (Some 3) (value_kind carried (column_number m (field 0 r)) (value (field 1 r)))) met)

pub kind_of : (m : Model) (carried : Carried) (fields : List (Bor (List ℕ))) (r : Record) (empty : Bor (List ℕ)) (number : Option ℕ) (taken : Option Fraction)
    → r.fields ≡ words fields → 2 ≤ length fields → length fields < 3
    → column_number m (get_or fields 0 empty).now ≡ number → value (get_or fields 1 empty).now ≡ taken
    → value_kind carried number taken ≡ first_kind (carried_conditions m carried r)
kind_of m carried fields r empty number taken is least most number_is taken_is =
    let name : column_number m (field 0 r) ≡ number = ap (column_number m) (field_at fields r 0 empty is (omega (arith, least))) ∙ number_is in
    let text : value (field 1 r) ≡ taken = ap value (field_at fields r 1 empty is (omega (arith, least))) ∙ taken_is in
    sym (ap (λ b. cond b (Some 3) (value_kind carried (column_number m (field 0 r)) (value (field 1 r)))) (two_fields fields r is least most)
    ∙ ap₂ (value_kind carried) name text)

pub kind_at : (carried : Carried) (column : ℕ) (at taken : Option Fraction) (b : Bool) → column < length carried.named.items → at ≡ get_or carried.named.items column at → is_some at ≡ b
    → cond b (Some 14) (taken_kind carried taken) ≡ value_kind carried (Some column) taken
kind_at carried column at taken b lt is b_is =
    let named = carried.named.items in
    let at_is : at ≡ named_at named (Some column) = get_or_read named column at lt is None ∙ sym (unwrap_or-slice_get named column None) in
    ap (λ p. cond p (Some 14) (taken_kind carried taken)) (sym b_is ∙ ap is_some at_is)

pub kind_grown : (carried : Carried) (taken : Fraction) (values : List Fraction) (grown : Option ℕ) (b : Bool) → values ≡ carried.values.items → grown ≡ grown_denominator values carried.denominator taken
    → is_none grown ≡ b → cond b (Some 13) None ≡ taken_kind carried (Some taken)
kind_grown carried taken values grown b values_are is b_is =
    ap (λ p. cond p (Some 13) None) (sym b_is ∙ ap is_none (is ∙ ap (λ l. grown_denominator l carried.denominator taken) values_are))

-- ---- what is taken in

grown_case : (a b c : Bool) (d n : ℕ) → cond a None (cond b None (cond c None (Some d))) ≡ Some n → n ≡ d
grown_case true b c d n e = cc
grown_case false true c d n e = cc
grown_case false false true d n e = cc
grown_case false false false d n e = cc

pub grown_is : (values : List Fraction) (d n : ℕ) (f : Fraction) (p : Option ℕ) → p ≡ grown_denominator values d f → p ≡ Some n → n ≡ lcm (unsigned_abs f.den) d
grown_is values d n f p is some =
    let next = lcm (unsigned_abs f.den) d in
    grown_case (nat_lt (2 ^ 62) next) (is_wide next f) (list_any (is_wide next) values) next n (sym is ∙ some)

pub number_named : (m : Model) (name : List ℕ) (named : List (Option Fraction)) (o : Option ℕ) (j : ℕ) → o ≡ column_number m name → o ≡ Some j → length named ≡ length m.cols → j < length named
number_named m name named o j is some same =
    let F : ℕ → Type 0 = λ n. j < n in
    subst F (sym same) (number_within m name j (sym is ∙ some))
