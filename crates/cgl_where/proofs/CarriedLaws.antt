-- What a reader carries stands for the records so far.
use Rattle.std.proofs.Common.{◌≡◌, ◌≢◌, refl, sym, ap, ap₂, ◌∙◌, subst, arith, ℕ, zero, suc, ◌^◌, ◌<◌, ◌≤◌, ◌==◌, nat_lt, Bool, true, false, not, cond, ◌||◌, List, [], ◌∷◌, ◌++◌, append-nil, map, find, length, get_or, bytes_eq, Option, Some, None, is_some, is_none, option_and_then, Result, Ok, Err}
use Rattle.std.specs.Prelude.{replicate, unsigned_abs, unwrap_or, slice_get, position, slice_set}
use Rattle.std.specs.Option.{option_or}
use Rattle.std.specs.Result.{IfOk}
use Rattle.std.specs.List.{list_any, cons_option}
use Rattle.std.proofs.lemmas.Option.{unwrap_or-slice_get}
use Rattle.std.proofs.lemmas.List.{get_or-set_same, get_or-set_other, length-map, length-replicate, length-set}
use Rattle.std.proofs.lemmas.List.Elements.{filter_map-append}
use Rattle.std.proofs.lemmas.List.Folds.{list_any-append, find-append}
use Rattle.std.proofs.lemmas.List.Quantifiers.{position-Some}
use Rattle.std.proofs.lemmas.Bool.Decides.{nat_tests}
use Rattle.std.proofs.lemmas.Slice.Eq.{bytes_eq-Decides}
use Rattle.std.proofs.lemmas.Nat.Gcd.{dvd_antisymm}
use Rattle.cgl_num.specs.Fraction.{Fraction}
use Rattle.cgl_num.specs.NumberText.{Word}
use Rattle.cgl_model.specs.declared.mip.Column.{Column}
use denote.Ref.{Bor}
use Rattle.cgl_text.specs.Text.{kept_fields, no_field}
use Rattle.cgl_where.proofs.ValueLaws.{some_left}
use Rattle.cgl_model.specs.declared.mip.Model.{Model}
use Rattle.cgl_model.specs.Point.{Point}
use Rattle.cgl_text.specs.Seen.{words}
use Rattle.cgl_text.proofs.NameLaws.{is_found}
use Rattle.cgl_where.proofs.ReadingLaws.{test_off, test_passed}
use Rattle.cgl_where.specs.declared.carried.Carried.{Carried}
use Rattle.cgl_where.specs.PointValue.{value}
use Rattle.cgl_text.specs.Conditions.{first_kind}
use Rattle.cgl_where.specs.PointFile.{Record, field, is_kept, kept, names_column, column_names, values, value_at, common_denominator, lcm, is_too_fine, zero_fraction, value_conditions, record_of, point_in, point_from}
use Rattle.cgl_where.specs.Carried.{column_number, named_at, found_value, is_wide, grown_denominator, carried_conditions, carried_value, IsSound, Carries, TakesIn, kind_within, FollowsLine}
use Rattle.cgl_where.specs.Limits.{ArePositive}
use Rattle.cgl_where.specs.Laws.{DivideAll}
use Rattle.cgl_where.proofs.LcmLaws.{denominator_above}
use Rattle.cgl_where.proofs.LimitLaws.{denominators_least}
use Rattle.cgl_where.proofs.PointLaws.{values_positive, denominator_within, or-right, IsReady, point_ready}

-- ---- the common denominator of one value more

positive_more : (fs : List Fraction) (f : Fraction) → ArePositive (fs ++ f ∷ []) → ArePositive (f ∷ fs)
positive_more [] f all = all
positive_more (g ∷ fs) f all = let rest = positive_more fs f all.1 in (rest.0, (all.0, rest.1))

divide_more : (n : ℕ) (fs : List Fraction) (f : Fraction) → DivideAll n (fs ++ f ∷ []) → DivideAll n (f ∷ fs)
divide_more n [] f all = all
divide_more n (g ∷ fs) f all = let rest = divide_more n fs f all.1 in (rest.0, (all.0, rest.1))

divide_back : (n : ℕ) (fs : List Fraction) (f : Fraction) → DivideAll n (f ∷ fs) → DivideAll n (fs ++ f ∷ [])
divide_back n [] f all = all
divide_back n (g ∷ fs) f all = (all.1.0, divide_back n fs f (all.0, all.1.1))

pub common_more : (fs : List Fraction) (f : Fraction) → ArePositive (fs ++ f ∷ []) → common_denominator (fs ++ f ∷ []) ≡ lcm (unsigned_abs f.den) (common_denominator fs)
common_more fs f all =
    let back = denominators_least (fs ++ f ∷ []) all in
    let front = denominators_least (f ∷ fs) (positive_more fs f all) in
    dvd_antisymm (back.1 (common_denominator (f ∷ fs)) (divide_back _ fs f front.0)) (front.1 (common_denominator (fs ++ f ∷ [])) (divide_more _ fs f back.0))

-- ---- the limits

grown_case : (a b c : Bool) (d : ℕ) → is_none (cond a None (cond b None (cond c None (Some d)))) ≡ (a || (c || (b || false)))
grown_case true b c d = refl
grown_case false true true d = refl
grown_case false true false d = refl
grown_case false false true d = refl
grown_case false false false d = refl

grown_fine : (fs : List Fraction) (d : ℕ) (f : Fraction) → ArePositive (fs ++ f ∷ []) → d ≡ common_denominator fs → is_none (grown_denominator fs d f) ≡ is_too_fine (fs ++ f ∷ [])
grown_fine fs d f all is =
    let n = lcm (unsigned_abs f.den) d in
    let common : n ≡ common_denominator (fs ++ f ∷ []) = ap (lcm (unsigned_abs f.den)) is ∙ sym (common_more fs f all) in
    grown_case (nat_lt (2 ^ 62) n) (is_wide n f) (list_any (is_wide n) fs) n
    ∙ ap (λ b. nat_lt (2 ^ 62) n || b) (sym (list_any-append (is_wide n) fs (f ∷ [])))
    ∙ ap (λ e. nat_lt (2 ^ 62) e || list_any (is_wide e) (fs ++ f ∷ [])) common

-- ---- the number of a column

not_some : {X : Type 0} (o : Option X) → not (is_some o) ≡ is_none o
not_some None = refl
not_some (Some x) = refl

no_position : {X : Type 0} (p : X → Bool) (xs : List X) → not (list_any p xs) ≡ is_none (position p xs)
no_position p xs = ap not (sym (is_found p xs)) ∙ not_some (position p xs)

some_of_none : {X : Type 0} (o : Option X) → is_none o ≡ false → (x : X) × (o ≡ Some x)
some_of_none None e = cc
some_of_none (Some x) e = (x, refl)

pub number_within : (m : Model) (name : Word) (j : ℕ) → column_number m name ≡ Some j → j < length m.cols
number_within m name j e =
    let at = position-Some (bytes_eq name) (column_names m) j [] e in
    omega (arith, at.0, length-map m.cols (λ c. c.name))

-- ---- the conditions

cond_same : (a b : Bool) (kind x y : Option ℕ) → a ≡ b → (b ≡ false → x ≡ y) → cond a kind x ≡ cond b kind y
cond_same true true kind x y e h = refl
cond_same true false kind x y e h = cc
cond_same false true kind x y e h = cc
cond_same false false kind x y e h = h refl

value_more : (before : List Record) (r : Record) (f : Fraction) → value (field 1 r) ≡ Some f → values (before ++ r ∷ []) ≡ values before ++ f ∷ []
value_more before r f e =
    filter_map-append (λ q. value (field 1 q)) before (r ∷ []) ∙ ap (λ o. values before ++ cons_option o []) e

pub conditions_same : (m : Model) (before : List Record) (carried : Carried) (r : Record) → Carries m before carried
    → first_kind (carried_conditions m carried r) ≡ first_kind (value_conditions m before r)
conditions_same m before carried r c =
    let name = field 0 r in
    let fs = carried.values.items in
    let d = carried.denominator in
    cond_same (not (length r.fields == 2)) (not (length r.fields == 2)) (Some 3) _ _ refl (λ two.
    cond_same _ _ (Some 6) _ _ (sym (no_position (bytes_eq name) (column_names m))) (λ one.
    cond_same _ _ (Some 14) _ _ (ap is_some (c.named_are name) ∙ c.known name) (λ fresh.
    cond_same (is_none (value (field 1 r))) (is_none (value (field 1 r))) (Some 4) _ _ refl (λ has.
    let v = some_of_none (value (field 1 r)) has in
    let values_more : values (before ++ r ∷ []) ≡ fs ++ v.0 ∷ [] = value_more before r v.0 v.1 ∙ ap (λ l. l ++ v.0 ∷ []) (sym c.values_are) in
    let positive : ArePositive (fs ++ v.0 ∷ []) = subst ArePositive values_more (values_positive (before ++ r ∷ [])) in
    cond_same _ _ (Some 13) None None
    (ap (λ o. is_none (option_and_then (grown_denominator fs d) o)) v.1
    ∙ grown_fine fs d v.0 positive (c.common ∙ ap common_denominator (sym c.values_are))
    ∙ ap is_too_fine (sym values_more)) (λ fine. refl)))))

-- ---- one record more

pub new_name : (m : Model) (before : List Record) (r : Record) → first_kind (value_conditions m before r) ≡ None → list_any (names_column (field 0 r)) before ≡ false
new_name m before r e = test_off _ 14 _ (test_passed _ 6 _ (test_passed _ 3 _ e))

pub still_fine : (m : Model) (before : List Record) (r : Record) → first_kind (value_conditions m before r) ≡ None → is_too_fine (values (before ++ r ∷ [])) ≡ false
still_fine m before r e = test_off _ 13 _ (test_passed _ 4 _ (test_passed _ 14 _ (test_passed _ 6 _ (test_passed _ 3 _ e))))

find_case : {X : Type 0} (b : Bool) (x : X) (c : Bool) (o : Option X) → c ≡ is_some o → (b || c) ≡ is_some (cond b (Some x) o)
find_case true x c o e = refl
find_case false x c o e = e

find_any : {X : Type 0} (p : X → Bool) (xs : List X) → list_any p xs ≡ is_some (find p xs)
find_any p [] = refl
find_any p (x ∷ xs) = find_case (p x) x (list_any p xs) (find p xs) (find_any p xs)

none_found : {X : Type 0} (o : Option X) → is_some o ≡ false → o ≡ None
none_found None e = refl
none_found (Some x) e = cc

found_more : (before : List Record) (r : Record) (name : Word) → found_value (before ++ r ∷ []) name
    ≡ option_and_then (λ q. value (field 1 q)) (option_or (find (names_column name) before) (cond (names_column name r) (Some r) None))
found_more before r name = ap (option_and_then (λ q. value (field 1 q))) (find-append (names_column name) before (r ∷ []))

-- the record does not have the name
found_other : (o : Option Record) (r : Record) (b : Bool) → b ≡ false
    → option_and_then (λ q. value (field 1 q)) (option_or o (cond b (Some r) None)) ≡ option_and_then (λ q. value (field 1 q)) o
found_other None r true e = cc
found_other None r false e = refl
found_other (Some q) r b e = refl

-- the record has the name, and none before it had
found_here : (o : Option Record) (r : Record) (b : Bool) → o ≡ None → b ≡ true
    → option_and_then (λ q. value (field 1 q)) (option_or o (cond b (Some r) None)) ≡ value (field 1 r)
found_here (Some q) r b none e = cc
found_here None r true none e = refl
found_here None r false none e = cc

known_case : (o : Option Record) (r : Record) (b : Bool) (f : Fraction) → value (field 1 r) ≡ Some f → is_some (option_and_then (λ q. value (field 1 q)) o) ≡ is_some o
    → is_some (option_and_then (λ q. value (field 1 q)) (option_or o (cond b (Some r) None))) ≡ (is_some o || (b || false))
known_case (Some q) r b f v so_far = so_far
known_case None r true f v so_far = ap is_some v
known_case None r false f v so_far = refl

same_name : (a b : Word) → bytes_eq a b ≡ true → a ≡ b
same_name a b e = (bytes_eq-Decides a b).0 e

is_name : (a b : Word) → a ≡ b → bytes_eq a b ≡ true
is_name a b e = (bytes_eq-Decides a b).1 e

other_number : (names : List Word) (a b : Word) (j k : ℕ) → bytes_eq a b ≡ false → position (bytes_eq b) names ≡ Some j → position (bytes_eq a) names ≡ Some k → k ≢ j
other_number names a b j k apart at_b at_a same =
    let p = position-Some (bytes_eq b) names j [] at_b in
    let q = position-Some (bytes_eq a) names k [] at_a in
    let first : a ≡ get_or names k [] = same_name a (get_or names k []) q.1 in
    let second : b ≡ get_or names j [] = same_name b (get_or names j []) p.1 in
    let yes : bytes_eq a b ≡ true = is_name a b (first ∙ ap (λ i. get_or names i []) same ∙ sym second) in
    cc

at_same : (named : List (Option Fraction)) (j : ℕ) (f : Fraction) → j < length named → unwrap_or (slice_get (slice_set named j (Some f)) j) None ≡ Some f
at_same named j f lt = unwrap_or-slice_get (slice_set named j (Some f)) j None ∙ get_or-set_same named j (Some f) None lt

at_other : (named : List (Option Fraction)) (j k : ℕ) (f : Fraction) → k ≢ j → unwrap_or (slice_get (slice_set named j (Some f)) k) None ≡ unwrap_or (slice_get named k) None
at_other named j k f apart = unwrap_or-slice_get (slice_set named j (Some f)) k None ∙ get_or-set_other named j k (Some f) None apart ∙ sym (unwrap_or-slice_get named k None)

named_other : (names : List Word) (named : List (Option Fraction)) (a b : Word) (j : ℕ) (f : Fraction) (o : Option ℕ) → position (bytes_eq a) names ≡ o
    → bytes_eq a b ≡ false → position (bytes_eq b) names ≡ Some j → named_at (slice_set named j (Some f)) o ≡ named_at named o
named_other names named a b j f None is apart at = refl
named_other names named a b j f (Some k) is apart at = at_other named j k f (other_number names a b j k apart at is)

named_case : (m : Model) (before : List Record) (named : List (Option Fraction)) (r : Record) (j : ℕ) (f : Fraction) (name : Word) → j < length named
    → list_any (names_column (field 0 r)) before ≡ false → column_number m (field 0 r) ≡ Some j → value (field 1 r) ≡ Some f
    → named_at named (column_number m name) ≡ found_value before name
    → (b : Bool) → names_column name r ≡ b → named_at (slice_set named j (Some f)) (column_number m name) ≡ found_value (before ++ r ∷ []) name
named_case m before named r j f name lt new at v so_far true is =
    let same : name ≡ field 0 r = same_name name (field 0 r) is in
    let none : find (names_column name) before ≡ None = none_found (find (names_column name) before) (sym (find_any (names_column name) before) ∙ ap (λ w. list_any (names_column w) before) same ∙ new) in
    ap (λ w. named_at (slice_set named j (Some f)) (column_number m w)) same
    ∙ ap (named_at (slice_set named j (Some f))) at
    ∙ at_same named j f lt
    ∙ sym v
    ∙ sym (found_here (find (names_column name) before) r (names_column name r) none is)
    ∙ sym (found_more before r name)
named_case m before named r j f name lt new at v so_far false is =
    named_other (column_names m) named name (field 0 r) j f (column_number m name) refl is at
    ∙ so_far
    ∙ sym (found_other (find (names_column name) before) r (names_column name r) is)
    ∙ sym (found_more before r name)

pub carries_more : (m : Model) (before : List Record) (old new : Carried) (r : Record) → Carries m before old
    → first_kind (value_conditions m before r) ≡ None → TakesIn m r old new → Carries m (before ++ r ∷ []) new
carries_more m before old new r c none t =
    let j = t.column in
    let f = t.taken in
    let named = old.named.items in
    let within : j < length named = omega (arith, c.counted, number_within m (field 0 r) j t.is_column) in
    let more : values (before ++ r ∷ []) ≡ values before ++ f ∷ [] = value_more before r f t.is_value in
    let positive : ArePositive (values before ++ f ∷ []) = subst ArePositive more (values_positive (before ++ r ∷ [])) in
    record {
      counted = ap length t.named_are ∙ length-set named j (Some f) ∙ c.counted;
      named_are = λ name.
          ap (λ l. named_at l (column_number m name)) t.named_are
          ∙ named_case m before named r j f name within (new_name m before r none) t.is_column t.is_value (c.named_are name) (names_column name r) refl;
      known = λ name.
          ap is_some (found_more before r name)
          ∙ known_case (find (names_column name) before) r (names_column name r) f t.is_value (c.known name ∙ find_any (names_column name) before)
          ∙ sym (list_any-append (names_column name) before (r ∷ []) ∙ ap (λ b. b || (names_column name r || false)) (find_any (names_column name) before));
      values_are = t.values_are ∙ ap (λ l. l ++ f ∷ []) c.values_are ∙ sym more;
      common = t.common ∙ ap (lcm (unsigned_abs f.den)) c.common ∙ sym (common_more (values before) f positive) ∙ ap common_denominator (sym more);
      fine = still_fine m before r none;
    }

-- ---- before the first record

none_named : (n : ℕ) (o : Option ℕ) → named_at (replicate n None) o ≡ None
none_named n None = refl
none_named zero (Some k) = refl
none_named (suc n) (Some zero) = refl
none_named (suc n) (Some (suc k)) = none_named n (Some k)

pub carries_none : (m : Model) (carried : Carried) → carried.named.items ≡ replicate (length m.cols) None → carried.values.items ≡ [] → carried.denominator ≡ 1 → Carries m [] carried
carries_none m carried named values_are one =
    record {
      counted = ap length named ∙ length-replicate (length m.cols) None;
      named_are = λ name. ap (λ l. named_at l (column_number m name)) named ∙ none_named (length m.cols) (column_number m name);
      known = λ name. refl;
      values_are = values_are;
      common = one;
      fine = refl;
    }

-- ---- what is carried is sound, and gives each column its value

pub carries_sound : (m : Model) (before : List Record) (carried : Carried) → Carries m before carried → IsSound m carried
carries_sound m before carried c =
    let above : 0 < common_denominator (values before) = denominator_above (values before) (values_positive before) in
    let within : common_denominator (values before) ≤ 2 ^ 62 = denominator_within (values before) c.fine in
    record {
      counted = c.counted;
      positive = omega (arith, above, c.common);
      within = omega (arith, within, c.common);
      fine = ap₂ (λ n l. list_any (is_wide n) l) c.common c.values_are ∙ or-right _ _ c.fine;
    }

carried_each : (m : Model) (before : List Record) (named : List (Option Fraction)) → ((name : Word) → named_at named (column_number m name) ≡ found_value before name)
    → (columns : List Column) → map (λ c. carried_value m named c.name) columns ≡ map (value_at before) (map (λ c. c.name) columns)
carried_each m before named are [] = refl
carried_each m before named are (c ∷ columns) = ap₂ (λ f l. f ∷ l) (ap (λ o. unwrap_or o zero_fraction) (are c.name)) (carried_each m before named are columns)

pub carried_values : (m : Model) (before : List Record) (carried : Carried) → Carries m before carried
    → map (λ c. carried_value m carried.named.items c.name) m.cols ≡ map (value_at before) (column_names m)
carried_values m before carried c = carried_each m before carried.named.items c.named_are m.cols

-- ---- the point

pub carries_ready : (m : Model) (before : List Record) (carried : Carried) → Carries m before carried → IsReady (map (λ c. carried_value m carried.named.items c.name) m.cols)
carries_ready m before carried c = subst IsReady (sym (carried_values m before carried c)) (point_ready before (column_names m) c.fine)

pub carries_point : (m : Model) (before : List Record) (carried : Carried) → Carries m before carried
    → (x : Point) → x ≡ point_in (map (λ c. carried_value m carried.named.items c.name) m.cols) → x ≡ point_from m before
carries_point m before carried c x is = is ∙ ap point_in (carried_values m before carried c)

-- ---- a line

no_words : (fields : List (Bor (List ℕ))) → no_field (words fields) ≡ (length fields == 0)
no_words [] = refl
no_words (field ∷ fields) = sym (some_left (length fields))

pub kept_is : (fields : List (Bor (List ℕ))) (line : List ℕ) (n : ℕ) (empty : Bool) → words fields ≡ kept_fields line → empty ≡ (length fields == 0) → is_kept (record_of n line) ≡ not empty
kept_is fields line n empty is empty_is = ap (λ w. not (no_field w)) (sym is) ∙ ap not (no_words fields ∙ sym empty_is)

kind_by : (m : Model) (before : List Record) (r : Record) (long kept_too : Bool) → nat_lt 4096 r.bytes ≡ long → is_kept r ≡ kept_too
    → cond long (Some 11) (first_kind (cond kept_too (value_conditions m before r) [])) ≡ kind_within m before r
kind_by m before r long kept_too long_is kept_is = ap₂ (λ b k. cond b (Some 11) (first_kind (cond k (value_conditions m before r) []))) (sym long_is) (sym kept_is)

pub follows_long : (m : Model) (r : Record) (old new : Carried) → 4096 < r.bytes → FollowsLine m r (Some 11) old new
follows_long m r old new long before c =
    let is : nat_lt 4096 r.bytes ≡ true = grind (arith, nat_tests) in
    (kind_by m before r true (is_kept r) is refl, (λ none. cc))

pub follows_blank : (m : Model) (r : Record) (carried : Carried) → r.bytes ≤ 4096 → is_kept r ≡ false → FollowsLine m r None carried carried
follows_blank m r carried short blank before c =
    let is : nat_lt 4096 r.bytes ≡ false = grind (arith, nat_tests) in
    let same : before ≡ before ++ kept (r ∷ []) = sym (ap (λ k. before ++ cond k (r ∷ []) []) blank ∙ append-nil before) in
    let C : List Record → Type 0 = λ l. Carries m l carried in
    (kind_by m before r false false is blank, (λ none. subst C same c))

pub follows_value : (m : Model) (r : Record) (kind : Option ℕ) (old new : Carried) → r.bytes ≤ 4096 → is_kept r ≡ true
    → kind ≡ first_kind (carried_conditions m old r) → (kind ≡ None → TakesIn m r old new) → FollowsLine m r kind old new
follows_value m r kind old new short filled is takes before c =
    let short_is : nat_lt 4096 r.bytes ≡ false = grind (arith, nat_tests) in
    let same : before ++ r ∷ [] ≡ before ++ kept (r ∷ []) = sym (ap (λ k. before ++ cond k (r ∷ []) []) filled) in
    let C : List Record → Type 0 = λ l. Carries m l new in
    let judged : kind ≡ first_kind (value_conditions m before r) = is ∙ conditions_same m before old r c in (
      judged ∙ kind_by m before r false true short_is filled,
      (λ none. subst C same (carries_more m before old new r c (sym judged ∙ none) (takes none))),
    )

pub if_ok_both : {X E : Type 0} (P Q S : X → Type 0) (r : Result X E) → ((x : X) → P x → Q x → S x) → IfOk r P → IfOk r Q → IfOk r S
if_ok_both P Q S (Ok x) h p q = h x p q
if_ok_both P Q S (Err e) h p q = p
