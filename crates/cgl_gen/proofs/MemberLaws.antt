-- What the code of simple rounding makes is what the definition says.
use Rattle.std.proofs.Common.{◌≡◌, ℕ, zero, suc, ◌<◌, ◌≤◌, List, [], ◌∷◌, ◌++◌, map, length, get_or, refl, sym, ap, ◌∙◌, subst, arith, Bool, true, false, not, ◌||◌, cond, ◌==◌, Some, None}
use Rattle.std.proofs.lemmas.Bool.{true≢false, false≢true}
use Rattle.std.proofs.lemmas.Bool.Decides.{nat_tests}
use Rattle.std.proofs.lemmas.Int.{ints}
use Rattle.std.proofs.lemmas.Option.{slice_get-get_or}
use Rattle.std.specs.Prelude.{ℤ, pos, ◌<ℤ◌, is_some, unwrap_or, option_map, nat_lt, slice_get, slice_index_or}
use Rattle.std.specs.List.{list_all}
use Rattle.cgl_num.specs.Fraction.{Fraction}
use Rattle.cgl_model.specs.declared.linear.Ineq.{Ineq}
use Rattle.cgl_model.specs.declared.mip.Column.{Column}
use Rattle.cgl_model.specs.declared.mip.Model.{Model}
use Rattle.cgl_model.specs.declared.places.Place.{Place}
use Rattle.cgl_model.specs.declared.places.Side.{Side}
use Rattle.cgl_model.specs.Inequality.{AreColumnsBelow, Term, violation}
use Rattle.cgl_model.specs.Point.{Point}
use Rattle.cgl_derive.specs.declared.answer.Answer.{Answer}
use Rattle.cgl_derive.specs.declared.answer.Answer.TheVariants.{Nothing, Cut, Wide}
use Rattle.cgl_derive.specs.declared.step.Derivation.{Derivation, roll-Derivation}
use Rattle.cgl_derive.specs.declared.step.Ref.TheVariants as by
use Rattle.cgl_derive.specs.declared.step.Round.{Round}
use Rattle.cgl_derive.specs.declared.step.Step.{Step}
use Rattle.cgl_derive.specs.declared.step.Step.TheVariants as variant
use Rattle.cgl_derive.specs.declared.step.Step.TheVariants.{rolls-Round}
use Rattle.cgl_derive.specs.Derives.{is_integer}
use Rattle.cgl_derive.specs.Rounding.{divides, divisor_of, rounded}
use Rattle.cgl_gen.specs.Listable.{is_large_cut, is_violated, is_wide_at}
use Rattle.cgl_gen.specs.RoundMember.{answer_with, round_from, round_member}

-- ---- the derivation

pub round_from_is : (place : Place) (g h : ℤ) (c : Ineq) (none steps : List Step) → none ≡ [] → h ≡ g → steps ≡ none ++ (variant.Round (record { from = by.Side place; g = h; claim = c }) ∷ []) → roll-Derivation (record { steps = steps }) ≡ round_from place g c
unfolding round_from
round_from_is place g h c none steps en eg es =
    let D : List Step → Derivation = λ z. roll-Derivation (record { steps = z }) in
    let R : ℤ → Round = λ z. record { from = by.Side place; g = z; claim = c } in
    ap D (es ∙ ap (λ z. z ++ (variant.Round (R h) ∷ [])) en ∙ ap (λ z. variant.Round (R z) ∷ []) eg ∙ ap (λ z. z ∷ []) (sym (rolls-Round (R g))))

-- ---- the divisor

pub some_terms : (terms : List Term) → (length terms == 0) ≡ false → terms ≡ [] → ⊥
some_terms [] e is = true≢false e
some_terms (t ∷ terms) e is = cc

pub above_zero : (n : ℕ) → 0 < n → pos 0 <ℤ pos n
above_zero n h = omega (arith, ints, h)

-- ---- the member of a side

first_holds : (a b c : Bool) (n z : Answer) → a ≡ true → n ≡ cond (a || not b || c) n z
first_holds true b c n z e = refl
first_holds false b c n z e = absurd (false≢true e)

second_fails : (a b c : Bool) (n z : Answer) → b ≡ false → n ≡ cond (a || not b || c) n z
second_fails true b c n z e = refl
second_fails false false c n z e = refl
second_fails false true c n z e = absurd (true≢false e)

third_holds : (a b c : Bool) (n z : Answer) → c ≡ true → n ≡ cond (a || not b || c) n z
third_holds true b c n z e = refl
third_holds false false c n z e = refl
third_holds false true true n z e = refl
third_holds false true false n z e = absurd (false≢true e)

none_holds : (a b c : Bool) (n z : Answer) → a ≡ false → b ≡ true → c ≡ false → z ≡ cond (a || not b || c) n z
none_holds true b c n z e f g = absurd (true≢false e)
none_holds false false c n z e f g = absurd (false≢true f)
none_holds false true true n z e f g = absurd (true≢false g)
none_holds false true false n z e f g = refl

pub idle_empty : (m : Model) (x : Point) (side : Side) → (length side.ineq.terms == 0) ≡ true → Nothing ≡ round_member m x side
unfolding round_member
idle_empty m x side e = first_holds _ _ _ Nothing _ e

pub idle_column : (m : Model) (x : Point) (side : Side) → list_all (λ t. is_integer m t.0) side.ineq.terms ≡ false → Nothing ≡ round_member m x side
unfolding round_member
idle_column m x side e = second_fails (length side.ineq.terms == 0) _ _ Nothing _ e

pub idle_divided : (m : Model) (x : Point) (side : Side) → divides (pos (divisor_of side.ineq.terms)) side.ineq.rhs ≡ true → Nothing ≡ round_member m x side
unfolding round_member
idle_divided m x side e = third_holds (length side.ineq.terms == 0) (list_all (λ t. is_integer m t.0) side.ineq.terms) _ Nothing _ e

pub member_is : (m : Model) (x : Point) (side : Side) → (length side.ineq.terms == 0) ≡ false → list_all (λ t. is_integer m t.0) side.ineq.terms ≡ true → divides (pos (divisor_of side.ineq.terms)) side.ineq.rhs ≡ false
    → answer_with side x (pos (divisor_of side.ineq.terms)) (rounded (pos (divisor_of side.ineq.terms)) side.ineq) ≡ round_member m x side
unfolding round_member
member_is m x side e f g = none_holds _ _ _ Nothing _ e f g

pub columns_map : (n : ℕ) (f : Term → Term) → ((t : Term) → (f t).0 ≡ t.0) → (terms : List Term) → AreColumnsBelow n terms → AreColumnsBelow n (map f terms)
columns_map n f same [] a = tt
columns_map n f same (t ∷ terms) a = (subst (λ (c : ℕ). c < n) (sym (same t)) a.0, columns_map n f same terms a.1)

-- ---- the answer with a cut

pub wide_answer : (side : Side) (x : Point) (g : ℤ) (c : Ineq) → (is_large_cut c || is_wide_at c x) ≡ true → Wide ≡ answer_with side x g c
wide_answer side x g c e = ap (λ b. cond b Wide (cond (is_violated c x) (Cut (record { cut = c; derivation = round_from side.place g c; violation = violation c x })) Nothing)) (sym e)

judged : (side : Side) (x : Point) (g : ℤ) (c : Ineq) (b : Bool) → (is_large_cut c || is_wide_at c x) ≡ false → is_violated c x ≡ b
    → cond b (Cut (record { cut = c; derivation = round_from side.place g c; violation = violation c x })) Nothing ≡ answer_with side x g c
judged side x g c b e f =
    let A : Answer = Cut (record { cut = c; derivation = round_from side.place g c; violation = violation c x }) in
    ap (λ t. cond t A Nothing) (sym f) ∙ ap (λ t. cond t Wide (cond (is_violated c x) A Nothing)) (sym e)

none_judged : (b : Bool) (f : Fraction) → None ≡ cond b (Some f) None → b ≡ false
none_judged true f e = absurd (false≢true (ap is_some e))
none_judged false f e = refl

some_judged : (b : Bool) (f v : Fraction) → Some v ≡ cond b (Some f) None → (b ≡ true) × (v ≡ f)
some_judged true f v e = (refl, ap (λ o. unwrap_or o f) e)
some_judged false f v e = absurd (true≢false (ap is_some e))

pub no_answer : (side : Side) (x : Point) (g : ℤ) (c : Ineq) → (is_large_cut c || is_wide_at c x) ≡ false → None ≡ cond (is_violated c x) (Some (violation c x)) None → Nothing ≡ answer_with side x g c
no_answer side x g c e f = judged side x g c false e (none_judged (is_violated c x) (violation c x) f)

pub cut_answer : (side : Side) (x : Point) (g h : ℤ) (c : Ineq) (v : Fraction) → h ≡ g → (is_large_cut c || is_wide_at c x) ≡ false → Some v ≡ cond (is_violated c x) (Some (violation c x)) None
    → Cut (record { cut = c; derivation = round_from side.place h c; violation = v }) ≡ answer_with side x g c
cut_answer side x g h c v same e f =
    let is = some_judged (is_violated c x) (violation c x) v f in
    ap (λ z. Cut (record { cut = c; derivation = round_from side.place z c; violation = v })) same
    ∙ ap (λ z. Cut (record { cut = c; derivation = round_from side.place g c; violation = z })) is.1 ∙ judged side x g c true e is.0

pub some_violation : (c : Ineq) (x : Point) (v : Fraction) → v ≡ violation c x → pos 0 <ℤ v.num → Some v ≡ cond (is_violated c x) (Some (violation c x)) None
some_violation c x v is above =
    let here : pos 0 <ℤ (violation c x).num = subst (λ (z : Fraction). pos 0 <ℤ z.num) is above in
    let test : is_violated c x ≡ true = grind (arith, ints, here) in
    ap Some is ∙ sym (ap (λ b. cond b (Some (violation c x)) None) test)

-- ---- whether a column is integer

pub integer_at : (m : Model) (items : List Column) (j : ℕ) (d x : Column) → items ≡ m.cols → nat_lt j (length items) ≡ true → x ≡ slice_index_or items j d → x.integer ≡ is_integer m j
integer_at m items j d x same inside is =
    let found : slice_get items j ≡ Some (get_or items j d) = slice_get-get_or items j d (grind (arith, nat_tests)) in
    ap (λ z. z.integer) is ∙ ap (λ o. unwrap_or (option_map (λ c. c.integer) o) false) (sym found) ∙ ap (λ z. unwrap_or (option_map (λ c. c.integer) (slice_get z j)) false) same

past_end : (cols : List Column) (j : ℕ) → length cols ≤ j → false ≡ unwrap_or (option_map (λ c. c.integer) (slice_get cols j)) false
past_end [] j h = refl
past_end (c ∷ cols) zero h = absurd (omega arith)
past_end (c ∷ cols) (suc j) h = past_end cols j (omega arith)

pub integer_past : (m : Model) (items : List Column) (j : ℕ) → items ≡ m.cols → nat_lt j (length items) ≡ false → false ≡ is_integer m j
integer_past m items j same past =
    past_end items j (grind (arith, nat_tests)) ∙ ap (λ z. unwrap_or (option_map (λ c. c.integer) (slice_get z j)) false) same
