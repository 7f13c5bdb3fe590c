use Rattle.std.proofs.Common.{◌≡◌, refl, sym, ap, ap₂, ◌∙◌, subst, rules, tests, ℕ, ◌^◌, nat_lt, Bool, true, false, cond, List, Some, None}
use Rattle.std.specs.Prelude.{unsigned_abs}
use Rattle.std.proofs.lemmas.Iterator.{YieldsList-from_slice}
use Rattle.std.proofs.lemmas.Iterator.Search.{any_from_yields_List}
use Rattle.std.specs.List.{list_any}
use Rattle.cgl_num.specs.Fraction.{Fraction}
use Rattle.cgl_where.specs.PointFile.{lcm}
use Rattle.cgl_where.specs.Limits.{fitting_denominator}
use Rattle.cgl_where.specs.Carried.{grown_within, is_wide}
use Rattle.cgl_where.proofs.denominators.grown_denominator.Goals.{else-next-d-via-then-next-d+else-any, else-next-d-via-else-next-d}
use Rattle.cgl_where.proofs.denominators.grown_denominator.Goals as goal

grown : (n next : ℕ) (values : List Fraction) (f : Fraction) (above : Bool) → nat_lt (2 ^ 62) n ≡ above → cond above None (Some n) ≡ Some next
    → is_wide next f ≡ false → list_any (is_wide next) values ≡ false → Some next ≡ grown_within n values f
grown n next values f true is fits own others = cc
grown n next values f false is fits own others =
    let same : n ≡ next = cc in
    sym (ap (λ above. cond above None (cond (is_wide n f) None (cond (list_any (is_wide n) values) None (Some n)))) is
    ∙ ap (λ m. cond (is_wide m f) None (cond (list_any (is_wide m) values) None (Some m))) same
    ∙ ap₂ (λ wide some. cond wide None (cond some None (Some next))) own others)

never : (b : Bool) (n : ℕ) → None ≡ cond b None (cond true None (Some n))
never true n = refl
never false n = refl

not_grown : (n next : ℕ) (values : List Fraction) (f : Fraction) (above : Bool) → nat_lt (2 ^ 62) n ≡ above → cond above None (Some n) ≡ Some next
    → list_any (is_wide next) values ≡ true → None ≡ grown_within n values f
not_grown n next values f true is fits some = cc
not_grown n next values f false is fits some =
    let same : next ≡ n = cc in
    never (is_wide next f) next
    ∙ ap (λ wide. cond (is_wide next f) None (cond wide None (Some next))) (sym some)
    ∙ ap (λ m. cond (is_wide m f) None (cond (list_any (is_wide m) values) None (Some m))) same
    ∙ ap (λ above. cond above None (cond (is_wide n f) None (cond (list_any (is_wide n) values) None (Some n)))) (sym is)

pub returns-then-any : goal.returns-then-any
returns-then-any c =
    let n = lcm (unsigned_abs c.args.f.den) c.args.d in
    let next = c.in-Some.next in
    not_grown n next c.args.values.now c.args.f (nat_lt (2 ^ 62) n) refl
    (sym (ap (λ a. fitting_denominator (lcm a c.args.d)) c.den.ensures.value) ∙ sym c.lcm.ensures ∙ c.in-Some.is)
    (sym (any_from_yields_List (is_wide next) _ _ c.any.result c.any.ensures.ran (YieldsList-from_slice c.args.values.now cc) (λ x b q k. search (rules, tests))) ∙ c.if-any.true)

pub returns : goal.returns
returns c =
    let n = lcm (unsigned_abs c.args.f.den) c.args.d in
    let next = c.in-Some.next in
    let none_wide : list_any (is_wide next) c.args.values.now ≡ false = elim c.else-next-d.branch [
      | else-next-d-via-then-next-d+else-any w ↦ sym (any_from_yields_List (is_wide next) _ _ w.any.result w.any.ensures.ran (YieldsList-from_slice c.args.values.now cc) (λ x b q k. search (rules, tests))) ∙ w.if-any.false
      | else-next-d-via-else-next-d w ↦ subst (λ (d : ℕ). list_any (is_wide d) c.args.values.now ≡ false) (sym w.if-next-d.false) c.requires.fine
    ] in
    grown n next c.args.values.now c.args.f (nat_lt (2 ^ 62) n) refl
    (sym (ap (λ a. fitting_denominator (lcm a c.args.d)) c.den.ensures.value) ∙ sym c.lcm.ensures ∙ c.in-Some.is)
    (sym c.is_wide.ensures ∙ c.if-is_wide.false)
    none_wide
