use Rattle.std.proofs.Common.{◌≡◌, ◌∙◌, ap, sym, ◌≤◌, ℕ, List, length, get_or, Option, Some, None}
use Rattle.std.proofs.lemmas.List.{get_or_past}
use Rattle.std.proofs.lemmas.Option.{unwrap_or-slice_get}
use Rattle.cgl_num.specs.Fraction.{Fraction}
use Rattle.cgl_where.specs.Carried.{named_at}
use Rattle.cgl_where.proofs.carried.named_at.Goals as goal

there : (named : List (Option Fraction)) (number : Option ℕ) (j : ℕ) (found : Option Fraction) → number ≡ Some j → found ≡ get_or named j None → found ≡ named_at named number
there named number j found is at = at ∙ sym (ap (named_at named) is ∙ unwrap_or-slice_get named j None)

past : (named : List (Option Fraction)) (number : Option ℕ) (j : ℕ) → number ≡ Some j → length named ≤ j → None ≡ named_at named number
past named number j is end = there named number j None is (sym (get_or_past named j None end))

pub returns-in_default : goal.returns-in_default
returns-in_default c = ap (named_at c.args.named.now) (sym c.in_default.is)

pub returns-in-None : goal.returns-in-None
returns-in-None c = past c.args.named.now c.args.number c.in-Some.j c.in-Some.is c.in-None.ensures.lookup.3

pub returns-in-Some-get : goal.returns-in-Some-get
returns-in-Some-get c = there c.args.named.now c.args.number c.in-Some.j _ c.in-Some.is (c.in-Some-get.ensures.lookup.3.1 None)
