use Rattle.std.proofs.Common.{arith, ◌<◌, ◌/◌, ◌%◌, ◌^◌, ◌++◌, ◌∷◌, [], length, take, decimal, ap, subst, sym, ◌∙◌, append_assoc}
use Rattle.std.proofs.Math.Nat.{mod-lt}
use Rattle.cgl_num.specs.Decimal.{padded}
use Rattle.cgl_num.proofs.DecimalLaws.{tens_pos, tens_mono, whole_short, decimals_text}
use Rattle.cgl_num.proofs.decimal.put_decimals.Goals as goal

pub pow-power-requires : goal.pow-power-requires
pow-power-requires c = omega (arith, tens_mono c.args.k 30 c.requires.places.1)

pub nonzero_div-m : goal.nonzero_div-m
nonzero_div-m c = omega (arith, c.pow-power.ensures, tens_pos c.args.k)

pub put_number-end-requires : goal.put_number-end-requires
put_number-end-requires c =
    let same = ap (λ p. length (decimal (c.args.m / p))) c.pow-power.ensures in
    omega (arith, same, whole_short c.args.m c.args.k c.requires.size c.requires.places.1)

pub put-end-requires : goal.put-end-requires
put-end-requires c =
    let same = ap (λ p. length (decimal (c.args.m / p))) c.pow-power.ensures in
    omega (arith, same, whole_short c.args.m c.args.k c.requires.size c.requires.places.1)

pub nonzero_rem-m : goal.nonzero_rem-m
nonzero_rem-m c = omega (arith, c.pow-power.ensures, tens_pos c.args.k)

pub put_padded-requires-clause-size : goal.put_padded-requires-clause-size
put_padded-requires-clause-size c = subst (λ p. c.args.m % p < 10 ^ c.args.k) (sym c.pow-power.ensures) (mod-lt c.args.m (tens_pos c.args.k))

pub put_padded-requires-clause-room : goal.put_padded-requires-clause-room
put_padded-requires-clause-room c =
    let same = ap (λ p. length (decimal (c.args.m / p))) c.pow-power.ensures in
    omega (arith, same, whole_short c.args.m c.args.k c.requires.size c.requires.places.1)

pub returns-clause-within : goal.returns-clause-within
returns-clause-within c =
    let same = ap (λ p. length (decimal (c.args.m / p))) c.pow-power.ensures in
    omega (arith, same, whole_short c.args.m c.args.k c.requires.size c.requires.places.1)

pub returns-clause-text : goal.returns-clause-text
returns-clause-text c =
    let before = take c.args.at c.args.out.now in
    let whole = decimal (c.args.m / c.pow-power.result) in
    let rest = padded c.args.k (c.args.m % c.pow-power.result) in
    c.put_padded.ensures.text ∙ ap (λ t. t ++ rest) c.put-end.ensures.text
    ∙ ap (λ t. (t ++ 46 ∷ []) ++ rest) c.put_number-end.ensures.text
    ∙ append_assoc (before ++ whole) (46 ∷ []) rest ∙ append_assoc before whole (46 ∷ rest)
    ∙ ap (λ p. before ++ (decimal (c.args.m / p) ++ (46 ∷ padded c.args.k (c.args.m % p)))) c.pow-power.ensures
    ∙ ap (λ t. before ++ t) (sym (decimals_text c.args.m c.args.k c.requires.places.0))
