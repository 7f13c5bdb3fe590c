use Rattle.std.proofs.Common.{ℕ, Err, IsErrOf, Some, is_some, ap, ◌∙◌, sym, not, refl, inl, inr}
use Rattle.cgl_deck.specs.declared.extend.ExtendError.{ExtendError}
use Rattle.cgl_deck.proofs.ExtensionLaws.{extension_stands, not_decimal_refused, too_many_refused, unknown_refused}
use Rattle.cgl_deck.proofs.extend.with_cuts.Goals as goal

not_decimal_is_no_unknown : {T P : Type 0} {j k : ℕ} → IsErrOf {T = T} (Err (ExtendError.NotDec j)) (ExtendError.Unknown k) → P
not_decimal_is_no_unknown h = absurd (cc)

pub returns-in-Some-first_not_decimal-clause-known : goal.returns-in-Some-first_not_decimal-clause-known
returns-in-Some-first_not_decimal-clause-known c k h = c.in_default.ensures

pub returns-in-Some-first_not_decimal-clause-unknown : goal.returns-in-Some-first_not_decimal-clause-unknown
returns-in-Some-first_not_decimal-clause-unknown c k h = not_decimal_is_no_unknown h

pub returns-then-not-fits-clause-too_many : goal.returns-then-not-fits-clause-too_many
returns-then-not-fits-clause-too_many c h = record {
  known = c.in_default.ensures;
  decimal = c.in_default-first_not_decimal.ensures;
  large = ap not (sym c.fits.ensures ∙ c.if-not-fits.true);
}

pub extend-requires-clause-known : goal.extend-requires-clause-known
extend-requires-clause-known c = c.in_default.ensures

pub extend-requires-clause-decimal : goal.extend-requires-clause-decimal
extend-requires-clause-decimal c = c.in_default-first_not_decimal.ensures

pub returns-in_default-extend-clause-memory : goal.returns-in_default-extend-clause-memory
returns-in_default-extend-clause-memory c h =
    let known = c.in_default.ensures in
    let decimal = c.in_default-first_not_decimal.ensures in
    let fits = sym c.fits.ensures ∙ c.if-not-fits.false in
    ap is_some (extension_stands c.args.model.now c.args.cuts.now known decimal fits)

pub returns-clause-ok : goal.returns-clause-ok
returns-clause-ok c =
    let known = c.in_default.ensures in
    let decimal = c.in_default-first_not_decimal.ensures in
    let fits = sym c.fits.ensures ∙ c.if-not-fits.false in
    extension_stands c.args.model.now c.args.cuts.now known decimal fits ∙ ap Some (sym c.in-Ok.ensures.model)

pub returns-in-Some-clause-refused : goal.returns-in-Some-clause-refused
returns-in-Some-clause-refused c = inr (unknown_refused c.args.model.now c.args.cuts.now _ c.in-Some.ensures)

pub returns-in-Some-first_not_decimal-clause-refused : goal.returns-in-Some-first_not_decimal-clause-refused
returns-in-Some-first_not_decimal-clause-refused c = inr (not_decimal_refused c.args.model.now c.args.cuts.now _ c.in-Some-first_not_decimal.ensures)

pub returns-then-not-fits-clause-refused : goal.returns-then-not-fits-clause-refused
returns-then-not-fits-clause-refused c = inr (too_many_refused c.args.model.now c.args.cuts.now (record {
  known = c.in_default.ensures;
  decimal = c.in_default-first_not_decimal.ensures;
  large = ap not (sym c.fits.ensures ∙ c.if-not-fits.true);
}))

pub returns-in_default-extend-clause-refused : goal.returns-in_default-extend-clause-refused
returns-in_default-extend-clause-refused c = inl refl
