use Rattle.std.proofs.Common.{◌≡◌, ◌∙◌, ap, sym, rules, tests, Some}
use Rattle.std.specs.Prelude.{option_map, position}
use Rattle.std.proofs.lemmas.Iterator.{YieldsList-from_slice}
use Rattle.std.proofs.lemmas.Iterator.Search.{position_from_yields_List}
use Rattle.cgl_where.specs.PointValue.{fraction_of, is_slash}
use Rattle.cgl_where.proofs.ValueLaws.{slash_place, value_number, value_quotient}
use Rattle.cgl_where.proofs.values.value.Goals as goal

pub quotient-requires-clause-place : goal.quotient-requires-clause-place
quotient-requires-clause-place c =
    let text = c.args.text.now in
    let is : c.position.result ≡ position is_slash text =
    position_from_yields_List is_slash _ _ c.position.result c.position.ensures.ran (YieldsList-from_slice text cc) (λ x b q k. search (rules, tests)) in
    slash_place text c.position.result c.in-Some.slash is c.in-Some.is

pub returns-in-Some : goal.returns-in-Some
returns-in-Some c =
    let text = c.args.text.now in
    let is : c.position.result ≡ position is_slash text =
    position_from_yields_List is_slash _ _ c.position.result c.position.ensures.ran (YieldsList-from_slice text cc) (λ x b q k. search (rules, tests)) in
    c.quotient.ensures ∙ value_quotient text c.position.result c.in-Some.slash is c.in-Some.is

pub returns-in-Ok : goal.returns-in-Ok
returns-in-Ok c =
    let text = c.args.text.now in
    let is : c.position.result ≡ position is_slash text =
    position_from_yields_List is_slash _ _ c.position.result c.position.ensures.ran (YieldsList-from_slice text cc) (λ x b q k. search (rules, tests)) in
    ap Some c.fraction_of.ensures ∙ ap (option_map fraction_of) (sym c.in-Ok.ensures.value) ∙ value_number text c.position.result is c.in_default.is

pub returns-in-Err : goal.returns-in-Err
returns-in-Err c =
    let text = c.args.text.now in
    let is : c.position.result ≡ position is_slash text =
    position_from_yields_List is_slash _ _ c.position.result c.position.ensures.ran (YieldsList-from_slice text cc) (λ x b q k. search (rules, tests)) in
    ap (option_map fraction_of) (sym c.in-Err.ensures.value) ∙ value_number text c.position.result is c.in_default.is
