use Rattle.std.proofs.Common.{◌^◌, ◌∙◌, ap, refl, sym, Some}
use Rattle.std.specs.Prelude.{option_map, option_to_list, unsigned_abs}
use Rattle.std.specs.Int.{w128}
use Rattle.std.specs.List.{list_any}
use Rattle.std.proofs.lemmas.Bool.{lt-leb, or_from, or_left}
use Rattle.std.proofs.lemmas.Int.{to_z-of_z}
use Rattle.cgl_num.specs.Decimal.{scaled}
use Rattle.cgl_model.specs.IntegerForm.{is_wide_number}
use Rattle.cgl_model.proofs.BuildLaws.{narrow_signed, wide_number}
use Rattle.cgl_model.proofs.row_numbers.scale_range.Goals as goal

pub returns-in_default : goal.returns-in_default
returns-in_default c = record { value = sym (ap (option_map (scaled c.args.k)) c.in_default.is); narrow = refl; wide = tt }

pub returns-in_default-scale : goal.returns-in_default-scale
returns-in_default-scale c = record {
  value = tt;
  narrow = tt;
  wide = ap (λ range. list_any is_wide_number (option_to_list (option_map (scaled c.args.k) range))) c.in-Some.is
      ∙ or_left _ _ (wide_number (scaled c.args.k c.in-Some.range) c.in_default-scale.ensures.value);
}

pub returns-clause-value : goal.returns-clause-value
returns-clause-value c =
    ap Some (to_z-of_z w128 c.in-Some-scale.range (narrow_signed _ c.in-Some-scale.ensures.narrow) ∙ c.in-Some-scale.ensures.value)
    ∙ sym (ap (option_map (scaled c.args.k)) c.in-Some.is)

pub returns-clause-narrow : goal.returns-clause-narrow
returns-clause-narrow c =
    rw (to_z-of_z w128 c.in-Some-scale.range (narrow_signed _ c.in-Some-scale.ensures.narrow))
    (or_from _ _ (lt-leb (2 ^ 100) (unsigned_abs c.in-Some-scale.range) c.in-Some-scale.ensures.narrow) refl)
