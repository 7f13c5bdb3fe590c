-- The sides of a model stand in the order of their places, and the terms of each rise.
use Rattle.std.proofs.Common.{◌≡◌, ℕ, ◌^◌, ◌≤◌, List, length}
use Rattle.std.specs.List.{AllByRecursion}
use Rattle.cgl_model.specs.declared.mip.Model.{Model}
use Rattle.cgl_model.specs.HasDecimals.{HasDecimals}
use Rattle.cgl_model.specs.IntegerForm.{forms_of}
use Rattle.cgl_model.specs.PlaceOrder.{RanksRise}
use Rattle.cgl_model.specs.Rising.{IsRising}
use Rattle.cgl_model.proofs.AbsentLaws.{sides_rise}
use Rattle.cgl_model.proofs.RisingLaws.{sides_rising}

pub ranks_rise : (m : Model) → length m.rows ≤ 2 ^ 20 → RanksRise 0 (forms_of m).sides
ranks_rise m h = sides_rise m h

pub terms_rise : (m : Model) → HasDecimals m → AllByRecursion (λ s. IsRising s.ineq.terms) (forms_of m).sides
terms_rise m h = sides_rising m h
