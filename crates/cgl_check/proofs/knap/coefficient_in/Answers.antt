use Rattle.std.proofs.Common.{◌<◌, ◌^◌, ℤ, sym, subst, rules}
use Rattle.std.specs.Prelude.{unsigned_abs}
use Rattle.std.specs.Int.{w128}
use Rattle.std.specs.Int.RustNames.{FitsSigned}
use Rattle.std.proofs.lemmas.Int.{to_z-of_z}
use Rattle.cgl_check.proofs.KnapSumLaws.{coefficient_narrow}
use Rattle.cgl_check.proofs.knap.coefficient_in.Goals as goal

pub signed-requires : goal.signed-requires
signed-requires c =
    let fits : FitsSigned w128 c.coefficient_of.result = search rules in
    rw (to_z-of_z w128 c.coefficient_of.result fits) (subst (λ (z : ℤ). unsigned_abs z < 2 ^ 127) (sym c.coefficient_of.ensures) (coefficient_narrow c.args.column c.args.from.terms.now c.requires))
