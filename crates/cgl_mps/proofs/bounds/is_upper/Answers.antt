use Rattle.std.proofs.Common.{◌≡◌, refl, false, rules}
use Rattle.cgl_decode.specs.declared.kinds.BoundKind.{BoundKind}
use Rattle.cgl_decode.specs.declared.kinds.BoundKind.TheVariants.{Lo, Li, Up, Ui, Fx, Fr, Mi, Pl, Bv}
use Rattle.cgl_decode.specs.Models.{is_upper}
use Rattle.cgl_mps.proofs.bounds.is_upper.Goals as goal

others : (kind : BoundKind) → (kind ≡ Up → ⊥) → (kind ≡ Ui → ⊥) → false ≡ is_upper kind
others Lo up ui = refl
others Li up ui = refl
others Up up ui = absurd (up refl)
others Ui up ui = absurd (ui refl)
others Fx up ui = refl
others Fr up ui = refl
others Mi up ui = refl
others Pl up ui = refl
others Bv up ui = refl

pub returns-in_default : goal.returns-in_default
returns-in_default c = others c.args.kind (search rules) (search rules)
