use Rattle.std.proofs.Common.{◌≡◌, refl, false, rules}
use Rattle.cgl_decode.specs.declared.kinds.BoundKind.{BoundKind}
use Rattle.cgl_decode.specs.declared.kinds.BoundKind.TheVariants.{Lo, Li, Up, Ui, Fx, Fr, Mi, Pl, Bv}
use Rattle.cgl_decode.specs.Models.{makes_integer}
use Rattle.cgl_mps.proofs.bounds.is_integer.Goals as goal

others : (kind : BoundKind) → (kind ≡ Li → ⊥) → (kind ≡ Ui → ⊥) → (kind ≡ Bv → ⊥) → false ≡ makes_integer kind
others Lo li ui bv = refl
others Li li ui bv = absurd (li refl)
others Up li ui bv = refl
others Ui li ui bv = absurd (ui refl)
others Fx li ui bv = refl
others Fr li ui bv = refl
others Mi li ui bv = refl
others Pl li ui bv = refl
others Bv li ui bv = absurd (bv refl)

pub returns-in_default : goal.returns-in_default
returns-in_default c = others c.args.kind (search rules) (search rules) (search rules)
