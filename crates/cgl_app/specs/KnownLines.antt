-- The lines that name rows and columns, on a model with the rows OBJ and R1 and the columns x and y.
use Rattle.std.specs.Prelude.{◌≡◌, pos, negsuc, false, [], ◌∷◌, codes, None}
use Rattle.cgl_model.specs.declared.mip.RowKind.TheVariants.{N, L}
use Rattle.cgl_model.specs.declared.mip.Model.{Model}
use Rattle.cgl_model.specs.declared.places.Var.TheVariants.{Col, Slack}
use Rattle.cgl_app.specs.declared.refusal.Cause.TheVariants.{Singular, Scale, TooFine, Overflow}
use Rattle.cgl_app.specs.declared.refusal.Spot.TheVariants.{Of, Rhs}
use Rattle.cgl_app.specs.Refusals.{cause_line}

abbrev pub known_model : Model
known_model = record {
  name = [];
  maximise = false;
  rows = record { name = codes "OBJ"; kind = N; rhs = record { m = pos 0; e = pos 0 }; range = None }
      ∷ record { name = codes "R1"; kind = L; rhs = record { m = pos 1; e = pos 0 }; range = None } ∷ [];
  cols = record { name = codes "x"; integer = false; lo = None; up = None; entries = [] }
      ∷ record { name = codes "y"; integer = false; lo = None; up = None; entries = [] } ∷ [];
}

pub record KnownLines : Type 0 where
  pub singular : cause_line known_model (Singular 1) ≡ codes "cgl: singular: column y\n"
  pub scale : cause_line known_model (Scale 1) ≡ codes "cgl: scale: row R1\n"
  pub too_fine : cause_line known_model (TooFine 0) ≡ codes "cgl: too fine: column x\n"
  pub column : cause_line known_model (Overflow 1 1 (Of (Col 1)) (pos 9223372036854775808) (pos 1))
      ≡ codes "cgl: overflow: step 1 row R1 column y left 9223372036854775808 right 1\n"
  pub slack : cause_line known_model (Overflow 0 1 (Of (Slack 1)) (negsuc 4) (pos 3)) ≡ codes "cgl: overflow: step 0 row R1 column slack R1 left -5 right 3\n"
  pub right_side : cause_line known_model (Overflow 2 1 Rhs (pos 7) (negsuc 0)) ≡ codes "cgl: overflow: step 2 row R1 column rhs left 7 right -1\n"
