use Rattle.std.proofs.Common.{ap, ◌∙◌}
use Rattle.cgl_mps.specs.Made.{made_model, made_rows}
use Rattle.cgl_mps.specs.State.{State}
use Rattle.cgl_mps.proofs.MadeLaws.{made_of, model_alike}
use Rattle.cgl_mps.proofs.state.State.into_model.Goals as goal

pub returns : goal.returns
returns c =
    let state : State = record { headers = c.self.inside.headers.items; name = c.self.inside.name.items; is_sense_given = c.self.inside.is_sense_given; maximise = c.self.inside.maximise; rows = c.self.inside.rows; kinds = c.self.inside.kinds.items; columns = c.self.inside.columns; rhs = c.self.inside.rhs; ranges = c.self.inside.ranges; bounds = c.self.inside.bounds } in
    record {
      is = λ before stands.
          made_of state c.from_vec.result c.in_ok-rows.rows c.in_ok-cols.cols c.from_vec.ensures
          (c.in_ok-rows.ensures ∙ ap (λ kinds. made_rows state.rows kinds state.rhs.values state.ranges.values) c.as_slice.ensures.value)
          c.in_ok-cols.ensures
          ∙ ap made_model c.self.view_is
          ∙ model_alike before c.args.self stands;
    }
