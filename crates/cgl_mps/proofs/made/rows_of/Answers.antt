use Rattle.std.proofs.Common.{◌≡◌, ◌∙◌, ap, sym, arith, ◌++◌, length, ◌∷◌, [], ℕ, Vec, Global}
use Rattle.std.proofs.lemmas.List.{map-append}
use Rattle.cgl_text.specs.Seen.{owned_words}
use Rattle.cgl_mps.specs.Made.{made_rows}
use Rattle.cgl_mps.proofs.MadeLaws.{row_made}
use Rattle.cgl_mps.proofs.made.rows_of.Goals as goal

pub loop-name-preserved : goal.loop-name-preserved
loop-name-preserved c =
    let kinds = c.args.kinds.now in
    let rhs = c.args.rhs.now.values in
    let ranges = c.args.ranges.now.values in
    let place : c.len-place.result ≡ length c.loop-name.rows.items = omega (arith, c.loop-name.rows.ok, c.len-place.ensures) in
    row_made (owned_words c.loop-name.yielded) c.in-Some.name.items kinds rhs ranges c.loop-name.rows.items c.push.new.self.items c.len-place.result
    c.loop-name.invariant place (c.in-Ok-push.ensures.items ∙ ap (λ row. c.loop-name.rows.items ++ row ∷ []) c.row_at.ensures)
    ∙ ap (λ names. made_rows names kinds rhs ranges) (sym (map-append (λ (name : Vec ℕ Global). name.items) c.loop-name.yielded (c.in-Some.name ∷ [])))
