use Rattle.std.proofs.Common.{◌≡◌, ◌∙◌, ◌++◌, refl, ap, sym, arith, length, ◌∷◌, [], ℕ, Vec, Global}
use Rattle.std.proofs.lemmas.List.{map-append}
use Rattle.cgl_text.specs.Seen.{owned_words}
use Rattle.cgl_mps.specs.Made.{column_with, made_columns}
use Rattle.cgl_mps.proofs.MadeLaws.{column_made, columns_left}
use Rattle.cgl_mps.proofs.made.columns_of.Goals as goal

pub loop-name-preserved : goal.loop-name-preserved
loop-name-preserved c =
    let all = c.into_iter-columns.result.rest.items in
    let bounds = c.args.bounds.now.columns in
    let old = c.loop-name.made.items in
    let place : c.len-in-loop-name.result ≡ length old = omega (arith, c.loop-name.made.ok, c.len-in-loop-name.ensures) in
    let more = c.in-Ok-push.ensures.items ∙ ap (λ column. old ++ column ∷ []) c.column_with-column.ensures in
    record {
      made =
          column_made (owned_words c.loop-name.yielded) c.in-Some.name.items all c.loop-name.columns.rest.items bounds old c.push.new.self.items c.len-in-loop-name.result c.next_column.result c.at-own.result
          c.loop-name.invariant.made c.loop-name.invariant.columns place c.next_column.ensures.first c.at-own.ensures more
          ∙ ap (λ names. made_columns names all bounds) (sym (map-append (λ (name : Vec ℕ Global). name.items) c.loop-name.yielded (c.in-Some.name ∷ [])));
      columns = columns_left all c.loop-name.columns.rest.items c.next_column.new.columns.rest.items old c.push.new.self.items _ c.loop-name.invariant.columns c.next_column.ensures.rest more;
    }
