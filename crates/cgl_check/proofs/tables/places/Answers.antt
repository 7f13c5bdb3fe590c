use Rattle.std.proofs.Common.{List, sym, subst}
use Rattle.cgl_check.specs.declared.frames.Frame.{Frame}
use Rattle.cgl_check.specs.Covered.{CoversList}
use Rattle.cgl_check.proofs.CoverLaws.{whole_covered, whole_needed}
use Rattle.cgl_check.proofs.tables.places.Goals as goal

pub returns-clause-covered : goal.returns-clause-covered
returns-clause-covered c =
    let scope = c.args.scope.now in
    whole_covered scope c.list_places.result c.requires (subst (λ (fs : List Frame). CoversList scope fs 64 c.list_places.result) c.new-frames.ensures c.list_places.ensures.covered)

pub returns-clause-least : goal.returns-clause-least
returns-clause-least c = λ places tables.
    let scope = c.args.scope.now in
    c.list_places.ensures.least places (subst (λ (fs : List Frame). CoversList scope fs 64 places) (sym c.new-frames.ensures) (whole_needed scope places c.requires tables))
