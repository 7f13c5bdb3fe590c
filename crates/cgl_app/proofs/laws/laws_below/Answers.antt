use Rattle.cgl_app.proofs.laws.laws_below.Goals as goal

pub returns : goal.returns
returns c = record {
  files = c.shelf_laws.ensures;
  decks = c.deck_results.ensures.models;
  points = c.known_points.ensures.results;
  texts = c.round_trip_laws.ensures;
  extensions = c.extension_laws.ensures;
  listed = c.task_laws.ensures;
  derived = record { sound = c.soundness.ensures.derivation; columns = c.lists.ensures.columns };
  names = c.file_names.ensures;
}
