use Rattle.std.proofs.Common.{rules, ◌≡◌, ◌∷◌, ◌++◌, [], ℕ, true, false, cond, Some, List, bytes_eq, length, position, is_some, Bor, ap, sym, ◌∙◌}
use Rattle.std.proofs.lemmas.List.{map-append, length-map}
use Rattle.indexmap.specs.IndexMap.{get_by}
use Rattle.cgl_text.specs.Seen.{word, words}
use Rattle.cgl_text.proofs.PlaceLaws.{place_stays, place_comes}
use Rattle.cgl_text.proofs.name_list.Names.push.Goals as goal

pub invariant_of-self-then-contains_key : goal.invariant_of-self-then-contains_key
invariant_of-self-then-contains_key c w =
    let names = words c.self.inside.names.items in
    let more : words c.push.new.self.items ≡ names ++ c.args.name.now ∷ [] = ap words c.in-Ok.ensures.items ∙ map-append word c.self.inside.names.items (c.args.name ∷ []) in
    let there : is_some (position (bytes_eq c.args.name.now) names) ≡ true = ap is_some (sym (c.self.invariant c.args.name.now)) ∙ sym c.contains_key.ensures ∙ c.if-contains_key.true in
    c.self.invariant w ∙ sym (place_stays names c.args.name.now w there) ∙ ap (position (bytes_eq w)) (sym more)

pub invariant_of-self-in-Ok-insert : goal.invariant_of-self-in-Ok-insert
invariant_of-self-in-Ok-insert c w =
    let names = words c.self.inside.names.items in
    let more : words c.push.new.self.items ≡ names ++ c.args.name.now ∷ [] = ap words c.in-Ok.ensures.items ∙ map-append word c.self.inside.names.items (c.args.name ∷ []) in
    let absent : is_some (position (bytes_eq c.args.name.now) names) ≡ false = ap is_some (sym (c.self.invariant c.args.name.now)) ∙ sym c.contains_key.ensures ∙ c.if-contains_key.false in
    let asked : Bor (List ℕ) = record c.args.name { now = w } in
    let place : c.len-place.result ≡ length names = let counted : c.len-place.result ≡ length c.self.inside.names.items = search rules in counted ∙ sym (length-map c.self.inside.names.items word) in
    let found : get_by (λ key. bytes_eq w key.now) c.insert.new.self ≡ cond (bytes_eq c.args.name.now w) (Some (length names)) (get_by (λ key. bytes_eq w key.now) c.self.inside.places) = c.in-Ok-insert.ensures.updates.0 asked ∙ ap (λ n. cond (bytes_eq c.args.name.now w) (Some n) (get_by (λ key. bytes_eq w key.now) c.self.inside.places)) place in
    found ∙ ap (λ r. cond (bytes_eq c.args.name.now w) (Some (length names)) r) (c.self.invariant w) ∙ place_comes names c.args.name.now w absent ∙ ap (position (bytes_eq w)) (sym more)
