use Rattle.std.proofs.Common.{ap, ◌∙◌, Some}
use Rattle.std.proofs.lemmas.Map.Text.{btree_map_updates_text}
use Rattle.std.specs.FinMap.{insert}
use Rattle.std.specs.String.{string_bytes}
use Rattle.cgl_outside.specs.Files.{files_of}
use Rattle.cgl_outside.proofs.FilesLaws.{files_written}
use Rattle.cgl_outside.proofs.FilesRules.{same_files}
use Rattle.cgl_outside.proofs.store.put.Goals as goal

pub returns-in-Ok-insert-clause-ok : goal.returns-in-Ok-insert-clause-ok
returns-in-Ok-insert-clause-ok c =
    let m = c.args.files.now in
    let copy = c.in-Ok.copy in
    let key = string_bytes c.in-Ok-from_str.key in
    files_written m c.insert.new.self key copy (λ q. btree_map_updates_text key m c.insert.new.self (Some copy) c.in-Ok-insert.ensures.updates q)
    ∙ ap (λ name. insert (files_of m) name copy.items) c.in-Ok-from_str.ensures.ok
    ∙ ap (insert (files_of m) c.args.name.now) c.in-Ok.ensures.items

pub returns-clause-err : goal.returns-clause-err
returns-clause-err c = same_files c.args.files.now c.insert.new.self c.in-Err.ensures.err
