use Rattle.std.proofs.Common.{◌++◌, rules, ◌≡◌, Some, sym, ap, ◌∙◌, arith}
use Rattle.std.proofs.lemmas.Map.Text.{btree_map_updates_text}
use Rattle.std.specs.FinMap.{insert}
use Rattle.cgl_outside.specs.Files.{files_of}
use Rattle.cgl_outside.proofs.FilesLaws.{files_written}
use Rattle.cgl_outside.proofs.FilesRules.{found_file, no_file, more_of_held, more_of_none, same_written}
use Rattle.cgl_outside.proofs.store.extend.Goals as goal

pub returns-in_default-clause-held : goal.returns-in_default-clause-held
returns-in_default-clause-held c = grind (arith, no_file c.args.files.now c.args.name.now (sym c.in_default.ensures.value))

pub returns-in_default-clause-ok : goal.returns-in_default-clause-ok
returns-in_default-clause-ok c = more_of_none _ _ _ _ (no_file c.args.files.now c.args.name.now (sym c.in_default.ensures.value)) (ap files_of c.get_mut.follows.holds-at-none)

pub returns-in_default-extend_from_slice-clause-err : goal.returns-in_default-extend_from_slice-clause-err
returns-in_default-extend_from_slice-clause-err c =
    let w = c.extend_from_slice.new.self in
    let m = c.args.files.now in
    let upd = (c.get_mut.follows.holds w).3 (search rules) in
    let found = found_file m c.args.name.now c.in-Some.file.now (sym c.in-Some.ensures.value) in
    let same : w.items ≡ c.in-Some.file.now.items = search rules in
    files_written m (c.get_mut.follows.lender w) c.args.name.now w (λ q. btree_map_updates_text c.args.name.now m (c.get_mut.follows.lender w) (Some w) upd q)
    ∙ ap (insert (files_of m) c.args.name.now) same ∙ same_written _ _ _ found

pub returns-in_default-extend_from_slice-clause-err_held : goal.returns-in_default-extend_from_slice-clause-err_held
returns-in_default-extend_from_slice-clause-err_held c =
    let found = found_file c.args.files.now c.args.name.now c.in-Some.file.now (sym c.in-Some.ensures.value) in grind (arith, found)

pub returns-clause-held : goal.returns-clause-held
returns-clause-held c =
    let found = found_file c.args.files.now c.args.name.now c.in-Some.file.now (sym c.in-Some.ensures.value) in grind (arith, found)

pub returns-clause-ok : goal.returns-clause-ok
returns-clause-ok c =
    let w = c.extend_from_slice.new.self in
    let m = c.args.files.now in
    let upd = (c.get_mut.follows.holds w).3 (search rules) in
    let found = found_file m c.args.name.now c.in-Some.file.now (sym c.in-Some.ensures.value) in
    let items : w.items ≡ c.in-Some.file.now.items ++ c.args.bytes.now = search rules in
    more_of_held _ _ _ _ _ found (files_written m (c.get_mut.follows.lender w) c.args.name.now w (λ q. btree_map_updates_text c.args.name.now m (c.get_mut.follows.lender w) (Some w) upd q) ∙ ap (insert (files_of m) c.args.name.now) items)

pub returns-in_default-clause-none : goal.returns-in_default-clause-none
returns-in_default-clause-none c = λ e. ap files_of c.get_mut.follows.holds-at-none
