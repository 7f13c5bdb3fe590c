use Rattle.std.proofs.Common.{◌∙◌, Some, refl, sym}
use Rattle.cgl_outside.specs.Shelf.{Lacks, file_of}
use Rattle.cgl_outside.proofs.CountRules.{no_fault, excused, found_by}
use Rattle.cgl_outside.proofs.FilesRules.{longest_piece, read_piece}
use Rattle.cgl_outside.proofs.sure_shelf.SureShelfShelf.read_at.Goals as goal

pub returns-in_default : goal.returns-in_default
unfolding file_of
returns-in_default c =
    let lacks : Lacks (Some c.args.self.now.files) c.args.name.now = record { told = refl; none = sym c.in_default.ensures } in
    record { within = tt; piece = tt; longest = tt; untouched = refl; found = tt; lacking = lacks; same = refl; held = refl; reads = excused 0 0 refl lacks; writes = refl }

pub returns : goal.returns
unfolding file_of
returns c = record {
  within = c.copy_piece.ensures.within;
  piece = λ bytes is. read_piece bytes _ _ _ _ (c.in-Some.ensures ∙ is) c.copy_piece.ensures.piece;
  longest = λ bytes is. longest_piece bytes _ _ _ _ _ (c.in-Some.ensures ∙ is) c.copy_piece.ensures.longest;
  untouched = tt;
  found = λ _. found_by _ _ c.in-Some.ensures;
  lacking = tt;
  same = refl;
  held = refl;
  reads = no_fault 0 0 refl;
  writes = refl;
}
