use Rattle.cgl_outside.proofs.ShelfLaws as laws
use Rattle.cgl_outside.proofs.laws.shelf_laws.Goals as goal

pub returns : goal.returns
returns c = record {
  found = laws.file_of-with_file;
  others = laws.file_of-other;
  again = laws.with_file-twice;
  more = laws.with_more-with_file;
  more_twice = laws.with_more-twice;
  more_found = laws.file_of-with_more;
  more_others = laws.file_of-other_more;
  told = λ held name bytes. (laws.told_written held name bytes, laws.told_after held name bytes);
  more_told = laws.told_more;
  told_by_file = laws.told_by_file;
}
