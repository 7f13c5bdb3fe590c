use Rattle.cgl_words.proofs.FileLaws.{files_differ}
use Rattle.cgl_words.proofs.laws.file_names.Goals as goal

pub returns : goal.returns
returns c = files_differ
