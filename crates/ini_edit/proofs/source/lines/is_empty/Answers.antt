use Rattle.ini_edit.proofs.SourceLineLemmas.{empty_by}
use Rattle.ini_edit.proofs.source.lines.is_empty.Goals as goal

pub returns : goal.returns
returns c = empty_by c.args.text.now c.utf8.text c.is_empty.ensures
