use Rattle.ini_edit.proofs.SourcePartLemmas.{text_ends}
use Rattle.ini_edit.proofs.source.pair.SourcePair.last_char.Goals as goal

pub returns : goal.returns
returns c =
    text_ends c.args.front c.args.self.now c.last_of_source.ensures c.after.ensures c.last_or.ensures
