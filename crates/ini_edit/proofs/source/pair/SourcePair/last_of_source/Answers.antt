use Rattle.ini_edit.proofs.SourcePartLemmas.{source_ends}
use Rattle.ini_edit.proofs.source.pair.SourcePair.last_of_source.Goals as goal

pub returns : goal.returns
returns c =
    source_ends c.args.front c.args.self.now.stretches c.last_of_key.ensures c.space_before.ensures
    c.last_or.ensures c.raw_value.ensures c.last_or-value.ensures c.space_after.ensures c.last_or-2.ensures
    c.note.ensures c.last_or-line.ensures c.trailing_lines.ensures c.last_or-3.ensures
