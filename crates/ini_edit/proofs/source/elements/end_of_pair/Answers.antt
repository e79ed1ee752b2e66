use Rattle.std.proofs.Common.{◌∙◌}
use Rattle.ini_edit.proofs.SourceElementLemmas.{onward, passed_pair}
use Rattle.ini_edit.proofs.source.elements.end_of_pair.Goals as goal

pub returns : goal.returns
returns c =
    let white = c.after.ensures ∙ onward c.end_of_key.ensures c.space_before.ensures in
    let own = c.after-2.ensures ∙ onward white c.raw_value.ensures in
    let more = c.after-3.ensures ∙ onward own c.space_after.ensures in
    let note = c.after-4.ensures ∙ onward more c.note.ensures in
    c.after-5.ensures ∙ onward note c.trailing_lines.ensures
    ∙ passed_pair c.args.position c.args.pair.now.stretches
