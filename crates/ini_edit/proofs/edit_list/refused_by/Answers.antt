use Rattle.std.proofs.Common.{chars}
use Rattle.ini_text.specs.Parsing.Items.{string_text}
use Rattle.ini_edit.specs.Editings.{editing_of}
use Rattle.ini_edit.proofs.WholeTextRefusalLemmas.{answered_has, refused_reading}
use Rattle.ini_edit.proofs.edit_list.refused_by.Goals as goal

pub returns-in-Ok-clause-refused : goal.returns-in-Ok-clause-refused
returns-in-Ok-clause-refused c =
    let e = editing_of c.args.edit in
    let has = answered_has c.args.read c.args.write.now (chars c.args.text.now) string_text e
    c.in-Ok.edited c.in-Ok.ensures.made in
    let refused =
    refused_reading c.args.read c.args.write.now (chars c.args.text.now) e c.args.refusal has
    c.requires.fault in
    rw (c.at_first-in-Ok.ensures, c.into.ensures) refused
