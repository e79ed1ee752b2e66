use Rattle.std.proofs.Common.{chars, subst}
use Rattle.ini.specs.Texts.{str_name}
use Rattle.ini_edit.specs.SourceEditsSet.{SetsFirst}
use Rattle.ini_edit.specs.declared.source.set.LaterPairs.TheVariants.{TakenOut}
use Rattle.ini_edit.proofs.WholeTextLemmas.{lacks_pair, read_in_pieces}
use Rattle.ini_edit.proofs.whole_text.set_existing.Goals as goal

pub returns-clause-edited : goal.returns-clause-edited
returns-clause-edited c =
    let read = c.in_ok-source.ensures in
    let name = str_name c.args.name in
    let key = chars c.args.key.now in
    let old = c.in_ok-source.source in
    let none = subst (SetsFirst old.option c.args.policy TakenOut old c.set_existing.new.self name key
    (chars c.args.value.now)) c.if-branch.false c.in_ok-set_existing.ensures.set in
    lacks_pair (read_in_pieces read.option read.text read.placed read.document) name key none.1
