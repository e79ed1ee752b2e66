use Rattle.std.proofs.Common.{chars}
use Rattle.std.proofs.lemmas.Result.{IfOk-weaker}
use Rattle.ini.specs.Texts.{str_name}
use Rattle.ini_edit.proofs.SetAloneLemmas.{first_left}
use Rattle.ini_edit.proofs.source.Source.set_writable.Goals as goal

pub returns-in-Left-clause-set : goal.returns-in-Left-clause-set
returns-in-Left-clause-set c =
    let old = c.args.self.now in
    rw c.in-Left.is (IfOk-weaker c.set_found.result _ _
    (first_left old.option c.args.policy old c.set_found.new.self (str_name c.args.name)
    (chars c.args.key.now) (chars c.args.value.now)) c.set_found.ensures.set)
