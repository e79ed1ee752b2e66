use Rattle.std.proofs.Common.{chars}
use Rattle.ini.specs.Texts.{str_name}
use Rattle.ini_c.proofs.TextEditLemmas.{stop_of_setting, value_of_setting}
use Rattle.ini_c.proofs.text_edits.with_set.Goals as goal

pub returns-clause-value : goal.returns-clause-value
returns-clause-value c =
    value_of_setting c.args.read c.args.write.now (chars c.args.text.now) (str_name c.args.name)
    (chars c.args.key.now) (chars c.args.value.now) c.set.result c.set.ensures.refused

pub returns-clause-fault : goal.returns-clause-fault
returns-clause-fault c =
    stop_of_setting c.args.read c.args.write.now (chars c.args.text.now) (str_name c.args.name)
    (chars c.args.key.now) (chars c.args.value.now) c.set.result c.set.ensures.refused
