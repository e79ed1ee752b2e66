use Rattle.std.proofs.Common.{chars}
use Rattle.ini.specs.Texts.{str_name}
use Rattle.ini_c.proofs.TextEditLemmas.{key_of_adding, line_of_adding, name_of_adding, place_of_adding}
use Rattle.ini_c.proofs.TextEditLemmas.{stop_of_adding, value_of_adding}
use Rattle.ini_c.proofs.text_edits.added.Goals as goal

pub returns-clause-value : goal.returns-clause-value
returns-clause-value c =
    value_of_adding c.args.read c.args.write.now (chars c.args.text.now) (str_name c.args.name)
    (chars c.args.key.now) (chars c.args.value.now) c.add.result c.add.ensures.refused

pub returns-clause-key : goal.returns-clause-key
returns-clause-key c =
    key_of_adding c.args.read c.args.write.now (chars c.args.text.now) (str_name c.args.name)
    (chars c.args.key.now) (chars c.args.value.now) c.add.result c.add.ensures.refused

pub returns-clause-name : goal.returns-clause-name
returns-clause-name c =
    name_of_adding c.args.read c.args.write.now (chars c.args.text.now) (str_name c.args.name)
    (chars c.args.key.now) (chars c.args.value.now) c.add.result c.add.ensures.refused

pub returns-clause-no_place : goal.returns-clause-no_place
returns-clause-no_place c =
    place_of_adding c.args.read c.args.write.now (chars c.args.text.now) (str_name c.args.name)
    (chars c.args.key.now) (chars c.args.value.now) c.add.result c.add.ensures.refused

pub returns-clause-fault : goal.returns-clause-fault
returns-clause-fault c =
    stop_of_adding c.args.read c.args.write.now (chars c.args.text.now) (str_name c.args.name)
    (chars c.args.key.now) (chars c.args.value.now) c.add.result c.add.ensures.refused

pub returns-clause-writable : goal.returns-clause-writable
returns-clause-writable c =
    line_of_adding c.args.read c.args.write.now (chars c.args.text.now) (str_name c.args.name)
    (chars c.args.key.now) (chars c.args.value.now) c.add.result c.add.ensures.writable
