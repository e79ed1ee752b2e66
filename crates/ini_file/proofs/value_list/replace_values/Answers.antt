use Rattle.std.proofs.Common.{chars}
use Rattle.std.proofs.lemmas.Result.{IfErr-weaker, on_ok_weaker}
use Rattle.ini.specs.Texts.{str_name}
use Rattle.ini_file.specs.ValueLists.{texts_in}
use Rattle.ini_file.proofs.ValueListLemmas.{not_replaced, replaced}
use Rattle.ini_file.proofs.value_list.replace_values.Goals as goal

pub returns-clause-set : goal.returns-clause-set
returns-clause-set c =
    on_ok_weaker c.add_each.result
    (replaced c.args.rule c.args.write.now (str_name c.args.name) (chars c.args.key.now)
    (texts_in c.args.values.now) c.args.source.now c.delete_in_source.new.source
    c.in_ok-delete_in_source.ensures.option c.in_ok-delete_in_source.ensures.deleted)
    c.add_each.ensures.added

pub returns-clause-refused : goal.returns-clause-refused
returns-clause-refused c =
    IfErr-weaker c.add_each.result _ _
    (not_replaced c.args.rule c.args.write.now (str_name c.args.name) (chars c.args.key.now)
    (texts_in c.args.values.now) c.args.source.now c.delete_in_source.new.source
    c.in_ok-delete_in_source.ensures.option c.in_ok-delete_in_source.ensures.deleted)
    c.add_each.ensures.refused
