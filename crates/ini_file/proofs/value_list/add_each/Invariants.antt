use Rattle.std.proofs.Common.{chars, take}
use Rattle.ini.specs.Texts.{str_name}
use Rattle.ini_file.specs.ValueLists.{AreAddedUnder, texts_in}
use Rattle.ini_file.proofs.value_list.add_each.Given as goal

-- a pair for each value so far
abbrev pub invariant-loop-value : goal.invariant-loop-value
invariant-loop-value l =
    AreAddedUnder l.rule l.write (str_name l.name) (chars l.key) (texts_in (take l.value-index l.values))
    l.fn.source l.source
