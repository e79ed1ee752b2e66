use Rattle.std.proofs.Common.{chars, map}
use Rattle.ini.specs.Texts.{str_name, str_text}
use Rattle.ini_dialect.proofs.ListEditLemmas.{AddedSoFar}
use Rattle.ini_dialect.proofs.rule.Lookup.add_from.Given as goal

abbrev pub invariant-loop-index : goal.invariant-loop-index
invariant-loop-index l =
    AddedSoFar l.self (str_name l.name) (chars l.key) l.write (map str_text l.fn.values) l.first l.fn.source
    l.source l.index
