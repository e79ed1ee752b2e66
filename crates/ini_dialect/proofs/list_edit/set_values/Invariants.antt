use Rattle.std.proofs.Common.{map}
use Rattle.ini.specs.Texts.{str_text}
use Rattle.ini_dialect.proofs.ListEditLemmas.{SetSoFar}
use Rattle.ini_dialect.proofs.list_edit.set_values.Given as goal

abbrev pub invariant-loop-index : goal.invariant-loop-index
invariant-loop-index l =
    SetSoFar l.policy l.numbers (map str_text l.values) l.fn.source l.source l.index
