use Rattle.std.proofs.Common.{chars, map}
use Rattle.ini.specs.Texts.{str_text}
use Rattle.ini_edit.proofs.KeyValueLemmas.{GathersTo}
use Rattle.ini_edit.proofs.source.section.SourceSection.get_all.Given as goal

abbrev pub invariant-loop-pair : goal.invariant-loop-pair
invariant-loop-pair l =
    GathersTo (chars l.fn.key) l.pair-items l.pair-index (map str_text l.found.items)
