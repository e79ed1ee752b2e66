use Rattle.std.proofs.Common.{◌≡◌, ◌++◌, take}
use Rattle.ini_text.specs.Parsing.Items.{string_text}
use Rattle.ini_edit.specs.Sources.{pairs_text}
use Rattle.ini_edit.proofs.source.section.SourceSection.push_to.Given as goal

abbrev pub invariant-loop-pair : goal.invariant-loop-pair
invariant-loop-pair l = string_text l.out ≡ string_text l.initial.out ++ pairs_text
    (take l.pair-index l.pair-items)
