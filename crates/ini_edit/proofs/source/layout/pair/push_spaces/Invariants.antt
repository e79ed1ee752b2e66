use Rattle.std.proofs.Common.{◌≡◌, ◌++◌, replicate}
use Rattle.ini_text.specs.Grammar.CharacterKinds.{space}
use Rattle.ini_text.specs.Parsing.Items.{string_text}
use Rattle.ini_edit.proofs.source.layout.pair.push_spaces.Given as goal

abbrev pub invariant-spaces : goal.invariant-spaces
invariant-spaces l =
    string_text l.out ++ replicate l.left space ≡ string_text l.initial.out ++ replicate l.fn.count space

abbrev pub decreases-spaces : goal.decreases-spaces
decreases-spaces l = l.left
