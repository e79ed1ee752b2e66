use Rattle.std.proofs.Common.{◌≡◌, ◌++◌, drop}
use Rattle.ini_text.specs.Grammar.CharacterKinds.{line_feed}
use Rattle.ini_text.specs.Parsing.Items.{string_text}
use Rattle.ini_edit.specs.Inside.SourceLayouts.{rules_of}
use Rattle.ini_edit.specs.SourceLayout.{laid_sections}
use Rattle.ini_edit.proofs.source.Source.laid.Given as goal

abbrev pub invariant-loop-i : goal.invariant-loop-i
invariant-loop-i l =
    string_text l.out ++ laid_sections (rules_of l.rules) l.front (drop l.i l.sections)
    ≡ laid_sections (rules_of l.rules) line_feed l.sections
