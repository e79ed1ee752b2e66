use Rattle.std.proofs.Common.{[], chars, drop, map}
use denote.Shadow.{shadow}
use denote.Text.{Utf8}
use Rattle.ini_text.specs.Grammar.CharacterKinds.{line_feed}
use Rattle.ini_edit.specs.Inside.Sortings.{section_unit_of}
use Rattle.ini_edit.specs.Sorting.{section_units}
use Rattle.ini_edit.proofs.UnitStepLemmas.{UnitsFit}
use Rattle.ini_edit.proofs.source.layout.units.section_units.Given as goal

abbrev pub invariant-loop-i : goal.invariant-loop-i
invariant-loop-i l = record {
  above : shadow (Utf8 l.above);
  fit : UnitsFit l.fn.sorts_keys (section_units line_feed [] l.sections) (map section_unit_of l.units.items)
      (section_units l.front (chars l.above) (drop l.i l.sections));
}
