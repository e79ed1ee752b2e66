use Rattle.std.proofs.Common.{◌≡◌, ◌++◌, chars, drop, map}
use denote.Shadow.{shadow}
use denote.Text.{Utf8}
use Rattle.ini_edit.specs.Inside.Sortings.{pair_unit_of}
use Rattle.ini_edit.specs.Sorting.{pair_units}
use Rattle.ini_edit.proofs.source.layout.units.pair_units.Given as goal

abbrev pub invariant-loop-i : goal.invariant-loop-i
invariant-loop-i l = record {
  above : shadow (Utf8 l.above);
  so_far : map pair_unit_of l.units.items ++ pair_units l.fn.is_last (chars l.above) (drop l.i l.pairs)
      ≡ pair_units l.fn.is_last (chars l.fn.first) l.pairs;
}
