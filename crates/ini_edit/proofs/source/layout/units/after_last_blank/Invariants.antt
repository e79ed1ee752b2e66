use Rattle.std.proofs.Common.{◌≡◌, length, chars, true}
use Rattle.std.specs.Option.{unwrap_or}
use denote.Shadow.{shadow}
use denote.Text.{Utf8}
use Rattle.ini_edit.specs.Sorting.{after_last_blank}
use Rattle.ini_edit.proofs.source.layout.units.after_last_blank.Given as goal

abbrev pub invariant-characters : goal.invariant-characters
invariant-characters l = record {
  above : shadow (Utf8 l.above);
  rest : shadow (Utf8 l.rest);
  so_far : unwrap_or (after_last_blank l.is_blank_line (chars l.rest)) (chars l.above)
      ≡ unwrap_or (after_last_blank true (chars l.fn.lines)) (chars l.fn.lines);
}

abbrev pub decreases-characters : goal.decreases-characters
decreases-characters l = length (chars l.rest)
