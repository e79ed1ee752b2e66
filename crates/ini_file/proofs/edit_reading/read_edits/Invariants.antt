use Rattle.std.proofs.Common.{◌≡◌, ◌++◌, chars, flat_map, length, map}
use denote.Text.{Utf8}
use denote.Shadow.{shadow}
use Rattle.ini_file.specs.EditLines.{change_read, edit_text}
use Rattle.ini_file.proofs.edit_reading.read_edits.Given as goal

abbrev pub invariant-edits : goal.invariant-edits
invariant-edits l = record {
  text : shadow (Utf8 l.rest);
  read : chars l.fn.text ≡ flat_map edit_text (map change_read l.edits.items) ++ chars l.rest;
}

abbrev pub decreases-edits : goal.decreases-edits
decreases-edits l = length l.rest
