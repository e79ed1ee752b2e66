use Rattle.std.proofs.Common.{◌≡◌, length, chars}
use denote.Text.{Utf8}
use denote.Shadow.{shadow}
use Rattle.ini_check.specs.Traps.Lines.{is_blank_or_note}
use Rattle.ini_check.proofs.trap.lines.is_blank_or_note.Given as goal

abbrev pub decreases-characters : goal.decreases-characters
decreases-characters l = length (chars l.rest)

abbrev pub invariant-characters : goal.invariant-characters
invariant-characters l = record {
  text : shadow (Utf8 l.rest);
  blank : is_blank_or_note (chars l.rest) ≡ is_blank_or_note (chars l.fn.text);
}
