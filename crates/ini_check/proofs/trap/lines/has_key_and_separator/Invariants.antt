use Rattle.std.proofs.Common.{◌≡◌, length, chars}
use denote.Text.{Utf8}
use denote.Shadow.{shadow}
use Rattle.ini_check.specs.Traps.Lines.{has_key_and_separator}
use Rattle.ini_check.proofs.trap.lines.has_key_and_separator.Given as goal

abbrev pub decreases-characters : goal.decreases-characters
decreases-characters l = length (chars l.rest)

abbrev pub invariant-characters : goal.invariant-characters
invariant-characters l = record {
  text : shadow (Utf8 l.rest);
  has : has_key_and_separator (chars l.rest) ≡ has_key_and_separator (chars l.fn.text);
}
