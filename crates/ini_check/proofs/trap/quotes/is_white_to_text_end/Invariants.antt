use Rattle.std.proofs.Common.{◌≡◌, length, chars}
use denote.Text.{Utf8}
use denote.Shadow.{shadow}
use Rattle.ini_check.specs.Traps.Quotes.{is_white_to_text_end}
use Rattle.ini_check.proofs.trap.quotes.is_white_to_text_end.Given as goal

abbrev pub decreases-characters : goal.decreases-characters
decreases-characters l = length (chars l.rest)

abbrev pub invariant-characters : goal.invariant-characters
invariant-characters l = record {
  text : shadow (Utf8 l.rest);
  white : is_white_to_text_end l.fn.read (chars l.rest) ≡ is_white_to_text_end l.fn.read (chars l.fn.text);
}
