use Rattle.std.proofs.Common.{◌≡◌, length, chars}
use denote.Text.{Utf8}
use denote.Shadow.{shadow}
use Rattle.ini_text.specs.Inside.ElementReader.{name_in}
use Rattle.ini_text.proofs.parser.header.before_bracket.Given as goal

abbrev pub decreases-blanks : goal.decreases-blanks
decreases-blanks l = length (chars l.rest)

abbrev pub invariant-blanks : goal.invariant-blanks
invariant-blanks l = record {
  text : shadow (Utf8 l.rest);
  name : name_in (chars l.rest) ≡ name_in (chars l.fn.text);
}
