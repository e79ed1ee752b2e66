use Rattle.std.proofs.Common.{◌≡◌, ◌||◌, length, chars}
use denote.Text.{Utf8}
use denote.Shadow.{shadow}
use Rattle.ini_text.specs.Inside.LineReader.{opens_quote, parts}
use Rattle.ini_text.specs.Inside.Reading.{prepend}
use Rattle.ini_text.specs.Parsing.Items.{string_text}
use Rattle.ini_text.proofs.parser.line.read_line.Given as goal

abbrev pub decreases-parts : goal.decreases-parts
decreases-parts l = length (chars l.rest)

abbrev pub invariant-parts : goal.invariant-parts
invariant-parts l = record {
  text : shadow (Utf8 l.rest);
  read : prepend (string_text l.fn.out) (parts l.read (chars l.fn.text))
      ≡ prepend (string_text l.out) (parts l.read (chars l.rest));
  quoted : opens_quote l.read (chars l.fn.text) ≡ (l.is_quoted || opens_quote l.read (chars l.rest));
}
