use Rattle.std.proofs.Common.{◌≡◌, length, chars}
use denote.Text.{Utf8}
use denote.Shadow.{shadow}
use Rattle.ini_text.specs.Options.ReadOptions.{backslash_of}
use Rattle.ini_text.specs.Inside.Endpoints.{ends_of}
use Rattle.ini_text.specs.Inside.Reading.{prepend}
use Rattle.ini_text.specs.Inside.StringReader.{string}
use Rattle.ini_text.specs.Parsing.Items.{string_text}
use Rattle.ini_text.proofs.parser.string.read_string.Given as goal

abbrev pub decreases-pieces : goal.decreases-pieces
decreases-pieces l = length (chars l.rest)

abbrev pub invariant-pieces : goal.invariant-pieces
invariant-pieces l = record {
  text : shadow (Utf8 l.rest);
  read : prepend (string_text l.fn.out)
      (string (backslash_of l.read) (ends_of l.read l.ends) (chars l.fn.text))
      ≡ prepend (string_text l.out) (string (backslash_of l.read) (ends_of l.read l.ends) (chars l.rest));
}
