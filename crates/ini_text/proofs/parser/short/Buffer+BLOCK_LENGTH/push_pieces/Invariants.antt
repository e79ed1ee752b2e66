use Rattle.std.proofs.Common.{◌≡◌, ◌≤◌, length, chars, take, IsUtf8}
use denote.Text.{Utf8}
use denote.Shadow.{shadow}
use Rattle.ini_text.specs.Options.Backslashes.{Escape}
use Rattle.ini_text.specs.Inside.Endpoints.{ends_of}
use Rattle.ini_text.specs.Inside.Reading.{prepend}
use Rattle.ini_text.specs.Inside.ShortPieces.{Sees}
use Rattle.ini_text.specs.Inside.StringReader.{string}
use Rattle.ini_text.proofs.parser.short.Buffer+BLOCK_LENGTH.push_pieces.Given as goal

abbrev pub decreases-pieces : goal.decreases-pieces
decreases-pieces l = length (chars l.rest)

abbrev pub invariant-pieces : goal.invariant-pieces
invariant-pieces l = record {
  text : shadow (Utf8 l.rest);
  within : l.len ≤ 128;
  values : IsUtf8 (take l.len l.self.bytes);
  read : string Escape (ends_of l.read l.ends) (chars l.fn.text) ≡ prepend (chars (take l.len l.self.bytes))
      (string Escape (ends_of l.read l.ends) (chars l.rest));
  seen : Sees (ends_of l.read l.ends) l.known l.rest;
  shorter : length (chars l.rest) ≤ length (chars l.fn.text);
}
