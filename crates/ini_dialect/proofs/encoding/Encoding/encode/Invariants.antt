use Rattle.std.proofs.Common.{chars, length}
use denote.Text.{Utf8}
use denote.Shadow.{shadow}
use Rattle.ini_dialect.proofs.EncodingLemmas.{Encodes}
use Rattle.ini_dialect.proofs.encoding.Encoding.encode.Given as goal

abbrev pub decreases-characters : goal.decreases-characters
decreases-characters l = length l.rest

abbrev pub invariant-characters : goal.invariant-characters
invariant-characters l = record {
  text : shadow (Utf8 l.rest);
  encodes : Encodes l.self (chars l.fn.text) (chars l.rest) l.bytes.items;
}
