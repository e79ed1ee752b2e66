use Rattle.std.proofs.Common.{chars, length}
use denote.Text.{Utf8}
use denote.Shadow.{shadow}
use Rattle.ini_text.specs.Inside.PlaceReader.{TailSoFar}
use Rattle.ini_text.specs.Parsing.Items.{string_text}
use Rattle.ini_text.proofs.parser.value.read_more.Given as goal

abbrev pub decreases-lines : goal.decreases-lines
decreases-lines l = length (chars l.rest)

abbrev pub invariant-lines : goal.invariant-lines
invariant-lines l = record {
  tail_text : shadow (Utf8 l.tail);
  text : shadow (Utf8 l.rest);
  known : TailSoFar l.read (chars l.fn.text) (chars l.fn.start) (chars l.tail) (chars l.rest)
      (string_text l.out);
}
