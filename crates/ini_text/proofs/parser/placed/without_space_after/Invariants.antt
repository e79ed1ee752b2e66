use Rattle.std.proofs.Common.{chars, length}
use denote.Text.{Utf8}
use denote.Shadow.{shadow}
use Rattle.ini_text.proofs.PlaceLemmas.SpaceAfterLemmas.{SpaceSoFar}
use Rattle.ini_text.proofs.parser.placed.without_space_after.Given as goal

abbrev pub decreases-white : goal.decreases-white
decreases-white l = length (chars l.raw_value)

abbrev pub invariant-white : goal.invariant-white
invariant-white l = record {
  text : shadow (Utf8 l.raw_value);
  space : SpaceSoFar (chars l.fn.lines) (chars l.raw_value);
}
