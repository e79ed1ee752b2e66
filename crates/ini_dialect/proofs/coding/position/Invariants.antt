use Rattle.std.proofs.Common.{◌≡◌, ◌+◌, ◌<◌, ◌^◌, length, chars, count_by}
use denote.Text.{Utf8}
use denote.Shadow.{shadow}
use Rattle.ini_text.specs.Grammar.CharacterKinds.{is_line_feed}
use Rattle.ini_text.specs.Grammar.Positions.{column_of, line_of}
use Rattle.ini_text.proofs.StringLemmas.PositionLemmas.{column_from}
use Rattle.ini_dialect.proofs.coding.position.Given as goal

abbrev pub decreases-characters : goal.decreases-characters
decreases-characters l = length (chars l.rest)

abbrev pub invariant-characters : goal.invariant-characters
invariant-characters l = record {
  text : shadow (Utf8 l.rest);
  line : l.line + count_by is_line_feed (chars l.rest) ≡ line_of (chars l.fn.front);
  column : column_from l.column (chars l.rest) ≡ column_of (chars l.fn.front);
  line_fits : l.line + length (chars l.rest) < 2 ^ 64;
  column_fits : l.column + length (chars l.rest) < 2 ^ 64;
}
