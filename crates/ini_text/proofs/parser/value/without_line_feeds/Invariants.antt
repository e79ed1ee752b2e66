use Rattle.std.proofs.Common.{◌≡◌, length, chars}
use denote.Text.{Utf8}
use denote.Shadow.{shadow}
use Rattle.ini_text.specs.Grammar.WhiteSpace.{drop_line_feeds, without_outer_line_feeds}
use Rattle.ini_text.proofs.parser.value.without_line_feeds.Given as goal

abbrev pub decreases-ends : goal.decreases-ends
decreases-ends l = length (chars l.rest)

abbrev pub invariant-ends : goal.invariant-ends
invariant-ends l = record {
  text : shadow (Utf8 l.rest);
  value : drop_line_feeds (chars l.rest) ≡ without_outer_line_feeds (chars l.fn.text);
}
