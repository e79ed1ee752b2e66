use Rattle.std.proofs.Common.{◌≡◌, ◌++◌, length, chars}
use denote.Shadow.{shadow}
use denote.Text.{Utf8}
use Rattle.ini_text.specs.Parsing.Items.{string_text}
use Rattle.ini_edit.specs.SourceEntries.{comments_from, comments_in}
use Rattle.ini_edit.proofs.source.layout.entries.comments_in.Given as goal

abbrev pub invariant-characters : goal.invariant-characters
invariant-characters l =
    (string_text l.comments ++ comments_from l.is_inside (chars l.rest) ≡ comments_in (chars l.fn.gap))
    × shadow (Utf8 l.rest)

abbrev pub decreases-characters : goal.decreases-characters
decreases-characters l = length (chars l.rest)
