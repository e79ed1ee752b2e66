use Rattle.std.proofs.Common.{◌≡◌, length, chars}
use denote.Shadow.{shadow}
use denote.Text.{Utf8}
use Rattle.ini_edit.specs.SourceLines.{after_blanks}
use Rattle.ini_file.proofs.uncomment.split_blanks.Given as goal

abbrev pub invariant-characters : goal.invariant-characters
invariant-characters l =
    (after_blanks (chars l.rest) ≡ after_blanks (chars l.fn.text)) × shadow (Utf8 l.rest)

abbrev pub decreases-characters : goal.decreases-characters
decreases-characters l = length (chars l.rest)
