use Rattle.std.proofs.Common.{◌≡◌, length, chars}
use denote.Text.{Utf8}
use denote.Shadow.{shadow}
use Rattle.ini_text.specs.Inside.Scans.{is_in, skipped}
use Rattle.ini_text.proofs.text.skip.Given as goal

abbrev pub decreases-characters : goal.decreases-characters
decreases-characters l = length (chars l.rest)

abbrev pub invariant-characters : goal.invariant-characters
invariant-characters l = record {
  text : shadow (Utf8 l.rest);
  skipped : skipped (is_in l.class) (chars l.rest) ≡ skipped (is_in l.class) (chars l.fn.text);
}
