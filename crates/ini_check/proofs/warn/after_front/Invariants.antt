use Rattle.std.proofs.Common.{◌≡◌, length, chars, drop}
use denote.Text.{Utf8}
use denote.Shadow.{shadow}
use Rattle.ini_check.proofs.warn.after_front.Given as goal

abbrev pub decreases-characters : goal.decreases-characters
decreases-characters l = length (chars l.passed)

abbrev pub invariant-characters : goal.invariant-characters
invariant-characters l = record {
  text : shadow (Utf8 l.rest);
  front : shadow (Utf8 l.passed);
  left : drop (length (chars l.passed)) (chars l.rest)
      ≡ drop (length (chars l.fn.front)) (chars l.fn.text);
}
