use Rattle.std.proofs.Common.{◌≡◌, ◌++◌, length, chars, false}
use denote.Text.{Utf8}
use denote.Shadow.{shadow}
use Rattle.ini_text.specs.Parsing.Items.{string_text}
use Rattle.ini_check.specs.Mends.Characters.{with_escapes_doubled}
use Rattle.ini_check.proofs.mends.characters.push_escapes_doubled.Given as goal

abbrev pub decreases-characters : goal.decreases-characters
decreases-characters l = length (chars l.rest)

abbrev pub invariant-characters : goal.invariant-characters
invariant-characters l = record {
  text : shadow (Utf8 l.rest);
  made : string_text l.out ++ with_escapes_doubled l.in_name l.escaped (chars l.rest)
      ≡ string_text l.fn.out ++ with_escapes_doubled l.in_name false (chars l.text);
}
