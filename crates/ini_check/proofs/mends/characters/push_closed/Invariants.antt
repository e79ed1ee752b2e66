use Rattle.std.proofs.Common.{◌≡◌, ◌++◌, length, chars, true}
use denote.Text.{Utf8}
use denote.Shadow.{shadow}
use Rattle.ini_text.specs.Parsing.Items.{string_text}
use Rattle.ini_check.specs.Mends.Characters.{closed}
use Rattle.ini_check.proofs.mends.characters.push_closed.Given as goal

abbrev pub decreases-characters : goal.decreases-characters
decreases-characters l = length (chars l.rest)

abbrev pub invariant-characters : goal.invariant-characters
invariant-characters l = record {
  text : shadow (Utf8 l.rest);
  made : string_text l.out ++ closed l.mark l.after_text (chars l.rest)
      ≡ string_text l.fn.out ++ closed l.mark true (chars l.text);
}
