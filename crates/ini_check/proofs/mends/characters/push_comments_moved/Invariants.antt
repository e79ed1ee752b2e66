use Rattle.std.proofs.Common.{◌≡◌, ◌++◌, length, chars, false, true}
use denote.Text.{Utf8}
use denote.Shadow.{shadow}
use Rattle.ini_text.specs.Parsing.Items.{string_text}
use Rattle.ini_check.specs.Mends.Characters.{with_comments_moved}
use Rattle.ini_check.proofs.mends.characters.push_comments_moved.Given as goal

abbrev pub decreases-characters : goal.decreases-characters
decreases-characters l = length (chars l.rest)

abbrev pub invariant-characters : goal.invariant-characters
invariant-characters l = record {
  text : shadow (Utf8 l.rest);
  made : string_text l.out ++ with_comments_moved l.at_front l.within (chars l.rest)
      ≡ string_text l.fn.out ++ with_comments_moved true false (chars l.text);
}
