use Rattle.std.proofs.Common.{◌≡◌, ◌++◌, chars, length}
use denote.Shadow.{shadow}
use denote.Text.{Utf8}
use Rattle.ini.specs.Texts.{text_of}
use Rattle.ini_dialect.specs.Lists.{listed_value}
use Rattle.ini_dialect.proofs.lists.push_listed.Given as goal

abbrev pub decreases-characters : goal.decreases-characters
decreases-characters l = length l.rest

-- with what is left it is the whole
abbrev pub invariant-characters : goal.invariant-characters
invariant-characters l = record {
  text : shadow (Utf8 l.rest);
  whole : text_of l.lines ++ listed_value (chars l.rest)
      ≡ text_of l.initial.lines ++ listed_value (chars l.value);
}
