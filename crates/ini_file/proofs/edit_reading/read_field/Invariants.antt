use Rattle.std.proofs.Common.{◌≡◌, ◌++◌, ◌≤◌, length, chars}
use denote.Text.{Utf8}
use denote.Shadow.{shadow}
use Rattle.ini_text.specs.Escaping.EscapedTexts.{escaped}
use Rattle.ini_text.specs.Parsing.Items.{string_text}
use Rattle.ini_text.specs.declared.write.policy.EscapePolicy.TheVariants.{Basics}
use Rattle.ini_file.proofs.edit_reading.read_field.Given as goal

abbrev pub invariant-characters : goal.invariant-characters
invariant-characters l = record {
  text : shadow (Utf8 l.rest);
  field : chars l.fn.text ≡ escaped Basics (string_text l.field) ++ chars l.rest;
  bound : length l.rest ≤ length l.fn.text;
}

abbrev pub decreases-characters : goal.decreases-characters
decreases-characters l = length l.rest
