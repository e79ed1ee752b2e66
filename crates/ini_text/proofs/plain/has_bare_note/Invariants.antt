use Rattle.std.proofs.Common.{◌≡◌, length, chars}
use denote.Text.{Utf8}
use denote.Shadow.{shadow}
use Rattle.ini_text.specs.Laws.Plain.{has_bare_note}
use Rattle.ini_text.proofs.plain.has_bare_note.Given as goal

abbrev pub decreases-characters : goal.decreases-characters
decreases-characters l = length (chars l.rest)

abbrev pub invariant-characters : goal.invariant-characters
invariant-characters l = record {
  text : shadow (Utf8 l.rest);
  note : has_bare_note l.policy (chars l.rest) ≡ has_bare_note l.policy (chars l.fn.text);
}
