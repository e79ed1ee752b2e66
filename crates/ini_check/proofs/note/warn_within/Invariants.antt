use Rattle.std.proofs.Common.{length, chars}
use denote.Text.{Utf8}
use denote.Shadow.{shadow}
use Rattle.ini_check.specs.Inside.Positions.{HasRoom}
use Rattle.ini_check.specs.Warnings.{inner_warnings}
use Rattle.ini_check.specs.declared.lexical.LexicalState.TheVariants.{Front}
use Rattle.ini_check.proofs.NoteLemmas.{Warned}
use Rattle.ini_check.proofs.note.warn_within.Given as goal

abbrev pub decreases-characters : goal.decreases-characters
decreases-characters l = length (chars l.rest)

abbrev pub invariant-characters : goal.invariant-characters
invariant-characters l = record {
  text : shadow (Utf8 l.rest);
  room : HasRoom (length (chars l.rest)) l.position;
  warned : Warned l.fn.position l.position l.fn.warnings.items l.warnings.items
      (λ b. inner_warnings l.fn.read l.fn.is_list Front b (chars l.fn.value))
      (λ b. inner_warnings l.fn.read l.fn.is_list l.state b (chars l.rest));
}
