use Rattle.std.proofs.Common.{length, chars}
use denote.Text.{Utf8}
use denote.Shadow.{shadow}
use Rattle.ini_check.specs.Inside.Positions.{HasRoom}
use Rattle.ini_check.specs.Warnings.{comment_warnings}
use Rattle.ini_check.proofs.NoteLemmas.{Warned}
use Rattle.ini_check.proofs.note.warn_comment.Given as goal

abbrev pub decreases-characters : goal.decreases-characters
decreases-characters l = length (chars l.rest)

abbrev pub invariant-characters : goal.invariant-characters
invariant-characters l = record {
  text : shadow (Utf8 l.rest);
  room : HasRoom (length (chars l.rest)) l.position;
  warned : Warned l.fn.position l.position l.fn.warnings.items l.warnings.items
      (λ b. comment_warnings b (chars l.fn.comment))
      (λ b. comment_warnings b (chars l.rest));
}
