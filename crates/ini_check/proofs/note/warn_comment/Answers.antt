use Rattle.std.proofs.Common.{◌∷◌, [], ap, append-nil, arith, chars, length, refl, rules, sym, ◌∙◌}
use Rattle.ini_check.specs.Warnings.{comment_warnings, warning}
use Rattle.ini_check.specs.declared.warning.Trap.TheVariants.{LoneCr}
use Rattle.ini_check.proofs.NoteLemmas.{comment_passes, comment_swallows, warned_end, warned_last}
use Rattle.ini_check.proofs.NoteLemmas.{warned_start, warned_step}
use Rattle.ini_check.proofs.PositionLemmas.{room_less}
use Rattle.ini_check.proofs.note.warn_comment.Goals as goal

pub characters-init : goal.characters-init
characters-init c = record {
  text = search rules;
  room = c.requires.room;
  warned = warned_start refl refl (λ b. refl);
}

pub after-requires : goal.after-requires
after-requires c =
    room_less (omega (arith, ap length c.in-Some.ensures.characters)) c.characters.invariant.room

pub after-position-requires : goal.after-position-requires
after-position-requires c =
    room_less (omega (arith, ap length c.in-Some.ensures.characters)) c.characters.invariant.room

pub characters-preserved : goal.characters-preserved
characters-preserved c =
    let x = c.in-Some.c in
    let cs = chars c.in-Some.after.now in
    record {
      text = search rules;
      room = c.after-position.ensures.room (length cs)
          (room_less (omega (arith, ap length c.in-Some.ensures.characters)) c.characters.invariant.room);
      warned = warned_step c.characters.invariant.warned x (λ b. []) (λ b. comment_warnings b cs)
          (comment_passes c.in-Some.ensures.characters
          (sym c.swallows_line.ensures ∙ c.if-swallows_line.false))
          (λ b at. sym (append-nil c.characters.warnings.items)) c.after-position.ensures.at;
    }

pub returns-clause-warned : goal.returns-clause-warned
returns-clause-warned c =
    warned_end c.characters.invariant.warned
    (λ b. ap (comment_warnings b) c.in_default.ensures.characters)

pub returns-then-swallows_line-clause-warned : goal.returns-then-swallows_line-clause-warned
returns-then-swallows_line-clause-warned c =
    let x = c.in-Some.c in
    warned_last c.characters.invariant.warned (λ b. warning b (x ∷ []) LoneCr ∷ [])
    (comment_swallows c.in-Some.ensures.characters (sym c.swallows_line.ensures ∙ c.if-swallows_line.true))
    (λ b at. c.in_ok-push.ensures.warned b (x ∷ []) at (c.after.ensures.at b at))
