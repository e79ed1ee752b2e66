use Rattle.std.proofs.Common.{◌∷◌, [], ap, arith, chars, length, refl, rules}
use Rattle.ini_check.specs.Warnings.{inner_warnings, warned_of}
use Rattle.ini_check.proofs.NoteLemmas.{inner_splits, warned_end, warned_start, warned_step}
use Rattle.ini_check.proofs.PositionLemmas.{room_less}
use Rattle.ini_check.proofs.note.warn_within.Goals as goal

pub characters-init : goal.characters-init
characters-init c = record {
  text = search rules;
  room = c.requires.room;
  warned = warned_start refl refl (λ b. refl);
}

pub warn_character-requires : goal.warn_character-requires
warn_character-requires c = record {
  room = room_less (omega (arith, ap length c.in-Some.ensures.characters)) c.characters.invariant.room;
}

pub after-position-requires : goal.after-position-requires
after-position-requires c =
    room_less (omega (arith, ap length c.in-Some.ensures.characters)) c.characters.invariant.room

pub characters-preserved : goal.characters-preserved
characters-preserved c =
    let x = c.in-Some.c in
    let cs = chars c.in-Some.after.now in
    let splits = inner_splits c.args.read c.args.is_list c.characters.state c.next-state.result
    (chars c.characters.rest.now) cs x c.trap_at-trap.result c.in-Some.ensures.characters
    c.trap_at-trap.ensures c.next-state.ensures in
    record {
      text = search rules;
      room = c.after-position.ensures.room (length cs)
          (room_less (omega (arith, ap length c.in-Some.ensures.characters)) c.characters.invariant.room);
      warned = warned_step c.characters.invariant.warned x
          (λ b. warned_of b (x ∷ []) c.trap_at-trap.result)
          (λ b. inner_warnings c.args.read c.args.is_list c.next-state.result b cs)
          splits c.in_ok-warn_character.ensures.warned c.after-position.ensures.at;
    }

pub returns-clause-warned : goal.returns-clause-warned
returns-clause-warned c =
    warned_end c.characters.invariant.warned
    (λ b.
    ap (inner_warnings c.args.read c.args.is_list c.characters.state b) c.in_default.ensures.characters)
