use Rattle.std.proofs.Common.{◌∙◌, ap, arith, chars, length, rules, sym}
use Rattle.std.proofs.lemmas.Bool.{cond-false}
use Rattle.ini_text.specs.Grammar.CharacterKinds.{is_line_end}
use Rattle.ini_check.specs.Traps.Values.{first_line}
use Rattle.ini_check.proofs.PositionLemmas.{over_step, room_less}
use Rattle.ini_check.proofs.position.Position.over_line.Goals as goal

pub characters-preserved : goal.characters-preserved
characters-preserved c =
    let x = c.in-Some.c in
    let h = c.in-Some.ensures.characters in
    record {
      text = search rules;
      room = c.after-position.ensures.room (length (chars c.in-Some.after.now))
          (room_less (omega (arith, ap length h)) c.characters.invariant.room);
      over = over_step c.characters.invariant.over x
          (ap first_line h
          ∙ cond-false (is_line_end x) _ _ (sym c.is_line_end.ensures ∙ c.if-is_line_end.false))
          c.after-position.ensures.at;
    }
