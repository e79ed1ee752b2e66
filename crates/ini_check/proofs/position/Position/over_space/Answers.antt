use Rattle.std.proofs.Common.{◌≡◌, ◌∙◌, ap, arith, chars, length, rules, sym, true}
use Rattle.std.proofs.lemmas.Bool.{cond-true}
use Rattle.ini_text.specs.Grammar.CharacterKinds.{is_inline_white}
use Rattle.ini_check.specs.Traps.Values.{space_of, value_of}
use Rattle.ini_check.proofs.PositionLemmas.{over_step, room_less}
use Rattle.ini_check.proofs.position.Position.over_space.Goals as goal

pub characters-preserved : goal.characters-preserved
characters-preserved c =
    let x = c.in-Some.c in
    let h = c.in-Some.ensures.characters in
    let white : is_inline_white x ≡ true = sym c.is_inline_white.ensures ∙ c.if-not-is_inline_white.false in
    record {
      text = search rules;
      room = c.after-position.ensures.room (length (chars c.in-Some.after.now))
          (room_less (omega (arith, ap length h)) c.characters.invariant.room);
      value = sym (ap value_of h ∙ cond-true (is_inline_white x) _ _ white) ∙ c.characters.invariant.value;
      over = over_step c.characters.invariant.over x
          (ap space_of h ∙ cond-true (is_inline_white x) _ _ white) c.after-position.ensures.at;
    }
