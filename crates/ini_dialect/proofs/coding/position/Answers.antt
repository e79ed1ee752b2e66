use Rattle.std.proofs.Common.{◌∙◌, ap, arith, chars, length, refl, rules, sym}
use Rattle.ini_text.proofs.StringLemmas.PositionLemmas.{characters_fit, column-feed, column-front, line-feed}
use Rattle.ini_dialect.proofs.coding.position.Goals as goal

pub characters-init : goal.characters-init
characters-init c = record {
  text = search rules;
  line = refl;
  column = column-front (chars c.args.front.now);
  line_fits = omega (arith, characters_fit c.args.front.now c.utf8.front);
  column_fits = omega (arith, characters_fit c.args.front.now c.utf8.front);
}

pub characters-preserved-then-c-eq10 : goal.characters-preserved-then-c-eq10
characters-preserved-then-c-eq10 c = record {
  text = search rules;
  line = sym (line-feed c.characters.line c.in-Some.c (chars c.characters.rest.now)
      (chars c.in-Some.after.now) c.in-Some.ensures.characters c.if-c-eq10.true)
      ∙ c.characters.invariant.line;
  column = sym (column-feed c.characters.column c.in-Some.c (chars c.characters.rest.now)
      (chars c.in-Some.after.now) c.in-Some.ensures.characters c.if-c-eq10.true)
      ∙ c.characters.invariant.column;
  line_fits = omega (arith, ap length c.in-Some.ensures.characters);
  column_fits = omega (arith, ap length c.in-Some.ensures.characters);
}
