use Rattle.std.proofs.Common.{length, chars, ap, ◌∙◌, sym, rules, arith}
use Rattle.ini_text.proofs.StringLemmas.PositionLemmas.{column-feed, line-feed}
use Rattle.ini_check.proofs.PositionLemmas.{over_at, over_room}
use Rattle.ini_check.proofs.position.Position.advance.Goals as goal

pub returns-clause-room : goal.returns-clause-room
returns-clause-room c =
    let i = c.characters.invariant in
    over_room (chars c.args.passed.now) (chars c.characters.rest.now) c.args.self
    record { line = c.characters.line; column = c.characters.column } c.in_default.ensures.characters
    i.line i.column

pub returns-clause-at : goal.returns-clause-at
returns-clause-at c =
    let i = c.characters.invariant in
    over_at (chars c.args.passed.now) (chars c.characters.rest.now) c.args.self
    record { line = c.characters.line; column = c.characters.column } c.in_default.ensures.characters
    i.line i.column

pub characters-preserved-then-c-eq10 : goal.characters-preserved-then-c-eq10
characters-preserved-then-c-eq10 c = record {
  text = search rules;
  line = sym (line-feed c.characters.line c.in-Some.c (chars c.characters.rest.now)
      (chars c.in-Some.after.now) c.in-Some.ensures.characters c.if-c-eq10.true)
      ∙ c.characters.invariant.line;
  column = sym (column-feed c.characters.column c.in-Some.c (chars c.characters.rest.now)
      (chars c.in-Some.after.now) c.in-Some.ensures.characters c.if-c-eq10.true)
      ∙ c.characters.invariant.column;
  line_fits = omega (arith, ap length c.in-Some.ensures.characters);
  column_fits = omega (arith, ap length c.in-Some.ensures.characters);
}
