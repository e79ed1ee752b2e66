use Rattle.std.proofs.Common.{chars, rules, sym}
use Rattle.std.proofs.lemmas.Bool.{cond-false, cond-true}
use Rattle.ini_edit.proofs.SourceLineWalkLemmas.{blanks_start, blanks_step}
use Rattle.ini_edit.proofs.source.lines.blanks_at_end.Goals as goal

pub characters-init : goal.characters-init
characters-init c = record {
  blanks = search rules;
  rest = search rules;
  so_far = blanks_start (chars c.args.text.now);
}

pub characters-preserved-then-not-is_blank : goal.characters-preserved-then-not-is_blank
characters-preserved-then-not-is_blank c = record {
  blanks = search rules;
  rest = search rules;
  so_far = blanks_step (chars c.characters.blanks.now) c.in-Some.ensures.characters
      (sym (cond-false _ _ _ (sym c.if-not-is_blank.ensures))) c.characters.invariant.so_far;
}

pub characters-preserved : goal.characters-preserved
characters-preserved c = record {
  blanks = search rules;
  rest = search rules;
  so_far = blanks_step (chars c.characters.blanks.now) c.in-Some.ensures.characters
      (sym (cond-true _ _ _ (sym c.if-not-is_blank.ensures))) c.characters.invariant.so_far;
}
