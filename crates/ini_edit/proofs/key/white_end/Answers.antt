use Rattle.std.proofs.Common.{◌∙◌, chars, rules, sym}
use Rattle.ini_edit.proofs.KeyEdgeLemmas.{so_far_none, so_far_other, so_far_white}
use Rattle.ini_edit.proofs.key.white_end.Goals as goal

pub characters-init : goal.characters-init
characters-init c = record {
  white = search rules;
  rest = search rules;
  so_far = so_far_none c.args.line (chars c.args.text.now);
}

pub characters-preserved-then-not-is_key_white : goal.characters-preserved-then-not-is_key_white
characters-preserved-then-not-is_key_white c = record {
  white = search rules;
  rest = search rules;
  so_far = so_far_other c.in-Some.c c.characters.invariant.so_far c.in-Some.ensures.characters
      (sym c.is_key_white.ensures ∙ c.if-not-is_key_white.true);
}

pub characters-preserved : goal.characters-preserved
characters-preserved c = record {
  white = search rules;
  rest = search rules;
  so_far = so_far_white c.in-Some.c c.characters.invariant.so_far c.in-Some.ensures.characters
      (sym c.is_key_white.ensures ∙ c.if-not-is_key_white.false);
}
