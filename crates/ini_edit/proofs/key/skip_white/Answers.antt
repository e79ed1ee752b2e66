use Rattle.std.proofs.Common.{◌∙◌, rules, sym}
use Rattle.ini_edit.proofs.KeyEdgeLemmas.{white_more}
use Rattle.ini_edit.proofs.key.skip_white.Goals as goal

pub characters-preserved : goal.characters-preserved
characters-preserved c = record {
  text = search rules;
  begins = white_more c.in-Some.c c.characters.invariant.begins c.in-Some.ensures.characters
      (sym c.is_whitespace.ensures ∙ c.if-not-is_whitespace.false);
}
