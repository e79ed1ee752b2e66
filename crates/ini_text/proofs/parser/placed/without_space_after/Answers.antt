use Rattle.std.proofs.Common.{chars, ◌∙◌, sym, rules}
use Rattle.ini_text.proofs.PlaceLemmas.SpaceAfterLemmas.{space_none, space_more, space_escaped, space_bare}
use Rattle.ini_text.proofs.PlaceLemmas.SpaceAfterLemmas.{space_all, shorter_before}
use Rattle.ini_text.proofs.parser.placed.without_space_after.Goals as goal

pub white-init : goal.white-init
white-init c = record { text = search rules; space = space_none (chars c.args.lines.now) }

pub returns-then-begins_escape : goal.returns-then-begins_escape
returns-then-begins_escape c =
    space_escaped (chars c.in-Some.before.now) c.in-Some.c c.white.invariant.space c.in-Some.ensures
    (sym c.begins_escape.ensures ∙ c.if-begins_escape.true)

pub returns-then-not-contains : goal.returns-then-not-contains
returns-then-not-contains c =
    space_bare (chars c.in-Some.before.now) c.in-Some.c c.white.invariant.space c.in-Some.ensures
    (sym c.begins_escape.ensures ∙ c.if-begins_escape.false) (sym c.contains.ensures ∙ c.if-not-contains.true)

pub white-smaller : goal.white-smaller
white-smaller c = shorter_before (chars c.in-Some.before.now) c.in-Some.c c.in-Some.ensures

pub white-preserved : goal.white-preserved
white-preserved c = record {
  text = search rules;
  space =
      space_more c.in-Some.c c.white.invariant.space c.in-Some.ensures
      (sym c.contains.ensures ∙ c.if-not-contains.false);
}

pub returns : goal.returns
returns c = space_all c.white.invariant.space c.in_default.ensures
