use Rattle.std.proofs.Common.{chars, ◌∙◌, rules}
use Rattle.ini_text.proofs.StringLemmas.LineFeedLemmas.{feeds_skipped, one_feed, feeds_done, feeds_none}
use Rattle.ini_text.proofs.StringLemmas.LineFeedLemmas.{shorter_before}
use Rattle.ini_text.proofs.parser.value.without_line_feeds.Goals as goal

pub ends-init : goal.ends-init
ends-init c = record {
  text = search rules;
  value =
      feeds_skipped (chars c.args.text.now) (chars c.skip-rest.result.now) c.skip-rest.ensures;
}

pub returns-then-c-ne10 : goal.returns-then-c-ne10
returns-then-c-ne10 c = feeds_done (chars c.ends.rest.now) (chars c.in-Some.before.now) c.in-Some.c
    c.in-Some.ensures c.if-c-ne10.true ∙ c.ends.invariant.value

pub ends-smaller : goal.ends-smaller
ends-smaller c =
    shorter_before (chars c.ends.rest.now) (chars c.in-Some.before.now) c.in-Some.c c.in-Some.ensures

pub ends-preserved : goal.ends-preserved
ends-preserved c = record {
  text = search rules;
  value =
      one_feed (chars c.ends.rest.now) (chars c.in-Some.before.now) c.in-Some.c c.in-Some.ensures
      c.if-c-ne10.false ∙ c.ends.invariant.value;
}

pub returns : goal.returns
returns c = feeds_none (chars c.ends.rest.now) c.in_default.ensures ∙ c.ends.invariant.value
