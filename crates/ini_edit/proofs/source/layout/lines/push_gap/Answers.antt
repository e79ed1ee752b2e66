use Rattle.std.proofs.Common.{◌∙◌, ◌++◌, [], ◌∷◌, ap, chars, eq-eqb, false, ne_eqb, rules, sym}
use Rattle.ini_text.specs.Parsing.Fronts.{front_of}
use Rattle.ini_text.specs.Parsing.Items.{string_text}
use Rattle.ini_text.proofs.StringLemmas.FrontLemmas.{front_grows}
use Rattle.ini_edit.specs.Inside.SourceLayouts.{rules_of}
use Rattle.ini_edit.specs.SourceLayout.{laid_lines}
use Rattle.ini_edit.proofs.LayoutLemmas.{blank_step, content_step, feed_step, gap_end, return_step}
use Rattle.ini_edit.proofs.SourceLineLemmas.{all_rest, front_of_all, front_of_none}
use Rattle.ini_edit.proofs.source.layout.lines.push_gap.Goals as goal

pub characters-init : goal.characters-init
characters-init c = record {
  line = search rules;
  rest = search rules;
  is_rest = all_rest (chars c.args.gap.now);
  so_far = ap (λ b. string_text c.args.out.now ++ laid_lines (rules_of c.args.rules.now) c.args.follower
      false 0 b (chars c.args.gap.now)) (front_of_all (chars c.args.gap.now));
}

pub characters-preserved-then-c-eq10 : goal.characters-preserved-then-c-eq10
characters-preserved-then-c-eq10 c = record {
  line = search rules;
  rest = search rules;
  is_rest = all_rest _;
  so_far = feed_step (rules_of c.args.rules.now) c.args.follower c.characters.is_inside
      c.characters.ends (front_of (chars c.characters.line.now) (chars c.characters.rest.now))
      (string_text c.characters.out) c.in-Some.c c.in-Some.ensures.characters
      (eq-eqb _ _ c.if-c-eq10.true) c.one_more-ends.ensures (front_of_all _) c.characters.invariant.so_far;
}

pub characters-preserved-then-is_before_line_feed : goal.characters-preserved-then-is_before_line_feed
characters-preserved-then-is_before_line_feed c = record {
  line = search rules;
  rest = search rules;
  is_rest = all_rest _;
  so_far = return_step (rules_of c.args.rules.now) c.args.follower c.characters.is_inside
      c.characters.ends (front_of (chars c.characters.line.now) (chars c.characters.rest.now))
      (string_text c.characters.out) c.in-Some.c c.in-Some.ensures.characters
      (ne_eqb _ _ c.if-c-eq10.false)
      (sym c.is_before_line_feed.ensures ∙ c.if-is_before_line_feed.true) (front_of_all _)
      c.characters.invariant.so_far;
}

pub characters-preserved-then-is_pending : goal.characters-preserved-then-is_pending
characters-preserved-then-is_pending c =
    let at = c.characters.invariant in
    let grown = front_grows _ _ (c.in-Some.c ∷ []) _ at.is_rest c.in-Some.ensures.characters in
    record {
      line = search rules;
      rest = search rules;
      is_rest = grown.1;
      so_far = blank_step (rules_of c.args.rules.now) c.args.follower c.characters.is_inside
          c.characters.ends (front_of (chars c.characters.line.now) (chars c.characters.rest.now))
          (string_text c.characters.out) c.in-Some.c
          c.in-Some.ensures.characters (ne_eqb _ _ c.if-c-eq10.false)
          (sym c.is_before_line_feed.ensures ∙ c.if-is_before_line_feed.false)
          (sym c.is_pending.ensures ∙ c.if-is_pending.true) grown.0 at.so_far;
    }

pub front_before-requires : goal.front_before-requires
front_before-requires c = c.characters.invariant.is_rest

pub characters-preserved : goal.characters-preserved
characters-preserved c = record {
  line = search rules;
  rest = search rules;
  is_rest = all_rest _;
  so_far = content_step (rules_of c.args.rules.now) c.args.follower c.characters.is_inside
      c.characters.ends (front_of (chars c.characters.line.now) (chars c.characters.rest.now))
      (string_text c.characters.out) c.in-Some.c
      c.in-Some.ensures.characters (ne_eqb _ _ c.if-c-eq10.false)
      (sym c.is_before_line_feed.ensures ∙ c.if-is_before_line_feed.false)
      (sym c.is_pending.ensures ∙ c.if-is_pending.false) (front_of_all _)
      c.in_ok-push_line_ends.ensures.pushed
      (c.in_ok-push_text.ensures.pushed
      ∙ ap (λ b. string_text c.push_line_ends.new.out ++ b) c.front_before.ensures) c.in_ok-push.ensures
      c.characters.invariant.so_far;
}

pub returns-clause-pushed : goal.returns-clause-pushed
returns-clause-pushed c =
    gap_end (rules_of c.args.rules.now) c.args.follower c.characters.is_inside c.characters.ends
    (string_text c.characters.out) c.in_default.ensures.characters
    (ap (front_of (chars c.characters.line.now)) c.in_default.ensures.characters ∙ front_of_none _)
    c.in_ok-push_white.ensures.pushed c.characters.invariant.so_far
