use Rattle.std.proofs.Common.{◌≡◌, ◌∙◌, Some, ap, arith, chars, false, not, subst, sym, true}
use Rattle.std.proofs.lemmas.Str.{chars-nil}
use Rattle.ini_text.specs.Parsing.Fronts.{IsRest, front_of}
use Rattle.ini_edit.specs.SourceLines.{is_empty, line_end_at_end}
use Rattle.ini_edit.proofs.GapPlaceLemmas.{indents, past_none, past_some, same_place}
use Rattle.ini_edit.proofs.SourceLineLemmas.{after_blank_lines-rest, rest_of_rest}
use Rattle.ini_edit.proofs.source.place.past_blank_lines.Goals as goal

pub returns-then-not-is_empty-2 : goal.returns-then-not-is_empty-2
returns-then-not-is_empty-2 c =
    let lines = chars c.split_blank_lines.result.0.now in
    let after = chars c.split_blank_lines.result.1.now in
    let refused : indents lines after ≡ true = grind arith in
    past_none (chars c.args.gap.now) (chars c.args.rest.now) (rw (
      ← c.split_blank_lines.ensures.lines,
      ← c.split_blank_lines.ensures.rest,
    ) refused)

pub front_before-requires : goal.front_before-requires
front_before-requires c =
    let gap = chars c.args.gap.now in
    let rest = chars c.args.rest.now in
    subst (IsRest gap) (sym c.split_blank_lines.ensures.rest)
    (rest_of_rest gap rest _ c.requires (after_blank_lines-rest rest))

pub returns : goal.returns
returns c =
    let gap = chars c.args.gap.now in
    let lines = chars c.split_blank_lines.result.0.now in
    let after = chars c.split_blank_lines.result.1.now in
    let free : indents lines after ≡ false = grind arith in
    ap (λ p. Some p)
    (same_place (c.front_before.ensures ∙ ap (front_of gap) c.split_blank_lines.ensures.rest)
    (ap not (c.is_empty-2.ensures ∙ ap is_empty (c.line_end_at_end.ensures
    ∙ ap line_end_at_end c.split_blank_lines.ensures.lines)))
    chars-nil c.split_blank_lines.ensures.rest)
    ∙ past_some gap (chars c.args.rest.now) (rw (
      ← c.split_blank_lines.ensures.lines,
      ← c.split_blank_lines.ensures.rest,
    ) free)
