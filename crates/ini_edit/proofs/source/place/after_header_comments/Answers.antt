use Rattle.std.proofs.Common.{◌≡◌, ◌∙◌, ◌||◌, ap, ap₂, chars, eq-eqb, false, ne_eqb, not, subst, sym, true}
use Rattle.std.proofs.lemmas.Bool.{cond-false, cond-true, or_from, or_left, or_right}
use Rattle.std.proofs.lemmas.Str.{chars-nil}
use Rattle.ini_text.specs.Grammar.CharacterKinds.{carriage_return, is_line_feed, line_feed}
use Rattle.ini_text.specs.Grammar.Positions.{is_column_one, last_or}
use Rattle.ini_text.specs.Parsing.Fronts.{IsRest, front_of}
use Rattle.ini_edit.specs.SourceLines.{after_comments, after_line, is_empty}
use Rattle.ini_edit.proofs.GapPlaceLemmas.{same_place}
use Rattle.ini_edit.proofs.SourceLineLemmas.{after_comments-rest, after_line-rest, last_if_some, rest_of_rest}
use Rattle.ini_edit.proofs.source.place.after_header_comments.Goals.{then-is_empty-via-then-is_empty}
use Rattle.ini_edit.proofs.source.place.after_header_comments.Goals.{then-is_empty-via-else-is_empty+then-last_or-ne10}
use Rattle.ini_edit.proofs.source.place.after_header_comments.Goals as goal

pub front_before-comments-requires : goal.front_before-comments-requires
front_before-comments-requires c =
    let line = chars c.after_header-header.result.after.now in
    subst (IsRest line) (sym c.after_comments-after.ensures) (after_comments-rest false line)

pub returns-then-is_empty : goal.returns-then-is_empty
returns-then-is_empty c =
    let line = ap (λ p. p.after) c.after_header-header.ensures in
    let rest = c.after_comments-after.ensures ∙ ap (after_comments false) line in
    let comments = c.front_before-comments.ensures ∙ ap₂ front_of line rest in
    let gap = chars c.args.gap.now in
    let front = ap (λ p. p.before) c.after_header-header.ensures in
    let other : (is_empty (front_of (after_line gap) (after_comments false (after_line gap)))
    || not (is_column_one (front_of gap (after_line gap)))) ≡ true =
    elim c.then-is_empty.branch [
      | then-is_empty-via-then-is_empty w ↦
          or_left _ _ (ap is_empty (sym comments) ∙ sym c.is_empty.ensures ∙ w.if-is_empty.true)
      | then-is_empty-via-else-is_empty+then-last_or-ne10 w ↦
          or_right (is_empty (front_of (after_line gap) (after_comments false (after_line gap)))) _
          (ap not (ne_eqb (last_or line_feed (front_of gap (after_line gap))) line_feed
          (λ e. w.if-last_or-ne10.true (w.last_or.ensures ∙ ap (last_or line_feed) front ∙ e))))
    ] in
    c.after_header-header.ensures ∙ sym (cond-true _ _ _ other)

pub front_before-requires : goal.front_before-requires
front_before-requires c =
    let gap = chars c.args.gap.now in
    let line = ap (λ p. p.after) c.after_header-header.ensures in
    let rest = c.after_comments-after.ensures ∙ ap (after_comments false) line in
    subst (IsRest gap) (sym rest) (rest_of_rest gap (after_line gap) _ (after_line-rest gap)
    (after_comments-rest false (after_line gap)))

pub returns : goal.returns
returns c =
    let gap = chars c.args.gap.now in
    let line = ap (λ p. p.after) c.after_header-header.ensures in
    let rest = c.after_comments-after.ensures ∙ ap (after_comments false) line in
    let comments = c.front_before-comments.ensures ∙ ap₂ front_of line rest in
    let some = sym c.is_empty.ensures ∙ c.if-is_empty.false in
    let front = ap (λ p. p.before) c.after_header-header.ensures in
    same_place (c.front_before.ensures ∙ ap (front_of gap) rest)
    (ap is_line_feed (c.last_or-2.ensures ∙ last_if_some carriage_return line_feed _ some)
    ∙ ap is_column_one comments)
    chars-nil rest
    ∙ sym (cond-false _ _ _ (or_from _ _ (ap is_empty (sym comments) ∙ some)
    (ap not (ap (λ f. is_column_one f) (sym front) ∙ eq-eqb
    (last_or line_feed (chars c.after_header-header.result.before.now)) line_feed
    (sym c.last_or.ensures ∙ c.if-last_or-ne10.false)))))
