use Rattle.std.proofs.Common.{◌≢◌, ◌∙◌, ap, ap₂, chars, false, refl, subst, sym}
use Rattle.std.proofs.lemmas.Str.{chars-nil}
use Rattle.ini_text.specs.Grammar.CharacterKinds.{carriage_return, line_feed}
use Rattle.ini_text.specs.Grammar.Positions.{last_or}
use Rattle.ini_text.specs.Parsing.Fronts.{IsRest, front_of}
use Rattle.ini_edit.specs.SourceLines.{after_comments, after_line_end, is_empty}
use Rattle.ini_edit.proofs.GapPlaceLemmas.{licence_ends, licence_goes_on, licence_none, same_place}
use Rattle.ini_edit.proofs.SourceLineLemmas.{after_comments-rest, after_line_end-rest, rest_of_rest}
use Rattle.ini_edit.proofs.source.place.after_licence.Goals as goal

pub front_before-comments-requires : goal.front_before-comments-requires
front_before-comments-requires c =
    let gap = chars c.args.gap.now in
    subst (IsRest gap) (sym c.after_comments-rest.ensures) (after_comments-rest false gap)

pub front_before-requires : goal.front_before-requires
front_before-requires c =
    let rest = chars c.after_comments-rest.result.now in
    subst (IsRest rest) (sym c.after_line_end-after.ensures) (after_line_end-rest rest)

pub returns-then-is_empty : goal.returns-then-is_empty
returns-then-is_empty c =
    let gap = chars c.args.gap.now in
    let rest = c.after_comments-rest.ensures in
    let after = c.after_line_end-after.ensures ∙ ap after_line_end rest in
    let comments = c.front_before-comments.ensures ∙ ap (front_of gap) rest in
    elim c.then-is_empty.branch [
      | goal.then-is_empty-via-then-is_empty w ↦
          c.at_front.ensures
          ∙ licence_none gap (ap is_empty (sym comments) ∙ sym c.is_empty.ensures ∙ w.if-is_empty.true)
      | goal.then-is_empty-via-else-is_empty+then-last_or-ne10 w ↦
          let line = w.front_before.ensures ∙ ap₂ front_of rest after in
          c.at_front.ensures ∙ licence_goes_on gap (subst (λ t. last_or carriage_return t ≢ line_feed) line
          (λ e. w.if-last_or-ne10.true (w.last_or.ensures ∙ e)))
    ]

pub front_before-requires-2 : goal.front_before-requires-2
front_before-requires-2 c =
    let gap = chars c.args.gap.now in
    let after = c.after_line_end-after.ensures ∙ ap after_line_end c.after_comments-rest.ensures in
    subst (IsRest gap) (sym after) (rest_of_rest gap (after_comments false gap) _
    (after_comments-rest false gap) (after_line_end-rest (after_comments false gap)))

pub returns : goal.returns
returns c =
    let gap = chars c.args.gap.now in
    let rest = c.after_comments-rest.ensures in
    let after = c.after_line_end-after.ensures ∙ ap after_line_end rest in
    let comments = c.front_before-comments.ensures ∙ ap (front_of gap) rest in
    let line = c.front_before.ensures ∙ ap₂ front_of rest after in
    same_place (c.front_before-2.ensures ∙ ap (front_of gap) after) refl chars-nil after
    ∙ licence_ends gap (ap is_empty (sym comments) ∙ sym c.is_empty.ensures ∙ c.if-is_empty.false)
    (ap (last_or carriage_return) (sym line) ∙ sym c.last_or.ensures ∙ c.if-last_or-ne10.false)
