use Rattle.std.proofs.Common.{◌≡◌, ◌∙◌, ◌++◌, ap, chars, subst, sym}
use Rattle.ini_text.specs.Parsing.Fronts.{IsRest}
use Rattle.ini_text.proofs.StringLemmas.FrontLemmas.{front_is}
use Rattle.ini_edit.specs.SourceEditsSections.{rest_before_header}
use Rattle.ini_edit.specs.SourceLines.{comments_at_end}
use Rattle.ini_edit.specs.SourcePlaces.{last_before_gap, last_gap}
use Rattle.ini_edit.proofs.SourceEndLemmas.{comments_and_indentation, cut_rest_is, parts_whole, take_count}
use Rattle.ini_edit.proofs.SourceLineLemmas.{comments_at_end-rest, indentation_at_end-rest}
use Rattle.ini_edit.proofs.source.section.SourceSection.rest_before_header.Goals as goal

pub front_before-before_indentation-requires : goal.front_before-before_indentation-requires
front_before-before_indentation-requires c =
    let gap = chars c.last_gap-gap.result.now in
    subst (IsRest gap) (sym c.indentation_at_end-indentation.ensures)
    (indentation_at_end-rest c.last_before_gap-before_gap.result gap)

pub front_before-before-requires : goal.front_before-before-requires
front_before-before-requires c =
    let front = chars c.front_before-before_indentation.result.now in
    subst (IsRest front) (sym c.comments_at_end-comments.ensures)
    (comments_at_end-rest c.last_before_gap-before_gap.result front)

pub returns-clause-gap : goal.returns-clause-gap
returns-clause-gap c =
    let s = c.args.self.now in
    let gap = chars c.last_gap-gap.result.now in
    let last = c.last_before_gap-before_gap.result in
    let indentation = chars c.indentation_at_end-indentation.result.now in
    let front = chars c.front_before-before_indentation.result.now in
    let comments = chars c.comments_at_end-comments.result.now in
    let before = chars c.front_before-before.result.now in
    let whole : before ++ (comments ++ indentation) ≡ gap = parts_whole indentation comments
    (subst (IsRest gap) (sym c.indentation_at_end-indentation.ensures) (indentation_at_end-rest last gap))
    c.front_before-before_indentation.ensures
    (subst (IsRest front) (sym c.comments_at_end-comments.ensures) (comments_at_end-rest last front))
    c.front_before-before.ensures in
    c.cut_after.ensures.rest ∙ cut_rest_is before (comments ++ indentation) whole
    ∙ comments_and_indentation last gap indentation comments c.indentation_at_end-indentation.ensures
    (c.comments_at_end-comments.ensures
    ∙ ap (comments_at_end last) c.front_before-before_indentation.ensures)
    ∙ ap (λ l. rest_before_header l gap) (c.last_before_gap-before_gap.ensures
    ∙ ap (last_before_gap c.args.front s) (take_count s.pairs c.count.result c.count.ensures))
    ∙ ap (rest_before_header (last_before_gap c.args.front s s.pairs)) c.last_gap-gap.ensures

pub returns-clause-before : goal.returns-clause-before
returns-clause-before c =
    let gap = chars c.last_gap-gap.result.now in
    let last = c.last_before_gap-before_gap.result in
    let indentation = chars c.indentation_at_end-indentation.result.now in
    let front = chars c.front_before-before_indentation.result.now in
    let comments = chars c.comments_at_end-comments.result.now in
    let before = chars c.front_before-before.result.now in
    let rest = chars c.cut_after.result.1.now in
    let whole : before ++ (comments ++ indentation) ≡ gap = parts_whole indentation comments
    (subst (IsRest gap) (sym c.indentation_at_end-indentation.ensures) (indentation_at_end-rest last gap))
    c.front_before-before_indentation.ensures
    (subst (IsRest front) (sym c.comments_at_end-comments.ensures) (comments_at_end-rest last front))
    c.front_before-before.ensures in
    sym (front_is before rest (last_gap c.args.self.now)
    (ap (λ r. before ++ r) (c.cut_after.ensures.rest ∙ cut_rest_is before (comments ++ indentation) whole)
    ∙ whole ∙ c.last_gap-gap.ensures))
