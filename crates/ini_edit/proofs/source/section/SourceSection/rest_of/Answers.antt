use Rattle.std.proofs.Common.{◌∙◌, ◌++◌, ap, chars, get_or, sym}
use Rattle.std.proofs.lemmas.Result.{IfOk-weaker}
use Rattle.std.proofs.lemmas.Str.{chars-nil}
use Rattle.ini_edit.specs.SourceEditsDelete.{empty_comment, gap_after, line_end_after, lines_after}
use Rattle.ini_edit.proofs.CharsLemmas.{chars-feed}
use Rattle.ini_edit.proofs.DeletedStepLemmas.{last_of_place, put_at_place, taken_apart, taken_left}
use Rattle.ini_edit.proofs.SourcePlaceLemmas.{place_read}
use Rattle.ini_edit.proofs.source.section.SourceSection.rest_of.Goals as goal

pub returns-then-is_kept_apart-clause-put : goal.returns-then-is_kept_apart-clause-put
returns-then-is_kept_apart-clause-put c = λ p at.
    let o = c.args.read in
    let s = c.args.self.now in
    let here = place_read at (c.index-pair.ensures
    ∙ ap (λ s. get_or s.pairs c.args.index c.index-pair.result.now) c.self.view_is) in
    let lines = chars c.to_line_feed.result.now in
    let gap = chars c.as_str.result.now in
    IfOk-weaker c.rest_put.result _ _
    (λ new put. put_at_place o s at here new lines gap put
    ∙ taken_apart o c.args.front s p (c.last_before-last.ensures ∙ last_of_place o s at here c.args.front)
    (sym (c.is_kept_apart.ensures p at) ∙ c.if-is_kept_apart.true) c.to_line_feed.ensures
    (c.end-end.ensures.gap ∙ ap (gap_after o) here)
    (ap chars c.as_str.ensures.value ∙ c.in_ok-gap.ensures.text
    ∙ ap (λ e. empty_comment e ++ chars c.end-end.result.gap.now) chars-feed))
    c.rest_put.ensures.put

pub returns-clause-put : goal.returns-clause-put
returns-clause-put c = λ p at.
    let o = c.args.read in
    let s = c.args.self.now in
    let here = place_read at (c.index-pair.ensures
    ∙ ap (λ s. get_or s.pairs c.args.index c.index-pair.result.now) c.self.view_is) in
    let is = c.end-end.ensures in
    let lines = chars c.as_str-2.result.now in
    let gap = chars c.end-end.result.gap.now in
    let first = c.in_ok-push_text.ensures.pushed
    ∙ ap (λ t. t ++ chars c.line_end_left.result.now) (ap chars c.new-lines.ensures.bytes ∙ chars-nil)
    ∙ c.line_end_left.ensures in
    IfOk-weaker c.rest_put-2.result _ _
    (λ new put. put_at_place o s at here new lines gap put
    ∙ taken_left o c.args.front s p (c.last_before-last.ensures ∙ last_of_place o s at here c.args.front)
    (sym (c.is_kept_apart.ensures p at) ∙ c.if-is_kept_apart.false)
    (is.line_end ∙ ap (line_end_after o) here) (is.lines ∙ ap (lines_after o) here)
    (is.gap ∙ ap (gap_after o) here) first
    (ap chars c.as_str-2.ensures.value ∙ c.in_ok-push_text-2.ensures.pushed))
    c.rest_put-2.ensures.put
