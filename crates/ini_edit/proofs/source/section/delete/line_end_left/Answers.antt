use Rattle.std.proofs.Common.{◌∙◌, chars, sym}
use Rattle.std.proofs.lemmas.Str.{chars-nil}
use Rattle.ini_edit.proofs.CommentPartLemmas.{chars-blank_return}
use Rattle.ini_edit.proofs.DeletedStepLemmas.{left_blank, left_none, left_whole}
use Rattle.ini_edit.proofs.source.section.delete.line_end_left.Goals as goal

pub returns-then-goes_with_line_end : goal.returns-then-goes_with_line_end
returns-then-goes_with_line_end c =
    let end = c.args.end in
    chars-nil
    ∙ left_none c.args.read.enabled_indented_mutiline_value c.args.last (chars end.line_end.now)
    (chars end.lines.now) (chars end.gap.now)
    (sym c.goes_with_line_end.ensures ∙ c.if-goes_with_line_end.true)

pub returns-then-takes_blank : goal.returns-then-takes_blank
returns-then-takes_blank c =
    let end = c.args.end in
    chars-blank_return
    ∙ left_blank c.args.read.enabled_indented_mutiline_value c.args.last (chars end.line_end.now)
    (chars end.lines.now) (chars end.gap.now)
    (sym c.goes_with_line_end.ensures ∙ c.if-goes_with_line_end.false)
    (sym c.takes_blank.ensures ∙ c.if-takes_blank.true)

pub returns : goal.returns
returns c =
    let end = c.args.end in
    left_whole c.args.read.enabled_indented_mutiline_value c.args.last (chars end.line_end.now)
    (chars end.lines.now) (chars end.gap.now)
    (sym c.goes_with_line_end.ensures ∙ c.if-goes_with_line_end.false)
    (sym c.takes_blank.ensures ∙ c.if-takes_blank.false)
