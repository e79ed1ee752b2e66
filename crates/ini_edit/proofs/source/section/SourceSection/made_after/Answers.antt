use Rattle.std.proofs.Common.{◌≡◌, ◌∙◌, ◌++◌, ap, chars, false, get_or, IfOk, not, subst, sym}
use Rattle.std.proofs.lemmas.Bool.{cond-false, cond-true}
use Rattle.ini_text.specs.Options.WriteOptions.{line_end}
use Rattle.ini_text.specs.Parsing.Items.{string_text}
use Rattle.ini.proofs.WritingLemmas.{chars-line_end}
use Rattle.ini_edit.specs.Inside.SourceEnds.{made_pair}
use Rattle.ini_edit.specs.SourceEditsAdd.{end_after, made_after}
use Rattle.ini_edit.specs.SourceEditsDelete.{begin_with_blank, empty_comment, gap_after, line_end_after}
use Rattle.ini_edit.specs.SourceEditsDelete.{lines_after, would_be_taken}
use Rattle.ini_edit.proofs.SourcePlaceLemmas.{place_drop_more, place_read}
use Rattle.ini_edit.proofs.source.section.SourceSection.made_after.Goals as goal

pub returns-then-would_be_taken-clause-made : goal.returns-then-would_be_taken-clause-made
returns-then-would_be_taken-clause-made c = λ p at.
    let o = c.args.read in
    let end = line_end c.args.end in
    let make = made_pair o c.args.pair in
    let old = place_read at (c.index-before.ensures
    ∙ ap (λ s. get_or s.pairs c.args.index c.index-before.result.now) c.self.view_is) in
    let next = c.is_before_blank.ensures ∙ ap begin_with_blank (place_drop_more at) in
    let takes = sym (c.would_be_taken.ensures p.after next ∙ ap (λ q. would_be_taken o q p.after) old)
    ∙ c.if-would_be_taken.true in
    let lines : string_text c.in_ok-lines.lines ≡ end =
    ap chars c.in_ok-lines.ensures.ok ∙ ap chars c.as_str.ensures ∙ chars-line_end c.args.end in
    let kept : chars c.as_str-then-would_be_taken-2.result.now ≡ empty_comment end ++ gap_after o p.here =
    ap chars c.as_str-then-would_be_taken-2.ensures.value ∙ c.in_ok-gap.ensures.text
    ∙ ap (λ e. empty_comment e ++ chars c.end-old.result.gap.now)
    (ap chars c.as_str-then-would_be_taken.ensures ∙ chars-line_end c.args.end)
    ∙ ap (λ g. empty_comment end ++ g) (c.end-old.ensures.gap ∙ ap (gap_after o) old) in
    subst (λ x. IfOk c.before-then-would_be_taken.result (λ new. new ≡ x))
    (ap (λ l. make false l (chars c.as_str-then-would_be_taken-2.result.now)) lines ∙ ap (make false end) kept
    ∙ sym (cond-true (would_be_taken o p.here p.after) _ _ takes)) c.before-then-would_be_taken.ensures.pair

pub returns-clause-made : goal.returns-clause-made
returns-clause-made c = λ p at.
    let o = c.args.read in
    let end = line_end c.args.end in
    let make = made_pair o c.args.pair in
    let indented = not o.enabled_indented_mutiline_value in
    let old = place_read at (c.index-before.ensures
    ∙ ap (λ s. get_or s.pairs c.args.index c.index-before.result.now) c.self.view_is) in
    let next = c.is_before_blank.ensures ∙ ap begin_with_blank (place_drop_more at) in
    let leaves = sym (c.would_be_taken.ensures p.after next ∙ ap (λ q. would_be_taken o q p.after) old)
    ∙ c.if-would_be_taken.false in
    let new_end = end_after o end p.here in
    let lines : string_text c.in_ok-lines-2.lines ≡ new_end ++ lines_after o p.here =
    c.in_ok-lines-2.ensures.text
    ∙ ap (λ e. e ++ chars c.end-old.result.lines.now)
    (c.end_after.ensures p.here (c.end-old.ensures.line_end ∙ ap (line_end_after o) old))
    ∙ ap (λ t. new_end ++ t) (c.end-old.ensures.lines ∙ ap (lines_after o) old) in
    subst (λ x. IfOk c.before-2.result (λ new. new ≡ x))
    (ap (λ l. make indented l (chars c.end-old.result.gap.now)) lines
    ∙ ap (make indented (new_end ++ lines_after o p.here)) (c.end-old.ensures.gap ∙ ap (gap_after o) old)
    ∙ sym (cond-false (would_be_taken o p.here p.after) _ _ leaves)) c.before-2.ensures.pair
