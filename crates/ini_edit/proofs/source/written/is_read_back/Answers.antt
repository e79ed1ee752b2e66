use Rattle.std.proofs.Common.{◌≡◌, ◌∙◌, ap, chars}
use Rattle.std.proofs.lemmas.Bool.{false≢true}
use Rattle.ini_edit.proofs.TriedLineLemmas.{never_ends, stands_tried, stops_tried, tried_made, tried_text}
use Rattle.ini_edit.proofs.source.written.is_read_back.Goals as goal

pub returns-in-Ok-Some-clause-read : goal.returns-in-Ok-Some-clause-read
returns-in-Ok-Some-clause-read c =
    let n = c.new-parser.ensures in
    let text : c.new-parser.result.text ≡ tried_text (chars c.args.source.now) =
    n.text ∙ tried_made (chars c.args.source.now) (ap chars c.in_ok-line.ensures.ok)
    c.in_ok-push_text.ensures.pushed
    (ap chars c.as_str.ensures.value ∙ c.in_ok-push_text-2.ensures.pushed) in
    let at = stands_tried c.in-Ok-Some.element n.option text n.front
    (rw c.in-Ok-Some.field-0-is at (c.in-Ok-Some.ensures.element n.refusal)) in
    let is = c.gives_value.ensures in
    (λ h. at.0 (is.0 h), λ h. is.1 (at.1 h))

pub returns-in-Ok-None-clause-read : goal.returns-in-Ok-None-clause-read
returns-in-Ok-None-clause-read c =
    let n = c.new-parser.ensures in
    let text : c.new-parser.result.text ≡ tried_text (chars c.args.source.now) =
    n.text ∙ tried_made (chars c.args.source.now) (ap chars c.in_ok-line.ensures.ok)
    c.in_ok-push_text.ensures.pushed
    (ap chars c.as_str.ensures.value ∙ c.in_ok-push_text-2.ensures.pushed) in
    never_ends (chars c.args.source.now)
    (rw c.in-Ok-None.field-0-is at (c.in-Ok-None.ensures.element n.refusal)).0 n.front text

pub returns-in-Err-Parse-clause-read : goal.returns-in-Err-Parse-clause-read
returns-in-Err-Parse-clause-read c =
    let n = c.new-parser.ensures in
    let text : c.new-parser.result.text ≡ tried_text (chars c.args.source.now) =
    n.text ∙ tried_made (chars c.args.source.now) (ap chars c.in_ok-line.ensures.ok)
    c.in_ok-push_text.ensures.pushed
    (ap chars c.as_str.ensures.value ∙ c.in_ok-push_text-2.ensures.pushed) in (
      λ h. absurd (false≢true h),
      λ h. absurd (stops_tried n.option text n.front
          (rw c.in-Err-Parse.field-0-is at (c.in-Err-Parse.ensures.element n.refusal)).0 h),
    )
