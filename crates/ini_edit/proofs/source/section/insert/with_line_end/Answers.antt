use Rattle.std.proofs.Common.{◌∙◌, ◌++◌, [], ap, append-nil, chars, sym}
use Rattle.std.proofs.lemmas.Bool.{cond-false, cond-true}
use Rattle.ini_text.specs.Options.WriteOptions.{line_end}
use Rattle.ini_text.specs.Parsing.Items.{string_text}
use Rattle.ini.proofs.WritingLemmas.{chars-line_end}
use Rattle.ini_edit.proofs.source.section.insert.with_line_end.Goals.{then-not-starts+in_ok-push_text}
use Rattle.ini_edit.proofs.source.section.insert.with_line_end.Goals.{else-not-starts}
use Rattle.ini_edit.proofs.source.section.insert.with_line_end.Goals as goal

pub returns-clause-text : goal.returns-clause-text
returns-clause-text c =
    let text = chars c.args.text.now in
    let end = line_end c.args.end in
    let old = ap chars c.in_ok-new.ensures.ok in
    elim c.if-not-starts.branch [
      | then-not-starts+in_ok-push_text w ↦
          ap string_text w.new-is ∙ w.in_ok-push_text.ensures.pushed ∙ ap (λ t. t ++ chars
          w.as_str.result.now) old
          ∙ ap (λ e. text ++ e) (ap chars w.as_str.ensures ∙ chars-line_end c.args.end
          ∙ sym (cond-false c.args.starts [] end w.if-not-starts.true))
      | else-not-starts w ↦
          ap string_text w.new-is ∙ old ∙ sym (append-nil text)
          ∙ ap (λ e. text ++ e) (sym (cond-true c.args.starts [] end w.if-not-starts.false))
    ]
