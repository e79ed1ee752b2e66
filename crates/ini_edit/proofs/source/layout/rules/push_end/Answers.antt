use Rattle.std.proofs.Common.{◌∙◌, ◌++◌, ap, append-nil, chars, sym}
use Rattle.std.proofs.lemmas.Bool.{cond-false, cond-true}
use Rattle.ini.proofs.WritingLemmas.{chars-line_end}
use Rattle.ini_text.specs.Parsing.Items.{string_text}
use Rattle.ini_edit.specs.SourceLayout.{takes_no_end}
use Rattle.ini_edit.proofs.source.layout.rules.push_end.Goals as goal

pub returns-then-takes_no_end-clause-pushed : goal.returns-then-takes_no_end-clause-pushed
returns-then-takes_no_end-clause-pushed c =
    let text = string_text c.args.out.now in
    let takes = sym (ap (λ b. takes_no_end c.args.rules.now.read (chars b)) c.as_str.ensures.value)
    ∙ sym c.takes_no_end.ensures ∙ c.if-takes_no_end.true in
    sym (append-nil text) ∙ ap (λ t. text ++ t) (sym (cond-true _ _ _ takes))

pub returns-clause-pushed : goal.returns-clause-pushed
returns-clause-pushed c =
    let text = string_text c.args.out.now in
    let takes = sym (ap (λ b. takes_no_end c.args.rules.now.read (chars b)) c.as_str.ensures.value)
    ∙ sym c.takes_no_end.ensures ∙ c.if-takes_no_end.false in
    c.in_ok-push_text.ensures.pushed
    ∙ ap (λ t. text ++ t) (ap chars c.as_str-2.ensures ∙ chars-line_end c.args.rules.now.line_end
    ∙ sym (cond-false _ _ _ takes))
