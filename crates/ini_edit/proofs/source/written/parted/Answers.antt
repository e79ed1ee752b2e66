use Rattle.std.proofs.Common.{◌∙◌, ◌++◌, [], ap, chars, sym}
use Rattle.std.proofs.lemmas.Str.{chars-nil}
use Rattle.std.proofs.lemmas.Bool.{cond-false}
use Rattle.ini_text.specs.Parsing.Items.{string_text}
use Rattle.ini_edit.proofs.source.written.parted.Goals as goal

pub returns-clause-parted : goal.returns-clause-parted
returns-clause-parted c =
    let lines = string_text c.args.lines in
    let gap = chars c.args.gap.now in
    ap (λ t. (t, string_text c.push_text.new.out)) (ap chars c.new.ensures.bytes ∙ chars-nil)
    ∙ ap (λ t. ([], t)) c.in_ok-push_text.ensures.pushed
    ∙ sym (cond-false c.args.read.enabled_indented_mutiline_value (lines, gap) ([], lines ++ gap)
    c.if-read.false)
