use Rattle.std.proofs.Common.{◌∙◌, ap, chars, subst, sym}
use Rattle.std.proofs.lemmas.Bool.{both_ways}
use Rattle.ini.proofs.WritingLemmas.{chars-line_end}
use Rattle.ini_edit.specs.NewSections.{EmptyLine}
use Rattle.ini_edit.proofs.CharsLemmas.{chars-none}
use Rattle.ini_edit.proofs.line_end.empty_line.Goals as goal

pub returns-then-ends_empty : goal.returns-then-ends_empty
returns-then-ends_empty c =
    subst (EmptyLine c.args.end (chars c.args.front.now)) (sym chars-none)
    (EmptyLine.there (c.ends_empty.ensures.0 c.if-ends_empty.true))

pub returns : goal.returns
returns c =
    subst (EmptyLine c.args.end (chars c.args.front.now))
    (sym (ap chars c.as_str.ensures ∙ chars-line_end c.args.end))
    (EmptyLine.new (λ empty. both_ways c.ends_empty.result c.if-ends_empty.false
    (c.ends_empty.ensures.1 empty)))
