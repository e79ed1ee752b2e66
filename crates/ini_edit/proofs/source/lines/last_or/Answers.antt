use Rattle.std.proofs.Common.{◌∙◌, ap, chars, sym}
use Rattle.ini_text.specs.Grammar.Positions.{last_or}
use Rattle.ini_text.proofs.StringLemmas.ScanLemmas.{last_or_append}
use Rattle.ini_edit.proofs.source.lines.last_or.Goals as goal

pub returns-in-Some : goal.returns-in-Some
returns-in-Some c =
    sym (ap (last_or c.args.before) c.in-Some.ensures
    ∙ last_or_append c.args.before c.in-Some.last (chars c.in-Some.field-0-0.now))
