use Rattle.std.proofs.Common.{◌∙◌, [], chars, sym}
use Rattle.std.proofs.lemmas.Bool.{cond-true}
use Rattle.std.proofs.lemmas.Str.{chars-nil}
use Rattle.ini_edit.proofs.source.section.ends.unless.Goals as goal

pub returns-then-goes : goal.returns-then-goes
returns-then-goes c =
    chars-nil ∙ sym (cond-true c.args.goes [] (chars c.args.text.now) c.if-goes.true)
