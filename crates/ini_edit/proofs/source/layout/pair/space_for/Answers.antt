use Rattle.std.proofs.Common.{◌∙◌, sym}
use Rattle.std.proofs.lemmas.Bool.{cond-true}
use Rattle.std.proofs.lemmas.Str.{chars-nil}
use Rattle.ini_edit.proofs.source.layout.pair.space_for.Goals as goal

pub returns-then-leaves_line_empty : goal.returns-then-leaves_line_empty
returns-then-leaves_line_empty c =
    chars-nil ∙ sym (cond-true _ _ _ (sym c.leaves_line_empty.ensures ∙ c.if-leaves_line_empty.true))
