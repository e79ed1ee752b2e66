use Rattle.std.proofs.Common.{◌∙◌, sym}
use Rattle.std.proofs.lemmas.Bool.{cond-false, cond-true}
use Rattle.std.proofs.lemmas.Str.{chars-nil}
use Rattle.ini_edit.proofs.CharsLemmas.{chars-space}
use Rattle.ini_edit.proofs.source.pair.own.space_before.Goals as goal

pub returns-then-is_empty : goal.returns-then-is_empty
returns-then-is_empty c = chars-nil ∙ sym (cond-true _ _ _ (sym c.is_empty.ensures ∙ c.if-is_empty.true))

pub returns-else-is_empty : goal.returns-else-is_empty
returns-else-is_empty c = chars-space ∙ sym (cond-false _ _ _ (sym c.is_empty.ensures ∙ c.if-is_empty.false))
