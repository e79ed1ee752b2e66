use Rattle.std.proofs.Common.{◌∙◌, sym}
use Rattle.std.proofs.lemmas.Bool.{cond-false, cond-true}
use Rattle.ini_edit.proofs.CharsLemmas.{chars-double}
use Rattle.ini_edit.proofs.quote.quote_before.Goals as goal

pub returns-then-is_lost : goal.returns-then-is_lost
returns-then-is_lost c =
    chars-double ∙ sym (cond-true _ _ _ (sym c.is_lost.ensures ∙ c.if-is_lost.true))

pub returns : goal.returns
returns c = sym (cond-false _ _ _ (sym c.is_lost.ensures ∙ c.if-is_lost.false))
