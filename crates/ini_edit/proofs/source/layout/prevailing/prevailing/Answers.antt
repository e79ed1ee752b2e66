use Rattle.std.proofs.Common.{◌∙◌, sym}
use Rattle.ini_edit.proofs.PrevailingLemmas.{prevailing_is}
use Rattle.ini_edit.proofs.source.layout.prevailing.prevailing.Goals as goal

pub returns : goal.returns
returns c =
    prevailing_is c.args.forms.now (sym c.is_empty.ensures ∙ c.if-is_empty.false) c.new-first.ensures
    c.other_forms-others.ensures c.first_best.ensures
