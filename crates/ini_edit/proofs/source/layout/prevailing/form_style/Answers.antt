use Rattle.std.proofs.lemmas.Str.{chars-nil}
use Rattle.ini_edit.proofs.PrevailingLemmas.{form_style_is}
use Rattle.ini_edit.proofs.source.layout.prevailing.form_style.Goals as goal

pub returns : goal.returns
returns c =
    form_style_is c.args.form chars-nil c.blank_if.ensures c.blank_if-2.ensures
