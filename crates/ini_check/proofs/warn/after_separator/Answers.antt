use Rattle.std.proofs.Common.{◌∙◌, ap, drop, sym}
use Rattle.std.proofs.lemmas.Str.{chars-nil}
use Rattle.ini_check.proofs.warn.after_separator.Goals as goal

pub returns-in-None : goal.returns-in-None
returns-in-None c =
    chars-nil ∙ sym (ap (drop 1) (sym c.after_front.ensures ∙ c.in-None.ensures.characters))
