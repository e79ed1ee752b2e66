use Rattle.std.proofs.Common.{◌∙◌, [], ap, unwrap_or}
use Rattle.std.proofs.lemmas.Str.{chars-nil}
use Rattle.ini_dialect.proofs.rule.Lookup.get_or_empty.Goals as goal

pub returns-in-Some : goal.returns-in-Some
returns-in-Some c = ap (λ o. unwrap_or o []) c.in-Some.ensures

pub returns-in-None : goal.returns-in-None
returns-in-None c = chars-nil ∙ ap (λ o. unwrap_or o []) c.in-None.ensures
