use Rattle.std.proofs.Common.{◌∙◌, ◌++◌, ap, chars, subst}
use Rattle.ini_edit.specs.Inside.SourceSearches.{IsSearched}
use Rattle.ini_edit.proofs.SendingLemmas.{chars_one}
use Rattle.ini_edit.proofs.source.lines.LineEndSearch.after_char.Goals as goal

pub returns : goal.returns
returns c = λ front searched.
    subst (λ t. IsSearched (front ++ t) c.after.result)
    (ap chars c.encode_utf8.ensures.value ∙ chars_one c.args.c c.ranges.c.0)
    (c.after.ensures front searched)
