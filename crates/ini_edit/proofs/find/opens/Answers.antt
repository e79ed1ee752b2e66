use Rattle.std.proofs.Common.{◌∙◌, Some, ap, chars, subst, sym}
use Rattle.ini_text.specs.Parsing.Places.{gives}
use Rattle.ini.specs.Texts.{is_text}
use Rattle.ini_edit.specs.Inside.Walks.{OpensNone}
use Rattle.ini_edit.proofs.find.opens.Goals as goal

pub returns-in-Header-clause-no : goal.returns-in-Header-clause-no
returns-in-Header-clause-no c is =
    subst (λ x. OpensNone (Some (chars c.args.name.now)) (gives x)) (sym c.in-Header.is)
    (OpensNone.other (ap (is_text (chars c.args.name.now)) (sym (ap chars c.as_str.ensures.value))
    ∙ sym c.is_same_text.ensures ∙ is))

pub returns-in-Pair-clause-no : goal.returns-in-Pair-clause-no
returns-in-Pair-clause-no c is =
    subst (λ x. OpensNone (Some (chars c.args.name.now)) (gives x)) (sym c.in-Pair.is) OpensNone.pair

pub returns-in-Nothing-clause-no : goal.returns-in-Nothing-clause-no
returns-in-Nothing-clause-no c is =
    subst (λ x. OpensNone (Some (chars c.args.name.now)) (gives x)) (sym c.in-Nothing.is) OpensNone.nothing
