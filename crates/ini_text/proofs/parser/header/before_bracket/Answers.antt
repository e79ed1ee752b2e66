use Rattle.std.proofs.Common.{chars, sym, ap, ◌∙◌, rules}
use Rattle.ini_text.specs.Inside.ElementReader.{name_in}
use Rattle.ini_text.proofs.GrammarLemmas.BracketedNameLemmas.{name_before_blank, name_before_bracket}
use Rattle.ini_text.proofs.GrammarLemmas.BracketedNameLemmas.{no_name_before}
use Rattle.ini_text.proofs.parser.header.before_bracket.Goals as goal

pub returns-then-c-eq93 : goal.returns-then-c-eq93
returns-then-c-eq93 c =
    sym c.blanks.invariant.name ∙ ap name_in c.in-Some.ensures ∙ name_before_bracket _ _ c.if-c-eq93.true

pub returns-then-not-contains : goal.returns-then-not-contains
returns-then-not-contains c =
    sym c.blanks.invariant.name ∙ ap name_in c.in-Some.ensures
    ∙ no_name_before (chars c.in-Some.before.now) c.in-Some.c
    (sym c.contains.ensures ∙ c.if-not-contains.true) c.if-c-eq93.false

pub blanks-preserved : goal.blanks-preserved
blanks-preserved c = record {
  text = search rules;
  name =
      sym (name_before_blank (chars c.in-Some.before.now) c.in-Some.c
      (sym c.contains.ensures ∙ c.if-not-contains.false))
      ∙ ap name_in (sym c.in-Some.ensures) ∙ c.blanks.invariant.name;
}
