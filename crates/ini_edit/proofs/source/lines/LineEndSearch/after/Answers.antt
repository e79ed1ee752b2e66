use Rattle.std.proofs.Common.{chars, eq-eqb, ne_eqb, rules, sym}
use Rattle.std.proofs.lemmas.Bool.{cond-false, cond-true}
use Rattle.ini_edit.proofs.LastLineEndLemmas.{search_stays, searched_found, searched_more}
use Rattle.ini_edit.proofs.source.lines.LineEndSearch.after.Goals as goal

pub returns-then-is_some : goal.returns-then-is_some
returns-then-is_some c = λ front searched.
    search_stays front (chars c.args.text.now) c.args.self (sym c.if-is_some.ensures) searched

pub returns-then-last-eq13 : goal.returns-then-last-eq13
returns-then-last-eq13 c = λ front searched.
    searched_found c.in-Some.c c.in-Some.ensures.characters (c.characters.invariant.so_far front searched)
    (eq-eqb _ _ c.if-c-eq10.true) (sym (cond-true _ _ _ (eq-eqb _ _ c.if-last-eq13.true)))

pub returns-else-last-eq13 : goal.returns-else-last-eq13
returns-else-last-eq13 c = λ front searched.
    searched_found c.in-Some.c c.in-Some.ensures.characters (c.characters.invariant.so_far front searched)
    (eq-eqb _ _ c.if-c-eq10.true) (sym (cond-false _ _ _ (ne_eqb _ _ c.if-last-eq13.false)))

pub characters-preserved : goal.characters-preserved
characters-preserved c = record {
  rest = search rules;
  so_far = λ front searched.
      searched_more c.in-Some.c c.in-Some.ensures.characters (c.characters.invariant.so_far front searched)
      (ne_eqb _ _ c.if-c-eq10.false);
}
