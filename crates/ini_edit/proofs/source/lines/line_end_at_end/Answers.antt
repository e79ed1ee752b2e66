use Rattle.std.proofs.Common.{◌∙◌, ap, eqb, ne_eqb, refl, sym}
use Rattle.std.proofs.lemmas.Bool.{and_left, and_right}
use Rattle.std.specs.Str.{chars}
use Rattle.ini_text.specs.Grammar.CharacterKinds.{carriage_return, line_feed}
use Rattle.ini_edit.specs.SourceLines.{line_end_at_end}
use Rattle.ini_edit.proofs.LastLineEndLemmas.{crlf_at_end, one_at_end, other_at_end}
use Rattle.ini_edit.proofs.source.lines.line_end_at_end.Goals as goal

pub returns-in_default : goal.returns-in_default
unfolding chars
returns-in_default c = sym (ap line_end_at_end c.in_default.ensures)

pub returns-then-last_or-eq13 : goal.returns-then-last_or-eq13
unfolding chars
returns-then-last_or-eq13 c =
    sym (ap line_end_at_end (rw c.if-last-eq10.true at c.in-Some.ensures)
    ∙ crlf_at_end (chars c.in-Some.before.now) (sym c.last_or.ensures ∙ c.if-last_or-eq13.true))

pub returns-then-last-eq10 : goal.returns-then-last-eq10
unfolding chars
returns-then-last-eq10 c =
    sym (ap line_end_at_end (rw c.if-last-eq10.true at c.in-Some.ensures)
    ∙ one_at_end line_feed (chars c.in-Some.before.now) line_feed (and_left _ _ (ap
    (λ x. eqb x carriage_return)
    (sym c.last_or.ensures) ∙ ne_eqb _ _ c.if-last_or-eq13.false)))

pub returns-then-last-eq13 : goal.returns-then-last-eq13
unfolding chars
returns-then-last-eq13 c =
    sym (ap line_end_at_end (rw c.if-last-eq13.true at c.in-Some.ensures)
    ∙ one_at_end line_feed (chars c.in-Some.before.now) carriage_return (and_right _ _ refl))

pub returns-else-last-eq13 : goal.returns-else-last-eq13
unfolding chars
returns-else-last-eq13 c =
    sym (ap line_end_at_end c.in-Some.ensures
    ∙ other_at_end (chars c.in-Some.before.now) c.in-Some.last (ne_eqb _ _ c.if-last-eq10.false)
    (ne_eqb _ _ c.if-last-eq13.false))
