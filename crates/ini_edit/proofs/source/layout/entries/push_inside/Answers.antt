use Rattle.std.proofs.Common.{◌∙◌, ◌++◌, ◌∷◌, [], ap, append_assoc, chars, eq-eqb, ne_eqb, sym, true}
use Rattle.std.proofs.lemmas.Bool.{cond-false, cond-true}
use Rattle.ini_text.specs.Parsing.Items.{string_text}
use Rattle.ini_edit.specs.SourceEntries.{comments_from}
use Rattle.ini_edit.proofs.source.layout.entries.push_inside.Goals as goal

pub returns-then-c-eq10-clause-pushed : goal.returns-then-c-eq10-clause-pushed
returns-then-c-eq10-clause-pushed c =
    ap (λ t. string_text c.args.comments.now ++ t) (sym (cond-true _ _ _ (eq-eqb _ _ c.if-c-eq10.true)))

pub returns-then-is_return_at_end-clause-pushed : goal.returns-then-is_return_at_end-clause-pushed
returns-then-is_return_at_end-clause-pushed c =
    ap (λ t. string_text c.args.comments.now ++ t)
    (sym (cond-false _ _ _ (ne_eqb _ _ c.if-c-eq10.false)
    ∙ cond-true _ _ _ (sym c.is_return_at_end.ensures ∙ c.if-is_return_at_end.true)))

pub returns-clause-pushed : goal.returns-clause-pushed
returns-clause-pushed c =
    let old = string_text c.args.comments.now in
    let left = comments_from true (chars c.args.after.now) in
    ap (λ t. t ++ left) c.in_ok-push.ensures ∙ append_assoc old (c.args.c ∷ []) left
    ∙ ap (λ t. old ++ t) (sym (cond-false _ _ _ (ne_eqb _ _ c.if-c-eq10.false)
    ∙ cond-false _ _ _ (sym c.is_return_at_end.ensures ∙ c.if-is_return_at_end.false)))
