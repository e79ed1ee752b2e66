use Rattle.std.proofs.Common.{◌∙◌, ◌++◌, ◌∷◌, [], ap, append_assoc, sym, true}
use Rattle.std.proofs.lemmas.Bool.{cond-false, cond-true}
use Rattle.ini_text.specs.Grammar.CharacterKinds.{line_feed}
use Rattle.ini_text.specs.Parsing.Items.{string_text}
use Rattle.ini_edit.specs.SourceEntries.{comments_from}
use Rattle.ini_edit.proofs.source.layout.entries.push_outside.Goals as goal

pub returns-then-not-is_comment_mark-clause-pushed : goal.returns-then-not-is_comment_mark-clause-pushed
returns-then-not-is_comment_mark-clause-pushed c = λ cs.
    ap (λ t. string_text c.args.comments.now ++ t)
    (sym (cond-false _ _ _ (sym c.is_comment_mark.ensures ∙ c.if-not-is_comment_mark.true)))

pub returns-clause-pushed : goal.returns-clause-pushed
returns-clause-pushed c = λ cs.
    let old = string_text c.args.comments.now in
    let left = comments_from true cs in
    ap (λ t. t ++ left) (c.in_ok-push-2.ensures ∙ ap (λ t. t ++ c.args.c ∷ []) c.in_ok-push.ensures)
    ∙ append_assoc (old ++ line_feed ∷ []) (c.args.c ∷ []) left
    ∙ append_assoc old (line_feed ∷ []) (c.args.c ∷ left)
    ∙ ap (λ t. old ++ t) (sym (cond-true _ _ _
    (sym c.is_comment_mark.ensures ∙ c.if-not-is_comment_mark.false)))
