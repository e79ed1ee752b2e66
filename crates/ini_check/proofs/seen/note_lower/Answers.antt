use Rattle.std.proofs.Common.{◌∙◌, ◌∷◌, ◌++◌, [], ap, chars, sym}
use Rattle.std.proofs.lemmas.Bool.{cond-false, cond-true}
use Rattle.std.proofs.lemmas.Str.{chars-nil}
use Rattle.ini.specs.Texts.{is_text}
use Rattle.ini_check.specs.Traps.Keys.{lower}
use Rattle.ini_check.proofs.seen.note_lower.Goals as goal

pub returns-then-is_same_text-clause-lower_before : goal.returns-then-is_same_text-clause-lower_before
returns-then-is_same_text-clause-lower_before c =
    let text = chars c.args.text.now in
    sym (cond-true (is_text (lower text) text) _ _
    (ap (λ t. is_text t text) (sym c.requires.in_lower) ∙ sym c.is_same_text.ensures ∙ c.if-is_same_text.true))

pub returns-clause-lower_before : goal.returns-clause-lower_before
returns-clause-lower_before c =
    let text = chars c.args.text.now in
    let before = c.args.lower_before.now in
    c.in_ok-append.ensures.appended
    ∙ ap (λ v. before ++ (chars c.args.in_lower.now, v) ∷ []) chars-nil
    ∙ ap (λ t. before ++ (t, []) ∷ []) c.requires.in_lower
    ∙ sym (cond-false (is_text (lower text) text) _ _
    (ap (λ t. is_text t text) (sym c.requires.in_lower) ∙ sym c.is_same_text.ensures ∙ c.if-is_same_text.false))
