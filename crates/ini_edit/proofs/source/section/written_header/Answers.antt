use Rattle.std.proofs.Common.{◌∙◌, ◌++◌, ◌∷◌, [], ap, chars}
use Rattle.std.proofs.lemmas.Str.{chars-nil}
use Rattle.ini_text.specs.Escaping.EscapedTexts.{escaped}
use Rattle.ini_text.specs.Grammar.CharacterKinds.{close_bracket, open_bracket}
use Rattle.ini_edit.proofs.source.section.written_header.Goals as goal

pub returns-clause-written : goal.returns-clause-written
returns-clause-written c =
    c.in_ok-push-2.ensures
    ∙ ap (λ z. z ++ close_bracket ∷ []) (c.in_ok-push_escaped.ensures.pushed
    ∙ ap (λ z. z ++ escaped c.args.policy (chars c.args.name.now)) (c.in_ok-push.ensures
    ∙ ap (λ z. z ++ open_bracket ∷ []) (ap chars c.new-header.ensures.bytes ∙ chars-nil)))
