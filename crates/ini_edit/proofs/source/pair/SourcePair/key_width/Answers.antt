use Rattle.std.proofs.Common.{◌∙◌, ◌++◌, ap, chars, length, sym, true}
use Rattle.std.proofs.lemmas.Bool.{cond-false, cond-true}
use Rattle.std.proofs.lemmas.Str.{chars-nil}
use Rattle.ini_edit.specs.Inside.SourceLayouts.{rules_of}
use Rattle.ini_edit.specs.SourceLayout.{laid_key}
use Rattle.ini_edit.proofs.source.pair.SourcePair.key_width.Goals as goal

pub returns-clause-width : goal.returns-clause-width
returns-clause-width c =
    let p = c.args.self.now in
    let key = laid_key (rules_of c.args.rules.now) true p in
    c.width.ensures
    ∙ ap length (ap chars c.as_str.ensures.value ∙ c.in_ok-push_laid_key.ensures.pushed
    ∙ ap (λ t. t ++ key) (ap chars c.new-key.ensures.bytes ∙ chars-nil))
    ∙ sym (cond-true _ _ _ (sym c.has_separator.ensures ∙ c.if-not-has_separator.false))
