use Rattle.std.proofs.Common.{◌∙◌, ◌++◌, ap, chars, length, replicate, sym}
use Rattle.std.proofs.lemmas.Result.{on_ok_weaker}
use Rattle.std.proofs.lemmas.Str.{chars-nil}
use Rattle.ini_text.specs.Grammar.CharacterKinds.{space}
use Rattle.ini_text.specs.Parsing.Items.{string_text}
use Rattle.ini_edit.specs.Inside.SourceLayouts.{rules_of}
use Rattle.ini_edit.specs.SourceLayout.{laid_key}
use Rattle.ini_edit.proofs.ColumnLemmas.{aligned_is, aligned_none}
use Rattle.ini_edit.proofs.source.pair.SourcePair.push_aligned_key.Goals as goal

pub returns-then-column-eq0-clause-pushed : goal.returns-then-column-eq0-clause-pushed
returns-then-column-eq0-clause-pushed c =
    let key = laid_key (rules_of c.args.rules.now) c.args.starts c.args.self.now in
    on_ok_weaker c.push_laid_key.result
    (λ e. e ∙ ap (λ t. string_text c.args.out.now ++ t)
    (sym (aligned_none c.args.column key c.if-column-eq0.true)))
    c.push_laid_key.ensures.pushed

pub returns-clause-pushed : goal.returns-clause-pushed
returns-clause-pushed c =
    let out = string_text c.args.out.now in
    let key = laid_key (rules_of c.args.rules.now) c.args.starts c.args.self.now in
    on_ok_weaker c.push_spaces.result
    (λ e. aligned_is c.args.column out
    (c.in_ok-push_laid_key.ensures.pushed
    ∙ ap (λ t. t ++ key) (ap chars c.new-laid.ensures.bytes ∙ chars-nil))
    (c.in_ok-push_text.ensures.pushed ∙ ap (λ t. out ++ t) (ap chars c.as_str.ensures.value))
    (c.width.ensures ∙ ap (λ b. length (chars b)) c.as_str-2.ensures.value)
    (e ∙ ap (λ m. string_text c.push_text.new.out ++ replicate m space) c.saturating_sub.ensures))
    c.push_spaces.ensures.pushed
