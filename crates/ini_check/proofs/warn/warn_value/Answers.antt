use Rattle.std.proofs.Common.{◌∙◌, ◌++◌, Bool, List, ap, append_assoc, chars}
use Rattle.ini.specs.Texts.{Text}
use Rattle.ini_check.specs.Traps.Lines.{is_list}
use Rattle.ini_check.specs.Traps.Values.{first_line, space_of}
use Rattle.ini_check.specs.Warnings.{inner_warnings, value_traps, warned_all}
use Rattle.ini_check.specs.declared.lexical.LexicalState.TheVariants.{Front}
use Rattle.ini_check.specs.declared.warning.Warning.{Warning}
use Rattle.ini_check.proofs.warn.warn_value.Goals as goal

pub returns-clause-warned : goal.returns-clause-warned
returns-clause-warned c b at =
    let source = chars c.args.source.now in
    let key = chars c.args.key.now in
    let f = b ++ space_of source in
    let v = chars c.value_of-value.result.now in
    let old = c.args.warnings.now.items in
    let begins = c.over_space-begins.ensures.at b at in
    let ends = c.over_line.ensures f begins in
    let inner : Bool → Text → List Warning = λ l x. inner_warnings c.args.read l Front f x in
    let traps = value_traps c.args.read source in
    c.in_ok-warn_within.ensures.warned f begins
    ∙ ap (λ ws. ws ++ inner c.is_list-is_list.result v)
    (c.in_ok-warn_all.ensures.warned f (first_line v) begins ends)
    ∙ append_assoc old (warned_all f (first_line v) c.value_traps-traps.result)
    (inner c.is_list-is_list.result v)
    ∙ ap (λ x. old ++ (warned_all f (first_line v) x ++ inner c.is_list-is_list.result v))
    c.value_traps-traps.ensures
    ∙ ap (λ l. old ++ (warned_all f (first_line v) traps ++ inner l v)) c.is_list-is_list.ensures
    ∙ ap (λ x. old ++ (warned_all f (first_line x) traps ++ inner (is_list key x) x)) c.value_of-value.ensures
