use Rattle.std.proofs.Common.{ap, chars}
use Rattle.std.proofs.lemmas.Result.{IfOk-weaker}
use Rattle.std.specs.Option.{option_map}
use Rattle.ini_text.specs.Parsing.Items.{string_text}
use Rattle.ini_edit.proofs.FormLemmas.{bare_first, double_first, kept_first, single_last}
use Rattle.ini_edit.proofs.source.written.first_form.Goals as goal

pub returns-in-Some-clause-form : goal.returns-in-Some-clause-form
returns-in-Some-clause-form c =
    let o = c.args.read in
    let policy = c.args.policy in
    let value = chars c.args.value.now in
    let quote = chars c.args.kept_quote.now in
    let kept = option_map string_text c.in_ok-kept.field-0 in
    kept_first o policy value quote kept c.in_ok-kept.ensures.form
    (ap (option_map string_text) c.in-Some.is)

pub returns-in-Some-2-clause-form : goal.returns-in-Some-2-clause-form
returns-in-Some-2-clause-form c =
    let o = c.args.read in
    let policy = c.args.policy in
    let value = chars c.args.value.now in
    let quote = chars c.args.kept_quote.now in
    let kept = option_map string_text c.in_ok-kept.field-0 in
    let not_kept = ap (option_map string_text) c.in_default.is in
    let bare = option_map string_text c.in_ok-bare.field-0 in
    bare_first o policy value quote kept c.in_ok-kept.ensures.form not_kept bare c.in_ok-bare.ensures.form
    (ap (option_map string_text) c.in-Some-2.is)

pub returns-in-Some-3-clause-form : goal.returns-in-Some-3-clause-form
returns-in-Some-3-clause-form c =
    let o = c.args.read in
    let policy = c.args.policy in
    let value = chars c.args.value.now in
    let quote = chars c.args.kept_quote.now in
    let kept = option_map string_text c.in_ok-kept.field-0 in
    let not_kept = ap (option_map string_text) c.in_default.is in
    let bare = option_map string_text c.in_ok-bare.field-0 in
    let not_bare = ap (option_map string_text) c.in_default-2.is in
    let double = option_map string_text c.in_ok-double.field-0 in
    double_first o policy value quote kept c.in_ok-kept.ensures.form not_kept bare c.in_ok-bare.ensures.form
    not_bare double c.in_ok-double.ensures.form (ap (option_map string_text) c.in-Some-3.is)

pub returns-clause-form : goal.returns-clause-form
returns-clause-form c =
    let o = c.args.read in
    let policy = c.args.policy in
    let value = chars c.args.value.now in
    let quote = chars c.args.kept_quote.now in
    let kept = option_map string_text c.in_ok-kept.field-0 in
    let not_kept = ap (option_map string_text) c.in_default.is in
    let bare = option_map string_text c.in_ok-bare.field-0 in
    let not_bare = ap (option_map string_text) c.in_default-2.is in
    let double = option_map string_text c.in_ok-double.field-0 in
    IfOk-weaker c.tried_form-4.result _ _
    (single_last o policy value quote kept c.in_ok-kept.ensures.form not_kept bare
    c.in_ok-bare.ensures.form not_bare double c.in_ok-double.ensures.form
    (ap (option_map string_text) c.in_default-3.is)) c.tried_form-4.ensures.form
