use Rattle.std.proofs.Common.{chars}
use Rattle.std.proofs.lemmas.Str.{chars-nil}
use Rattle.ini_edit.proofs.FormLemmas.{form_found}
use Rattle.ini_edit.proofs.source.written.is_writable.Goals as goal

pub returns-clause-form : goal.returns-clause-form
returns-clause-form c =
    form_found c.args.read c.args.policy (chars c.args.value.now) c.in_ok-form.form c.is_some.result
    chars-nil c.in_ok-form.ensures.form c.is_some.ensures
