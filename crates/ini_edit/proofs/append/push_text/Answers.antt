use Rattle.std.proofs.Common.{◌∙◌, ap, chars}
use Rattle.std.proofs.lemmas.Str.{chars-append, IsUtf8-string_bytes}
use Rattle.std.specs.Prelude.{string_bytes}
use Rattle.ini_edit.proofs.append.push_text.Goals as goal

pub returns-clause-pushed : goal.returns-clause-pushed
returns-clause-pushed c =
    ap chars c.in_ok-push_str.ensures.bytes
    ∙ chars-append (string_bytes c.args.out.now) c.args.text.now (IsUtf8-string_bytes c.args.out.now)
