use Rattle.std.proofs.Common.{rules, chars}
use Rattle.ini.specs.Documents.{value_in}
use Rattle.ini_c.specs.LookUps.{name_if}
use Rattle.ini_c.proofs.LookUpLemmas.{utf8_found}
use Rattle.ini_c.proofs.look_up.value_at.Goals as goal

pub returns-in-Some-clause-bytes : goal.returns-in-Some-clause-bytes
returns-in-Some-clause-bytes c =
    utf8_found (value_in (name_if c.args.named c.args.section.now) (chars c.args.key.now) c.args.document.now)
    c.in-Some.value.now (search rules) (search rules)
