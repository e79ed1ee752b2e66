use Rattle.std.proofs.Common.{rules, chars}
use Rattle.ini.specs.Documents.{value_in}
use Rattle.ini_edit.specs.Sources.{document_in}
use Rattle.ini_c.specs.LookUps.{name_if}
use Rattle.ini_c.proofs.LookUpLemmas.{utf8_found}
use Rattle.ini_c.proofs.pieces.look_ups.value_at.Goals as goal

pub returns-in-Some-get-clause-bytes : goal.returns-in-Some-get-clause-bytes
returns-in-Some-get-clause-bytes c =
    utf8_found
    (value_in (name_if c.args.named c.args.section.now) (chars c.args.key.now) (document_in c.args.source.now))
    c.in-Some-get.value.now (search rules) (search rules)
