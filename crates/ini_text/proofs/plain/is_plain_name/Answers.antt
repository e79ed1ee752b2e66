use Rattle.std.proofs.Common.{◌≡◌, chars, arith}
use Rattle.std.proofs.lemmas.Bool.Decides.{Decides-at}
use Rattle.std.proofs.lemmas.Str.{scalars-chars}
use Rattle.std.proofs.lemmas.Grind.{common_steps}
use Rattle.ini_text.specs.Inside.PlainTests.{is_plain_name}
use Rattle.ini_text.proofs.PlainLemmas.PlainTestLemmas.{name_decides}
use Rattle.ini_text.proofs.plain.is_plain_name.Goals as goal

pub returns-then-has_no_name_end : goal.returns-then-has_no_name_end
returns-then-has_no_name_end c =
    let tested : c.is_read_back.result ≡ is_plain_name c.args.read c.args.policy (chars c.args.name.now) =
    grind (arith, common_steps) in
    Decides-at _ _
    tested (name_decides c.args.read c.args.policy (chars c.args.name.now) (scalars-chars _ c.utf8.name))
