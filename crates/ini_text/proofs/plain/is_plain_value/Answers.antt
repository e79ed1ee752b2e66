use Rattle.std.proofs.Common.{◌≡◌, chars, arith}
use Rattle.std.proofs.lemmas.Bool.Decides.{Decides-at}
use Rattle.std.proofs.lemmas.Str.{scalars-chars}
use Rattle.std.proofs.lemmas.Grind.{common_steps}
use Rattle.ini_text.specs.Inside.PlainTests.{is_plain_value}
use Rattle.ini_text.proofs.PlainLemmas.PlainTestLemmas.{value_decides}
use Rattle.ini_text.proofs.plain.is_plain_value.Goals as goal

pub returns-then-not-has_note : goal.returns-then-not-has_note
returns-then-not-has_note c =
    let tested : c.is_read_back.result ≡ is_plain_value c.args.read c.args.policy (chars c.args.value.now)
    = grind (arith, common_steps) in
    Decides-at _ _ tested (value_decides c.args.read c.args.policy (chars c.args.value.now)
    (scalars-chars _ c.utf8.value))
