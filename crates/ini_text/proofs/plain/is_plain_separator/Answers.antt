use Rattle.std.proofs.Common.{◌≡◌, false, chars, arith}
use Rattle.std.proofs.lemmas.Bool.Decides.{Decides-at}
use Rattle.std.proofs.lemmas.Grind.{common_steps}
use Rattle.ini_text.specs.Inside.PlainTests.{is_plain_separator}
use Rattle.ini_text.proofs.PlainLemmas.PlainTestLemmas.{separator_decides}
use Rattle.ini_text.proofs.plain.is_plain_separator.Goals as goal

pub returns-then-is_separator : goal.returns-then-is_separator
returns-then-is_separator c =
    let tested : c.is_blank_text.result ≡ is_plain_separator (chars c.args.text.now) =
    grind (arith, common_steps) in
    Decides-at _ _ tested (separator_decides (chars c.args.text.now))

pub returns-else-is_separator : goal.returns-else-is_separator
returns-else-is_separator c =
    let tested : c.is_separator.result ≡ is_plain_separator (chars c.args.text.now) =
    grind (arith, common_steps) in
    Decides-at _ _ tested (separator_decides (chars c.args.text.now))

pub returns-in-None : goal.returns-in-None
returns-in-None c =
    let tested : false ≡ is_plain_separator (chars c.args.text.now) = grind (arith, common_steps) in
    Decides-at _ _ tested (separator_decides (chars c.args.text.now))
