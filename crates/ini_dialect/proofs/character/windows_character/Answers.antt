use Rattle.std.proofs.Common.{◌≡◌, ◌+◌, ◌<◌, ◌∙◌, ap, arith, Some}
use Rattle.ini_dialect.proofs.ByteLemmas.{table-byte}
use Rattle.ini_dialect.proofs.character.windows_character.Goals as goal

pub returns-then-byte-lt160 : goal.returns-then-byte-lt160
returns-then-byte-lt160 c =
    let small : c.from-then-byte-lt160.result < 32 = omega arith in
    let number : 128 + c.from-then-byte-lt160.result ≡ c.args.byte = omega arith in
    table-byte c.from-then-byte-lt160.result small ∙ ap Some number
