use Rattle.std.proofs.Common.{◌≡◌, chars, arith}
use Rattle.std.proofs.lemmas.Bool.Decides.{Decides-at, same_from_decides}
use Rattle.std.proofs.lemmas.Str.{scalars-chars}
use Rattle.std.proofs.lemmas.Grind.{common_steps}
use Rattle.ini_text.specs.Inside.PlainTests.{is_plain_pair, is_plain_value}
use Rattle.ini_text.proofs.PlainLemmas.PlainTestLemmas.{pair_decides, value_decides}
use Rattle.ini_text.proofs.plain.is_plain_pair.Goals as goal

pub returns-then-is_read_back : goal.returns-then-is_read_back
returns-then-is_read_back c =
    let value : c.is_plain_value.result ≡ is_plain_value c.args.read c.args.policy (chars c.args.value.now)
    = same_from_decides _ _ c.is_plain_value.ensures (value_decides c.args.read c.args.policy
    (chars c.args.value.now) (scalars-chars _ c.utf8.value)) in
    let tested : c.is_plain_value.result ≡ is_plain_pair c.args.read c.args.policy (chars c.args.key.now)
    (chars c.args.value.now) = grind (arith, common_steps) in
    Decides-at _ _ tested (pair_decides c.args.read c.args.policy (chars c.args.key.now)
    (chars c.args.value.now) (scalars-chars _ c.utf8.key) (scalars-chars _ c.utf8.value))

pub returns-else-is_read_back : goal.returns-else-is_read_back
returns-else-is_read_back c =
    let tested : c.if-not-has_key_note.value ≡ is_plain_pair c.args.read c.args.policy (chars c.args.key.now)
    (chars c.args.value.now) = grind (arith, common_steps) in
    Decides-at _ _ tested (pair_decides c.args.read c.args.policy (chars c.args.key.now)
    (chars c.args.value.now) (scalars-chars _ c.utf8.key) (scalars-chars _ c.utf8.value))
