use Rattle.std.proofs.Common.{chars}
use Rattle.ini_dialect.proofs.KeyEditLemmas.{keys_done, keys_more}
use Rattle.ini_dialect.proofs.key_edit.rename_each.Goals as goal

pub loop-at-preserved : goal.loop-at-preserved
loop-at-preserved c =
    keys_more c.args.policy (chars c.args.key.now) c.args.numbers.now c.loop-at.invariant
    (record { section = 0; pair = 0 }) c.in_ok-rename_key_at.field-0 c.loop-at-test.true
    c.in_ok-rename_key_at.ensures.renamed

pub returns-clause-renamed : goal.returns-clause-renamed
returns-clause-renamed c =
    keys_done c.args.policy (chars c.args.key.now) c.args.numbers.now c.loop-at.invariant c.loop-at-test.false
