-- The line of a header.
use Rattle.std.proofs.Common.{chars}
use Rattle.ini_text.proofs.PlainLemmas.PlainHeaderLemmas.{header_line}
use Rattle.ini_text.proofs.laws.header_line.Goals as goal

pub returns : goal.returns
returns c =
    header_line c.args.read c.args.write.now c.args.twice (chars c.args.before.now) (chars c.args.name.now)
    (chars c.args.follows.now) c.requires.plain
