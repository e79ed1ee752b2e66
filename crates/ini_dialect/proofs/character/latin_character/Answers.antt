use Rattle.std.proofs.Common.{arith}
use Rattle.ini_dialect.proofs.BeginLemmas.{latin_bytes}
use Rattle.ini_dialect.proofs.character.latin_character.Goals as goal

pub returns : goal.returns
returns c = latin_bytes c.from.result c.args.byte (omega arith) (omega arith)
