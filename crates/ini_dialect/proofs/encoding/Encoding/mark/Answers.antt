use Rattle.std.proofs.Common.{rules}
use lib.Utf8.{encode}
use Rattle.ini_dialect.proofs.encoding.Encoding.mark.Goals as goal

pub returns-in-Utf8 : goal.returns-in-Utf8
unfolding encode
returns-in-Utf8 c = search rules
