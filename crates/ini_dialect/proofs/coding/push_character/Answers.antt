use Rattle.std.proofs.Common.{string_bytes}
use Rattle.std.proofs.lemmas.Str.{IsUtf8-string_bytes}
use Rattle.ini_text.proofs.StringLemmas.PushLemmas.{pushed}
use Rattle.ini_dialect.proofs.coding.push_character.Goals as goal

pub returns : goal.returns
returns c =
    pushed c.push.result (string_bytes c.push.new.self) (string_bytes c.args.text.now) c.args.character
    (IsUtf8-string_bytes c.args.text.now) c.ranges.character.0 c.push.ensures.bytes
