use Rattle.std.proofs.Common.{string_bytes}
use Rattle.std.proofs.lemmas.Str.{IsUtf8-string_bytes}
use Rattle.ini_text.proofs.StringLemmas.PushLemmas.{pushed}
use Rattle.ini_file.proofs.edit_reading.push.Goals as goal

pub returns : goal.returns
returns c = pushed c.push.result (string_bytes c.push.new.self) (string_bytes c.args.text.now) c.args.c
    (IsUtf8-string_bytes c.args.text.now) c.ranges.c.0 c.push.ensures.bytes
