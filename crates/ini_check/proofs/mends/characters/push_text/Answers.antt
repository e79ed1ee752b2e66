use Rattle.std.proofs.Common.{string_bytes}
use Rattle.std.proofs.lemmas.Str.{IsUtf8-string_bytes}
use Rattle.ini_text.proofs.StringLemmas.PushLemmas.{appended}
use Rattle.ini_check.proofs.mends.characters.push_text.Goals as goal

pub returns : goal.returns
returns c = appended c.push_str.result (string_bytes c.push_str.new.self) (string_bytes c.args.out.now)
    c.args.text.now (IsUtf8-string_bytes c.args.out.now) c.push_str.ensures.bytes
