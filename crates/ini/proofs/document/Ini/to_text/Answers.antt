-- The bytes that were written are those of the characters.
use Rattle.std.proofs.Common.{◌≡◌, ◌∙◌, ◌++◌, ap, chars}
use Rattle.std.proofs.lemmas.Str.{chars-encodes}
use Rattle.std.specs.Prelude.{encode_utf8_all, string_bytes}
use Rattle.ini.specs.Written.{written}
use Rattle.ini.proofs.document.Ini.to_text.Goals as goal

pub returns-in-Ok-clause-text : goal.returns-in-Ok-clause-text
returns-in-Ok-clause-text c =
    let T = written c.args.self.now c.args.option in
    let bytes : string_bytes c.unwrap.result ≡ encode_utf8_all T =
    ap (λ v. v.items) (rw c.unwrap.ensures at c.from_utf8.ensures.ok)
    ∙ c.in-Ok.ensures.bytes
    ∙ ap (λ x. x ++ encode_utf8_all T) c.new-bytes.ensures.items in
    ap chars bytes ∙ chars-encodes T c.in-Ok.ensures.characters
