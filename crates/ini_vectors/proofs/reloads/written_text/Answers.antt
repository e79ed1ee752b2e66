-- The text of a document, from its bytes.
use Rattle.std.proofs.Common.{◌≡◌, ◌∙◌, ◌++◌, ap, chars}
use Rattle.std.proofs.lemmas.Str.{chars-encodes}
use Rattle.std.specs.Prelude.{encode_utf8_all, string_bytes}
use Rattle.ini.specs.Written.{written}
use Rattle.ini_vectors.proofs.reloads.written_text.Goals as goal

pub returns-in-Ok-clause-text : goal.returns-in-Ok-clause-text
returns-in-Ok-clause-text c =
    let T = written c.args.document.now c.args.option in
    let bytes : string_bytes c.in-Ok.text ≡ encode_utf8_all T =
    ap (λ v. v.items) c.in-Ok.ensures.ok ∙ c.in_ok-write_to_opt.ensures.bytes
    ∙ ap (λ x. x ++ encode_utf8_all T) c.new-bytes.ensures.items in
    ap chars bytes ∙ chars-encodes T c.requires.characters
