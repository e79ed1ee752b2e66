-- The bytes that were written are those of the escaped characters.
use Rattle.std.proofs.Common.{◌≡◌, ◌∙◌, ◌++◌, ap, chars, sym, true}
use Rattle.std.proofs.lemmas.Str.{chars-append, chars-encodes, scalars-chars, IsUtf8-string_bytes}
use Rattle.std.specs.Prelude.{encode_utf8_all, string_bytes}
use Rattle.std.specs.Str.{all_scalars}
use Rattle.ini_text.specs.Escaping.EscapedTexts.{escaped}
use Rattle.ini_text.proofs.LawLemmas.ExportedLemmas.{escaped-scalars}
use Rattle.ini_edit.proofs.escape.push_escaped.Goals as goal

pub unwrap-requires : goal.unwrap-requires
unwrap-requires c =
    let T = escaped c.args.policy (chars c.args.value.now) in
    let scalars : all_scalars T ≡ true =
    escaped-scalars c.args.policy (chars c.args.value.now) (scalars-chars c.args.value.now c.utf8.value) in
    c.from_utf8.ensures.succeeds (
      T,
      (
        scalars,
        sym (c.in-Ok.ensures
            ∙ ap (λ x. x ++ encode_utf8_all T) c.new-bytes.ensures.items),
      ),
    )

pub returns-in_ok-push_str-in-Ok-clause-pushed : goal.returns-in_ok-push_str-in-Ok-clause-pushed
returns-in_ok-push_str-in-Ok-clause-pushed c =
    let T = escaped c.args.policy (chars c.args.value.now) in
    let scalars : all_scalars T ≡ true =
    escaped-scalars c.args.policy (chars c.args.value.now) (scalars-chars c.args.value.now c.utf8.value) in
    let bytes : string_bytes c.unwrap.result ≡ encode_utf8_all T =
    ap (λ v. v.items) (rw c.unwrap.ensures at c.from_utf8.ensures.ok)
    ∙ c.in-Ok.ensures
    ∙ ap (λ x. x ++ encode_utf8_all T) c.new-bytes.ensures.items in
    let old = string_bytes c.args.text.now in
    ap chars c.in_ok-push_str-in-Ok.ensures.bytes
    ∙ ap (λ x. chars (old ++ x)) (c.as_str.ensures.value ∙ bytes)
    ∙ chars-append old (encode_utf8_all T) (IsUtf8-string_bytes c.args.text.now)
    ∙ ap (λ x. chars old ++ x) (chars-encodes T scalars)
