use Rattle.std.proofs.Common.{◌≡◌, ◌∷◌, ◌++◌, [], OnOk, ap, append-nil, arith, chars, string_bytes, subst}
use Rattle.std.proofs.Common.{sym, ◌∙◌}
use Rattle.std.proofs.lemmas.Str.{IsUtf8-string_bytes}
use Rattle.ini_text.specs.Parsing.Items.{string_text}
use Rattle.ini_text.proofs.StringLemmas.PushLemmas.{appended, no_characters, one_character}
use Rattle.ini_text.proofs.text.push_text.Goals as goal

pub returns-in-empty : goal.returns-in-empty
returns-in-empty c = sym
    (ap (λ x. string_text c.args.out.now ++ x)
    (no_characters c.args.text.now (omega (arith, c.as_bytes.ensures.len))) ∙ append-nil _)

pub returns-in-len1 : goal.returns-in-len1
returns-in-len1 c =
    let bytes = c.as_bytes.result.now in
    let one = one_character bytes c.as_bytes.ensures.utf8 (omega arith) c.if-byte-lt128.true in
    subst (λ x. OnOk c.push.result (string_text c.push.new.out ≡ string_text c.args.out.now ++ x))
    (ap (λ b. b ∷ []) c.from.ensures ∙ sym one ∙ ap chars c.as_bytes.ensures.value) c.push.ensures

pub returns-in_default : goal.returns-in_default
returns-in_default c = appended c.push_str.result (string_bytes c.push_str.new.self)
    (string_bytes c.args.out.now) c.args.text.now (IsUtf8-string_bytes c.args.out.now)
    c.push_str.ensures.bytes
