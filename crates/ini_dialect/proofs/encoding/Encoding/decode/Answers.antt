use Rattle.std.proofs.Common.{◌<◌, ◌∙◌, ap, arith, chars, eqb-true, length, string_bytes, sym}
use Rattle.std.proofs.lemmas.Bool.Decides.{nat_tests}
use Rattle.std.proofs.lemmas.Str.{IsUtf8-string_bytes, chars-nil, scalars-chars}
use Rattle.ini_text.specs.Grammar.Positions.{column_of, line_of}
use Rattle.ini_dialect.proofs.EncodingLemmas.{decodes-malformed, decodes-more, decodes-starts, decodes-whole}
use Rattle.ini_dialect.proofs.EncodingLemmas.{malformed-no_text, no_bytes}
use Rattle.ini_dialect.proofs.encoding.Encoding.decode.Goals as goal

pub characters-init : goal.characters-init
characters-init c =
    decodes-starts c.args.self c.args.bytes.now _ (ap chars c.new-text.ensures.bytes ∙ chars-nil)

pub characters-preserved : goal.characters-preserved
characters-preserved c =
    decodes-more c.args.self c.args.bytes.now _ _ _ _ _ c.characters.invariant c.in-Some.ensures.front
    c.in_ok-push_character.ensures

pub returns-then-is_empty-clause-text : goal.returns-then-is_empty-clause-text
returns-then-is_empty-clause-text c = record {
  characters =
      scalars-chars (string_bytes c.characters.text) (IsUtf8-string_bytes c.characters.text);
  has_bytes =
      decodes-whole c.args.self c.args.bytes.now c.characters.rest.now
      (chars (string_bytes c.characters.text))
      c.characters.invariant
      (no_bytes c.characters.rest.now (
      eqb-true (length c.characters.rest.now) 0 (sym c.is_empty.ensures ∙ c.if-is_empty.true)));
}

pub returns-clause-malformed : goal.returns-clause-malformed
returns-clause-malformed c =
    let some : 0 < length c.characters.rest.now =
    grind (arith, nat_tests, c.is_empty.ensures, c.if-is_empty.false) in
    decodes-malformed c.args.self c.args.bytes.now c.characters.rest.now
    (chars (string_bytes c.characters.text))
    c.position-line.result.0 c.position-line.result.1 c.characters.invariant
    (scalars-chars (string_bytes c.characters.text) (IsUtf8-string_bytes c.characters.text)) some
    c.in_default.ensures.none
    (c.position-line.ensures.line ∙ ap (λ t. line_of (chars t)) c.as_str.ensures.value)
    (c.position-line.ensures.column ∙ ap (λ t. column_of (chars t)) c.as_str.ensures.value)

pub returns-clause-no_text : goal.returns-clause-no_text
returns-clause-no_text c =
    malformed-no_text c.args.self c.args.bytes.now c.position-line.result.0 c.position-line.result.1
    (returns-clause-malformed c)
