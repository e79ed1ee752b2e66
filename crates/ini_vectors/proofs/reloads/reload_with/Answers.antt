-- The text after the document's.
use Rattle.std.proofs.Common.{◌≡◌, ◌∙◌, ◌++◌, ap, subst, sym, chars, count_by}
use Rattle.std.proofs.lemmas.Str.{chars-append, IsUtf8-string_bytes}
use Rattle.std.specs.Prelude.{string_bytes}
use Rattle.ini_text.specs.Grammar.CharacterKinds.{is_line_feed}
use Rattle.ini.specs.Outcomes.{HasOutcome, after}
use Rattle.ini.specs.Written.{written}
use Rattle.ini_vectors.proofs.reloads.reload_with.Goals as goal

pub returns : goal.returns
returns c =
    let d = c.args.document.now in
    let own = written d c.args.write in
    let more = chars c.args.more.now in
    let bytes = c.deref.ensures ∙ c.in_ok-push_str.ensures.bytes in
    let whole : chars c.deref.result.now ≡ own ++ more =
    ap chars bytes
    ∙ chars-append (string_bytes c.in_ok-text.text) c.args.more.now (IsUtf8-string_bytes c.in_ok-text.text)
    ∙ ap (λ t. t ++ more) c.in_ok-text.ensures.text in
    λ x h.
    let y = after d (count_by is_line_feed own) x in
    c.load.ensures y (subst (λ t. HasOutcome c.args.read t y) (sym whole) (c.inversion.ensures.inverts x h))
