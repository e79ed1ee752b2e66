use Rattle.std.proofs.Common.{◌∙◌, ap, map, sym}
use Rattle.std.specs.Option.{option_map}
use Rattle.ini.specs.Texts.{str_text}
use Rattle.ini_file.proofs.TypedGetLemmas.{got-none, got-said, got-unsaid}
use Rattle.ini_file.proofs.typed_get.get_of_document.Goals as goal

pub returns-then-is_empty : goal.returns-then-is_empty
returns-then-is_empty c =
    got-none c.args.wanted c.args.kind (option_map (λ home. home.now) c.args.home) c.args.document.now
    c.as_slice-texts.result.now (ap (map str_text) c.as_slice-texts.ensures.value ∙ c.in_ok-got.ensures)
    (sym c.is_empty.ensures ∙ c.if-is_empty.true)

pub returns-in-Texts : goal.returns-in-Texts
returns-in-Texts c =
    got-said c.args.wanted c.args.kind (option_map (λ home. home.now) c.args.home) c.args.document.now
    c.as_slice-texts.result.now (ap (map str_text) c.as_slice-texts.ensures.value ∙ c.in_ok-got.ensures)
    c.end_of.result.now c.end_of.ensures (sym c.is_empty.ensures ∙ c.if-is_empty.false)
    c.in_ok-bytes.field-0 c.in_ok-bytes.ensures c.in-Texts.bytes c.in-Texts.is

pub returns : goal.returns
returns c =
    got-unsaid c.args.wanted c.args.kind (option_map (λ home. home.now) c.args.home) c.args.document.now
    c.as_slice-texts.result.now (ap (map str_text) c.as_slice-texts.ensures.value ∙ c.in_ok-got.ensures)
    c.end_of.result.now c.end_of.ensures (sym c.is_empty.ensures ∙ c.if-is_empty.false)
    c.in_ok-bytes.field-0 c.in_ok-bytes.ensures c.in-Not.index c.in-Not.is
