use Rattle.std.proofs.Common.{◌≡◌, ◌∙◌, ap, chars, subst, sym}
use Rattle.std.proofs.lemmas.Bool.{false≢true}
use Rattle.ini_text.specs.Parsing.Items.{string_text}
use Rattle.ini.specs.Texts.{is_text}
use Rattle.ini.proofs.KeepingLemmas.{text_refl}
use Rattle.ini_edit.specs.Quotes.{KeepsQuote, quote_before}
use Rattle.ini_edit.specs.SourceWritten.{IsFirstReadAs, IsWrittenInPlace, value_forms}
use Rattle.ini_edit.proofs.source.set.written_in_place.Goals as goal

pub returns-in-Some-clause-written : goal.returns-in-Some-clause-written
returns-in-Some-clause-written c =
    let value = chars c.args.value.now in
    let apart = λ (same : value ≡ c.args.pair.now.value).
    false≢true (sym c.if-is_same_text.false ∙ c.is_same_text.ensures
    ∙ ap (is_text value) (c.value.ensures ∙ sym same) ∙ text_refl value) in
    let read = c.args.read in
    let kept = chars c.kept_quote-kept.result.now in
    let keeps = subst (λ r. KeepsQuote read r value kept) c.raw_value.ensures c.kept_quote-kept.ensures in
    let first = subst (λ q. IsFirstReadAs read value (value_forms c.args.policy q value)
    (string_text c.in-Some.source)) (c.quote_before-quote.ensures
    ∙ ap (λ n. quote_before read n kept value) c.note.ensures)
    (rw c.in-Some.is at c.in_ok-source.ensures.form) in
    (apart, IsWrittenInPlace.written apart keeps first)
