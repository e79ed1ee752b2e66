use Rattle.std.proofs.Common.{[], ◌∷◌, chars, sym, ap, ◌∙◌}
use Rattle.ini_text.specs.Options.ReadOptions.{backslash_of}
use Rattle.ini_text.specs.Grammar.Elements.{Header}
use Rattle.ini_text.specs.Inside.ElementReader.{bracketed_header, name_in, header_of_name}
use Rattle.ini_text.specs.Inside.Reading.{found}
use Rattle.ini_text.proofs.ReaderLemmas.ReaderLemmas.{from_nothing, passed}
use Rattle.ini_text.proofs.parser.header.read_bracketed_header.Goals as goal

pub returns-in_err-name-clause-gives : goal.returns-in_err-name-clause-gives
returns-in_err-name-clause-gives c = passed _ _ _ c.from_residual.ensures.1 c.in_err-name.ensures
    (λ r k h. ap bracketed_header (c.in-Some.ensures (backslash_of c.args.read.now)) ∙ h)

pub returns-in-Some-clause-gives : goal.returns-in-Some-clause-gives
returns-in-Some-clause-gives c =
    ap bracketed_header (c.in-Some.ensures (backslash_of c.args.read.now)) ∙ c.in_ok-name.ensures

pub returns-in_err-rest-clause-gives : goal.returns-in_err-rest-clause-gives
returns-in_err-rest-clause-gives c = passed _ _ _ c.from_residual-in_err-rest.ensures.1 c.in_err-rest.ensures
    (λ r k h. ap bracketed_header (sym (from_nothing _ c.clear.ensures.bytes) ∙ h))

pub returns-in_err-name-2-clause-gives : goal.returns-in_err-name-2-clause-gives
returns-in_err-name-2-clause-gives c =
    passed _ _ _ c.from_residual-in_err-name-2.ensures.1 c.in_err-name-2.ensures
    (λ r k h. ap bracketed_header (sym (from_nothing _ c.clear.ensures.bytes) ∙ c.in_ok-rest.ensures)
    ∙ ap (λ x. header_of_name (name_in (chars x)) (chars c.in_ok-rest.rest.now)) (sym c.as_str.ensures.value)
    ∙ h)

pub returns-clause-gives : goal.returns-clause-gives
returns-clause-gives c =
    ap bracketed_header (sym (from_nothing _ c.clear.ensures.bytes) ∙ c.in_ok-rest.ensures)
    ∙ ap (λ x. header_of_name (name_in (chars x)) (chars c.in_ok-rest.rest.now)) (sym c.as_str.ensures.value)
    ∙ c.in_ok-name-2.ensures
    ∙ ap (λ x. found (Header (chars x) ∷ []) (chars c.in_ok-rest.rest.now)) (sym c.in_ok-kept.ensures.ok)
