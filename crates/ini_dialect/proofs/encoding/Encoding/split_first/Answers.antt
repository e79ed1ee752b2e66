use Rattle.std.proofs.Common.{◌∙◌, ap, rules}
use Rattle.std.specs.Char.{IsScalar}
use Rattle.ini_dialect.specs.Encodings.{bytes_of}
use Rattle.ini_dialect.proofs.BeginLemmas.{no_low_first, no_low_last, no_utf8, on_none, one_byte}
use Rattle.ini_dialect.proofs.BeginLemmas.{windows_bytes}
use Rattle.ini_dialect.proofs.encoding.Encoding.split_first.Goals as goal

pub returns-in-Utf8-clause-none : goal.returns-in-Utf8-clause-none
returns-in-Utf8-clause-none c =
    on_none _ _ _ (no_utf8 c.args.self c.args.bytes.now c.in-Utf8.is) c.split_utf8.ensures.none

pub returns-in-Utf16Le-clause-none : goal.returns-in-Utf16Le-clause-none
returns-in-Utf16Le-clause-none c =
    on_none _ _ _ (no_low_first c.args.self c.args.bytes.now c.in-Utf16Le.is) c.split_units.ensures.none

pub returns-in-Utf16Be-clause-none : goal.returns-in-Utf16Be-clause-none
returns-in-Utf16Be-clause-none c =
    on_none _ _ _ (no_low_last c.args.self c.args.bytes.now c.in-Utf16Be.is)
    c.split_units-in-Utf16Be.ensures.none

pub returns-in_ok-byte-in-Latin1-clause-front : goal.returns-in_ok-byte-in-Latin1-clause-front
returns-in_ok-byte-in-Latin1-clause-front c =
    let scalar : IsScalar c.latin_character.result = search rules in
    one_byte c.args.self c.args.bytes.now c.in_ok-byte-in-Latin1.rest.now c.latin_character.result
    c.in_ok-byte-in-Latin1.byte.now
    (ap (λ e. bytes_of e c.latin_character.result) c.in-Latin1.is ∙ c.latin_character.ensures)
    c.in_ok-byte-in-Latin1.ensures.cases.0 scalar

pub returns-in_ok-byte-in-Windows1252-clause-front : goal.returns-in_ok-byte-in-Windows1252-clause-front
returns-in_ok-byte-in-Windows1252-clause-front c =
    let scalar : IsScalar c.windows_character.result = search rules in
    one_byte c.args.self c.args.bytes.now c.in_ok-byte-in-Windows1252.rest.now c.windows_character.result
    c.in_ok-byte-in-Windows1252.byte.now
    (ap (λ e. bytes_of e c.windows_character.result) c.in-Windows1252.is
    ∙ windows_bytes c.windows_character.result c.in_ok-byte-in-Windows1252.byte.now
    c.windows_character.ensures)
    c.in_ok-byte-in-Windows1252.ensures.cases.0 scalar
