-- Worked texts and refusals where a line without separator is refused, or a key alone, by the grammar alone.
use Rattle.std.proofs.Common.{◌≢◌, true, [], ◌∷◌, refl, arith}
use Rattle.std.specs.Prelude.{codes}
use Rattle.ini_text.specs.Options.ReadOptions.{default_parse_option}
use Rattle.ini_text.specs.Grammar.EscapeSequences.{EscapeSequence, EscapeStops, Units}
use Rattle.ini_text.specs.Grammar.Strings.{Row, Str, StrStops}
use Rattle.ini_text.specs.Grammar.Keys.{KeyFront}
use Rattle.ini_text.specs.Grammar.Elements.{Element, ElementStops, Gap}
use Rattle.ini_text.specs.Grammar.Elements.Given.{Header, Pair}
use Rattle.ini_text.specs.Grammar.Texts.{Derives}
use Rattle.ini_text.specs.declared.option.LoneLine.TheVariants.{RunsOn, Refused, Key}
use Rattle.ini_text.specs.declared.option.ParseOption.{ParseOption}
use Rattle.ini_text.specs.declared.error.ParseKind.TheVariants.{EndOfText, MissingKey, NoSeparator}
use Rattle.ini_text.proofs.Worked.DerivationLemmas.{derives, differs, indentation, key_after_blanks}
use Rattle.ini_text.proofs.Worked.DerivationLemmas.{not_empty, one_line, pair_after_blanks, plain_header}
use Rattle.ini_text.proofs.Worked.DerivationLemmas.{plain_key, plain_line, plain_pair, raws, raws_before}
use Rattle.ini_text.proofs.Worked.DerivationLemmas.{units_before, white}
use Rattle.ini_text.proofs.Worked.DerivationLemmas.RestGives.{whole, skip, give}
use Rattle.ini_text.proofs.Worked.DerivationLemmas.RestStops.{stop, past}
use Rattle.ini_text.proofs.Worked.WorkedRefusals.{StopsAt, stops_at}

abbrev pub with_refused_lines : ParseOption
with_refused_lines = record default_parse_option { line_without_separator = Refused }

-- Lines with separators give what they give all the same.
pub lines_with_separators : Derives with_refused_lines (codes "[a]\nb=c\n  d=e\n")
    (Header (codes "a") ∷ Pair (codes "b") (codes "c") ∷ Pair (codes "d") (codes "e") ∷ [])
lines_with_separators = derives (
    give (plain_header (codes "a") refl) (skip (white refl) (
    give (plain_pair (codes "b") (codes "c") refl) (skip (white refl) (
    give (pair_after_blanks (codes "  ") (codes "d") refl refl
    (one_line refl refl (plain_line (codes "e") refl))) (skip (white refl) whole))))))

-- A key without separator is told at the line end's first character, which is looked at.
pub lone_line : StopsAt with_refused_lines (codes "abc\nk=v\n") NoSeparator 2 1
lone_line = stops_at (stop (ElementStops.no_separator refl (plain_key (codes "abc") refl) refl)) refl refl

pub lone_line_before_cr : StopsAt with_refused_lines (codes "abc\r\nk=v\n") NoSeparator 1 5
lone_line_before_cr =
    stops_at (stop (ElementStops.no_separator refl (plain_key (codes "abc") refl) refl)) refl refl

-- Behind blanks a comment's mark begins a key.
pub indented_mark : StopsAt with_refused_lines (codes "  ; c\nk=v\n") NoSeparator 2 1
indented_mark = stops_at
    (stop (ElementStops.no_separator refl (key_after_blanks (codes "  ") (codes "; c") refl) refl)) refl refl

-- What stands after a header on its line is a line's key too.
pub key_after_a_header : StopsAt with_refused_lines (codes "[a] b\n") NoSeparator 2 1
key_after_a_header = stops_at
    (past (plain_header (codes "a") refl) (past (white refl)
    (stop (ElementStops.no_separator refl (plain_key (codes "b") refl) refl)))) refl refl

-- The text's end cuts a key short, an indented one too.
pub cut_key : StopsAt with_refused_lines (codes "abc") EndOfText 1 4
cut_key = stops_at
    (stop (ElementStops.in_key refl (StrStops.at_end (raws (codes "abc") refl) refl))) refl refl

refused : Refused ≢ RunsOn
refused e = cc

pub cut_indented_key : StopsAt with_refused_lines (codes "  abc") EndOfText 1 6
cut_indented_key = stops_at
    (stop (ElementStops.in_indented_key {w = codes "  "} (indentation _ _ refl) refl
    (StrStops.at_end (raws (codes "abc") refl) refl) (λ e. absurd (refused e)))) refl refl

-- Lines of blanks are no keys.
pub blank_lines : Derives with_refused_lines (codes "  \n  ") []
blank_lines = derives (
    skip (Element.gap (Gap.blank_line 0x0A (indentation _ (codes "  ") refl) refl)) (
    skip (Element.dropped_blanks (indentation _ (codes "  ") refl)) whole))

-- A line end goes with the backslash before it, and the key goes on.
pub continued_key : Derives with_refused_lines (codes "a\\\nb=c\n") (Pair (codes "ab") (codes "c") ∷ [])
continued_key = derives (
    give (Element.pair (KeyFront.unindented refl (Str.closed (raws_before (codes "a") refl
    (Row.escape refl EscapeSequence.folded (raws (codes "b") refl))) refl))
    (not_empty refl) refl (one_line refl refl (plain_line (codes "c") refl))) (
    skip (white refl) whole))

-- A separator stands without a key.
pub no_key : StopsAt with_refused_lines (codes " =v\n") MissingKey 1 3
no_key = stops_at
    (stop (ElementStops.no_key {k = codes " "} (key_after_blanks (codes " ") [] refl) refl)) refl refl

abbrev pub with_lone_keys : ParseOption
with_lone_keys = record default_parse_option { line_without_separator = Key }

-- A key without separator has the empty value.
pub key_alone : Derives with_lone_keys (codes "abc\nk=v\n")
    (Pair (codes "abc") [] ∷ Pair (codes "k") (codes "v") ∷ [])
key_alone = derives (
    give (Element.lone_key refl (plain_key (codes "abc") refl) (not_empty refl) refl) (skip (white refl) (
    give (plain_pair (codes "k") (codes "v") refl) (skip (white refl) whole))))

-- So has one at the text's end, an indented one too.
pub key_at_the_end : Derives with_lone_keys (codes "abc") (Pair (codes "abc") [] ∷ [])
key_at_the_end =
    derives (give (Element.lone_key refl (plain_key (codes "abc") refl) (not_empty refl) tt) whole)

pub indented_key_at_the_end : Derives with_lone_keys (codes "  abc") (Pair (codes "abc") [] ∷ [])
indented_key_at_the_end = derives (
    give (Element.lone_key refl (key_after_blanks (codes "  ") (codes "abc") refl) (not_empty refl) tt) whole)

-- An escaped separator is part of a key.
pub escaped_separator : Derives with_lone_keys (codes "a\\=b\n") (Pair (codes "a=b") [] ∷ [])
escaped_separator = derives (
    give (Element.lone_key refl (KeyFront.unindented refl (Str.closed (raws_before (codes "a") refl
    (Row.escape refl (EscapeSequence.itself refl (differs refl) (differs refl) refl)
    (raws (codes "b") refl))) refl)) (not_empty refl) refl) (
    skip (white refl) whole))

-- A comment's mark within a key is part of it.
pub mark_in_a_key : Derives with_lone_keys (codes "skip-x # n\n") (Pair (codes "skip-x # n") [] ∷ [])
mark_in_a_key = derives (
    give (Element.lone_key refl (plain_key (codes "skip-x # n") refl) (not_empty refl) refl) (
    skip (white refl) whole))

-- Lines that bring other files in are such keys, and those with separators pairs.
pub included_files : Derives with_lone_keys (codes "!include /x\n.include /a=b\n")
    (Pair (codes "!include /x") [] ∷ Pair (codes ".include /a") (codes "b") ∷ [])
included_files = derives (
    give (Element.lone_key refl (plain_key (codes "!include /x") refl) (not_empty refl) refl) (
    skip (white refl) (
    give (plain_pair (codes ".include /a") (codes "b") refl) (skip (white refl) whole))))

-- With multiline values a key alone has no further lines.
abbrev with_lone_keys_and_lines : ParseOption
with_lone_keys_and_lines = record with_lone_keys { enabled_indented_mutiline_value = true }

pub no_further_lines : Derives with_lone_keys_and_lines (codes "k\n  w\n")
    (Pair (codes "k") [] ∷ Pair (codes "w") [] ∷ [])
no_further_lines = derives (
    give (Element.lone_key refl (plain_key (codes "k") refl) (not_empty refl) refl) (skip (white refl) (
    give (Element.lone_key refl (key_after_blanks (codes "  ") (codes "w") refl) (not_empty refl) refl) (
    skip (white refl) whole))))

-- A line end goes with the backslash before it, and no key is left before the next one, or before the end.
pub no_lone_key : StopsAt with_lone_keys (codes "\\\n\n") MissingKey 3 1
no_lone_key = stops_at (stop (ElementStops.no_lone_key {k = codes "\\\n"} refl
    (KeyFront.unindented refl (Str.closed (Row.escape refl EscapeSequence.folded Row.none) refl)) refl))
    refl refl

pub no_last_key : StopsAt with_lone_keys (codes "\\\n") EndOfText 2 1
no_last_key = stops_at (stop (ElementStops.no_last_key {k = codes "\\\n"} refl
    (KeyFront.unindented refl (Str.closed (Row.escape refl EscapeSequence.folded Row.none) refl)))) refl refl

-- The text's end cuts an escape short, but a backslash alone stands for itself.
pub cut_escape : StopsAt with_lone_keys (codes "a\\x00") EndOfText 1 6
cut_escape = stops_at (stop (ElementStops.in_key refl (StrStops.in_escape (raws (codes "a") refl) refl
    (EscapeStops.cut_short (units_before (codes "00") refl Units.none) (omega arith))))) refl refl

pub last_backslash : Derives with_lone_keys (codes "a\\") (Pair (codes "a\\") [] ∷ [])
last_backslash = derives (
    give (Element.lone_key refl (KeyFront.unindented refl (Str.lone refl (raws (codes "a") refl) refl))
    (not_empty refl) tt) whole)
