-- Worked texts: what written-out texts give, by the grammar alone. Each shows one rule of it.
use Rattle.std.proofs.Common.{◌≡◌, ℕ, ◌||◌, List, [], ◌∷◌, refl, true, false}
use Rattle.std.specs.Prelude.{codes, ◌==◌, Some, None}
use Rattle.std.specs.Char.{is_whitespace}
use Rattle.std.specs.List.{list_all, list_any}
use Rattle.std.proofs.lemmas.Bool.{false≢true, or_parts}
use Rattle.ini_text.specs.Options.Backslashes.{Escape}
use Rattle.ini_text.specs.Options.ReadOptions.{default_parse_option, without_escapes}
use Rattle.ini_text.specs.Grammar.CharacterKinds.{backslash, line_feed, letter_x}
use Rattle.ini_text.specs.Grammar.EscapeSequences.{control, EscapeSequence}
use Rattle.ini_text.specs.Grammar.Strings.{Ends, Row, StrStops}
use Rattle.ini_text.specs.Grammar.Lines.{Quoted}
use Rattle.ini_text.specs.Grammar.Values.{LineEnd, MoreLines, Value}
use Rattle.ini_text.specs.Grammar.Elements.{Element}
use Rattle.ini_text.specs.Grammar.Elements.Given.{Header, Pair}
use Rattle.ini_text.specs.Grammar.Texts.{Derives}
use Rattle.ini_text.specs.declared.option.ParseOption.{ParseOption}
use Rattle.ini_text.proofs.Worked.DerivationLemmas.{derives, differs, one_line, pair_of, plain_pair}
use Rattle.ini_text.proofs.Worked.DerivationLemmas.{plain_header, white, not_empty, raws, raws_before}
use Rattle.ini_text.proofs.Worked.DerivationLemmas.{plain_key, pair_after_blanks, plain_line, unquoted_line}
use Rattle.ini_text.proofs.Worked.DerivationLemmas.{whole_line, quoted, lead, indentation, goes_on}
use Rattle.ini_text.proofs.Worked.DerivationLemmas.RestGives.{whole, skip, give}

-- The options that differ from the default in one field; `without_escapes` is another.
abbrev pub with_multiline_values : ParseOption
with_multiline_values = record default_parse_option { enabled_indented_mutiline_value = true }

abbrev pub with_kept_indentation : ParseOption
with_kept_indentation = record default_parse_option { enabled_preserve_key_leading_whitespace = true }

abbrev pub without_quotes : ParseOption
without_quotes = record default_parse_option { enabled_quote = false }

-- an escape before a row, named in the grammar or standing for its character
named : {ends : Ends} {c v : ℕ} {s w : List ℕ} → control c ≡ Some v → Row Escape ends s w
    → Row Escape ends (backslash ∷ c ∷ s) (v ∷ w)
named e row = Row.escape refl (EscapeSequence.named refl e) row

itself : {ends : Ends} {c : ℕ} {s w : List ℕ} → (c == line_feed || c == letter_x) ≡ false
    → control c ≡ None → Row Escape ends s w → Row Escape ends (backslash ∷ c ∷ s) (c ∷ w)
itself {c = c} h e row =
    let parts = or_parts (c == line_feed) (c == letter_x) h in
    Row.escape refl (EscapeSequence.itself refl (differs parts.0) (differs parts.1) e) row

-- These characters are white space.
pub white_space : list_all is_whitespace
    (0x09 ∷ 0x0A ∷ 0x0B ∷ 0x0C ∷ 0x0D ∷ 0x20 ∷ 0x85 ∷ 0xA0 ∷ 0x1680 ∷ 0x2000 ∷ 0x2001 ∷ 0x2002 ∷ 0x2003
    ∷ 0x2004 ∷ 0x2005 ∷ 0x2006 ∷ 0x2007 ∷ 0x2008
    ∷ 0x2009 ∷ 0x200A ∷ 0x2028 ∷ 0x2029 ∷ 0x202F ∷ 0x205F ∷ 0x3000 ∷ []) ≡ true
white_space = refl

-- These are no white space.
pub no_white_space : list_any is_whitespace (0x08 ∷ 0x0E ∷ 0x200B ∷ 0xFEFF ∷ []) ≡ false
no_white_space = refl

-- A text of two sections. Line ends between the items are gaps, and an item may follow a header on its line.
pub two_sections : Derives default_parse_option (codes "[sec1]\nkey1=val1\nkey2=377\n[sec2]foo=bar\n")
    (Header (codes "sec1") ∷ Pair (codes "key1") (codes "val1") ∷ Pair (codes "key2") (codes "377")
    ∷ Header (codes "sec2") ∷ Pair (codes "foo") (codes "bar") ∷ [])
two_sections = derives (
    give (plain_header (codes "sec1") refl) (skip (white refl) (
    give (plain_pair (codes "key1") (codes "val1") refl) (skip (white refl) (
    give (plain_pair (codes "key2") (codes "377") refl) (skip (white refl) (
    give (plain_header (codes "sec2") refl) (
    give (plain_pair (codes "foo") (codes "bar") refl) (skip (white refl) whole)))))))))

-- White space round keys and values goes, a colon separates as well, and a comment may stand between the
-- items.
pub trimmed_keys_and_values : Derives default_parse_option (codes "k = v\n; c\n[a]\nx: y")
    (Pair (codes "k") (codes "v") ∷ Header (codes "a") ∷ Pair (codes "x") (codes "y") ∷ [])
trimmed_keys_and_values = derives (
    give (pair_of (codes "k ") refl
    refl (Value.one_line {w = codes " "} refl (lead _ _ refl) (plain_line (codes "v") refl))) (
    skip (white refl) (skip (Element.comment (codes " c") refl refl refl) (
    give (plain_header (codes "a") refl) (skip (white refl) (
    give (Element.pair {k = codes "x"} {s = codes " y"} (plain_key (codes "x") refl) (not_empty refl) refl
    (Value.one_line {w = codes " "} refl (lead _ _ refl) (plain_line (codes "y") refl))) whole))))))

-- Quoted parts and the plain part after them join. The plain part then keeps the white space that it begins
-- with.
pub quoted_and_plain_parts : Derives default_parse_option (codes "k=\"a\"\"b\" c")
    (Pair (codes "k") (codes "ab c") ∷ [])
quoted_and_plain_parts = derives (give (pair_of (codes "k") refl refl (one_line refl refl (whole_line
    (quoted (codes "a") refl refl (quoted (codes "b") refl refl Quoted.none)) (λ _. refl)
    (raws (codes " c") refl) refl))) whole)

-- The six escapes of one letter or digit. Before any other character the backslash goes, and before another
-- backslash one stays.
pub escapes_by_name : Derives default_parse_option (codes "k=\\0\\a\\b\\t\\r\\n\\f\\v\\\\")
    (Pair (codes "k") (0x00 ∷ 0x07 ∷ 0x08 ∷ 0x09 ∷ 0x0D ∷ 0x0A ∷ codes "fv\\") ∷ [])
escapes_by_name = derives (give (pair_of (codes "k") refl refl (one_line refl refl (unquoted_line refl
    (named refl (named refl (named refl
    (named refl (named refl (named refl
    (itself refl refl (itself refl refl (itself refl refl Row.none))))))))) refl))) whole)

-- A backslash before LF goes with it, escapes on or off, and the value goes on.
pub continued_line : Derives without_escapes (codes "k=a\\\nb") (Pair (codes "k") (codes "ab") ∷ [])
continued_line = derives (give (pair_of (codes "k") refl refl (one_line refl refl
    (unquoted_line refl (raws_before (codes "a") refl
    (Row.escape refl EscapeSequence.folded (raws (codes "b") refl))) refl))) whole)

-- Kept, the indentation of a key belongs to it.
pub key_with_kept_indentation : Derives with_kept_indentation (codes "# c\n  k=v")
    (Pair (codes "  k") (codes "v") ∷ [])
key_with_kept_indentation = derives (skip (Element.comment (codes " c") refl refl refl) (
    give (pair_after_blanks (codes "  ") (codes "k") refl refl
    (one_line refl refl (plain_line (codes "v") refl))) whole))

-- An indented key without a separator is dropped.
pub dropped_key : Derives default_parse_option (codes "  k") []
dropped_key = derives (skip
    (Element.dropped_key {w = codes "  "} refl (indentation _ _ refl) refl
    (StrStops.at_end (raws (codes "k") refl) refl)) whole)

-- In a multiline value CR LF is one line end.
pub cr_lf_in_a_value : Derives with_multiline_values (codes "k=v\r\n  w\r\n")
    (Pair (codes "k") (codes "v\nw") ∷ [])
cr_lf_in_a_value = derives
    (give (pair_of (codes "k") refl refl
    (Value.lines {w = []} refl (lead _ _ refl) (plain_line (codes "v") refl) LineEnd.cr_lf
    (MoreLines.continued {w = codes "  "} (goes_on refl (lead _ _ refl) refl) (plain_line (codes "w") refl) LineEnd.cr_lf
    (MoreLines.done tt tt)))) whole)

-- CR doesn't end a comment, and the text's end does.
pub comment_past_cr : Derives default_parse_option (codes "# c\rk=v") []
comment_past_cr = derives (skip (Element.last_comment {s = codes " c\rk=v"} refl refl refl) whole)

-- Without quotes a mark is a character like others.
pub marks_without_quotes : Derives without_quotes (codes "k=\"a\"") (Pair (codes "k") (codes "\"a\"") ∷ [])
marks_without_quotes = derives (give (pair_of (codes "k") refl refl (one_line refl refl
    (whole_line Quoted.none (λ on. absurd (false≢true on)) (raws (codes "\"a\"") refl) refl))) whole)

-- Multiline values among other items. The lines are trimmed. Empty lines stay within a value, and go at its
-- ends.
pub multiline_values : Derives with_multiline_values
    (codes
    "\n[Foo]\nbar =\n    u\n    v\n\nbaz = w\n  x # intentional trailing whitespace below\n   y \n\n z #2\nbla = a\n")
    (Header (codes "Foo") ∷ Pair (codes "bar") (codes "u\nv") ∷ Pair (codes "baz")
    (codes "w\nx # intentional trailing whitespace below\ny\n\nz #2") ∷ Pair (codes "bla") (codes "a")
    ∷ [])
multiline_values = derives (
    skip (white refl) (give (plain_header (codes "Foo") refl) (skip (white refl) (
    give (pair_of (codes "bar ") refl
    refl (Value.lines {w = []} refl (lead _ _ refl) (plain_line [] refl) LineEnd.lf
    (MoreLines.continued {w = codes "    "} (goes_on refl (lead _ _ refl) refl) (plain_line (codes "u") refl) LineEnd.lf (
    MoreLines.continued {w = codes "    "} (goes_on refl (lead _ _ refl) refl) (plain_line (codes "v") refl) LineEnd.lf (
    MoreLines.empty_lf (MoreLines.done refl refl)))))) (
    give (pair_of (codes "baz ") refl
    refl (Value.lines {w = codes " "} refl (lead _ _ refl) (plain_line (codes "w") refl) LineEnd.lf
    (MoreLines.continued {w = codes "  "} (goes_on refl (lead _ _ refl) refl)
    (plain_line (codes "x # intentional trailing whitespace below") refl) LineEnd.lf (
    MoreLines.continued {w = codes "   "} (goes_on refl (lead _ _ refl) refl) (plain_line (codes "y ") refl) LineEnd.lf (
    MoreLines.empty_lf (
    MoreLines.continued {w = codes " "} (goes_on refl (lead _ _ refl) refl) (plain_line (codes "z #2") refl) LineEnd.lf
    (MoreLines.done refl refl))))))) (
    give (pair_of (codes "bla ") refl refl
    (Value.lines {w = codes " "} refl (lead _ _ refl) (plain_line (codes "a") refl) LineEnd.lf
    (MoreLines.done tt tt))) whole))))))
