-- Worked texts and refusals where inline comments are on, by the grammar alone.
use Rattle.std.proofs.Common.{true, [], ◌∷◌, refl}
use Rattle.std.specs.Prelude.{codes}
use Rattle.ini_text.specs.Options.ReadOptions.{default_parse_option}
use Rattle.ini_text.specs.Grammar.CharacterKinds.{hash, semicolon, space}
use Rattle.ini_text.specs.Grammar.EscapeSequences.{EscapeSequence}
use Rattle.ini_text.specs.Grammar.Keys.{KeyFront}
use Rattle.ini_text.specs.Grammar.Lines.{Line, LineTail, LineText, Quoted}
use Rattle.ini_text.specs.Grammar.Strings.{Row, Str}
use Rattle.ini_text.specs.Grammar.Values.{CommentLine, LineEnd, MoreLines, Value}
use Rattle.ini_text.specs.Grammar.Elements.{Element, ElementStops}
use Rattle.ini_text.specs.Grammar.Elements.Given.{Header, Pair}
use Rattle.ini_text.specs.Grammar.Texts.{Derives}
use Rattle.ini_text.specs.declared.option.LoneLine.TheVariants.{Refused, Key}
use Rattle.ini_text.specs.declared.option.ParseOption.{ParseOption}
use Rattle.ini_text.specs.declared.error.ParseKind.TheVariants.{HeaderEnd, NoSeparator}
use Rattle.ini_text.proofs.GrammarLemmas.BracketedNameLemmas.{no_name}
use Rattle.ini_text.proofs.Worked.DerivationLemmas.{derives, differs, goes_on, lead, not_empty, note_of}
use Rattle.ini_text.proofs.Worked.DerivationLemmas.{noted_line, noted_string, one_line, pair_of, plain_header}
use Rattle.ini_text.proofs.Worked.DerivationLemmas.{plain_line, plain_pair, quoted, raw_string, raws}
use Rattle.ini_text.proofs.Worked.DerivationLemmas.{raws_before, unquoted_line, white, whole_line}
use Rattle.ini_text.proofs.Worked.DerivationLemmas.RestGives.{whole, skip, give}
use Rattle.ini_text.proofs.Worked.DerivationLemmas.RestStops.{stop}
use Rattle.ini_text.proofs.Worked.WorkedRefusals.{StopsAt, stops_at}

abbrev pub with_notes : ParseOption
with_notes = record default_parse_option { enabled_inline_comment = true }

-- Behind a blank a mark begins a note.
pub behind_a_value : Derives with_notes (codes "k = v ; note\n") (Pair (codes "k") (codes "v") ∷ [])
behind_a_value = derives (
    give (pair_of (codes "k ") refl refl (Value.one_line {w = codes " "} refl (lead _ _ refl)
    (noted_line (codes "v") space (note_of semicolon (codes " note") refl) refl))) (skip (white refl) whole))

-- Behind the blanks of the separator it is text, and so it is behind another character.
pub at_the_front : Derives with_notes (codes "k = ; note\n") (Pair (codes "k") (codes "; note") ∷ [])
at_the_front = derives (
    give (pair_of (codes "k ") refl refl (Value.one_line {w = codes " "} refl (lead _ _ refl)
    (plain_line (codes "; note") refl))) (skip (white refl) whole))

pub in_a_word : Derives with_notes (codes "k=a;b #c\n") (Pair (codes "k") (codes "a;b") ∷ [])
in_a_word = derives (
    give (pair_of (codes "k") refl refl (one_line refl refl
    (noted_line (codes "a;b") space (note_of hash (codes "c") refl) refl))) (skip (white refl) whole))

-- A backslash keeps a blank and a mark.
pub escaped_blank : Derives with_notes (codes "k=a\\ ; b\n") (Pair (codes "k") (codes "a ; b") ∷ [])
escaped_blank = derives (
    give (pair_of (codes "k") refl refl (one_line refl refl (unquoted_line refl
    (raws_before (codes "a") refl
    (Row.escape refl (EscapeSequence.itself refl (differs refl) (differs refl) refl)
    (raws (codes "; b") refl))) refl))) (skip (white refl) whole))

pub escaped_mark : Derives with_notes (codes "k=a \\; b\n") (Pair (codes "k") (codes "a ; b") ∷ [])
escaped_mark = derives (
    give (pair_of (codes "k") refl refl (one_line refl refl (unquoted_line refl
    (raws_before (codes "a ") refl
    (Row.escape refl (EscapeSequence.itself refl (differs refl) (differs refl) refl)
    (raws (codes " b") refl))) refl))) (skip (white refl) whole))

-- Quotes keep a mark, and one directly behind them is text.
pub behind_quotes : Derives with_notes (codes "k=\"a ; b\" ; c\n") (Pair (codes "k") (codes "a ; b") ∷ [])
behind_quotes = derives (
    give (pair_of (codes "k") refl refl (one_line refl refl (Line.line
    (LineText.text (quoted (codes "a ; b") refl refl Quoted.none) (λ _. refl) (noted_string [] space refl))
    (LineTail.note (note_of semicolon (codes " c") refl))))) (skip (white refl) whole))

pub directly_behind_quotes : Derives with_notes (codes "k=\"a\"; b\n")
    (Pair (codes "k") (codes "a; b") ∷ [])
directly_behind_quotes = derives (
    give (pair_of (codes "k") refl refl (one_line refl refl (whole_line
    (quoted (codes "a") refl refl Quoted.none) (λ _. refl) (raws (codes "; b") refl) refl)))
    (skip (white refl) whole))

-- Quotes within a value keep nothing.
pub quotes_within_a_value : Derives with_notes (codes "k=x \"a ; b\"\n")
    (Pair (codes "k") (codes "x \"a") ∷ [])
quotes_within_a_value = derives (
    give (pair_of (codes "k") refl refl (one_line refl refl
    (noted_line (codes "x \"a") space (note_of semicolon (codes " b\"") refl) refl)))
    (skip (white refl) whole))

-- Of a joined line a blank stands before the mark, or it doesn't.
pub joined_line : Derives with_notes (codes "k=a\\\n ; b\n") (Pair (codes "k") (codes "a") ∷ [])
joined_line = derives (
    give (pair_of (codes "k") refl refl (one_line refl refl (Line.line
    (LineText.text Quoted.none (λ _. refl) (Str.before_note space (raws_before (codes "a") refl
    (Row.escape refl EscapeSequence.folded Row.none)) refl refl refl))
    (LineTail.note (note_of semicolon (codes " b") refl))))) (skip (white refl) whole))

pub blank_before_a_joined_line : Derives with_notes (codes "k=a \\\n; b\n")
    (Pair (codes "k") (codes "a ; b") ∷ [])
blank_before_a_joined_line = derives (
    give (pair_of (codes "k") refl refl (one_line refl refl (unquoted_line refl
    (raws_before (codes "a ") refl (Row.escape refl EscapeSequence.folded (raws (codes "; b") refl))) refl)))
    (skip (white refl) whole))

-- Behind a header a mark begins a note, and needs no blank.
pub behind_a_header : Derives with_notes (codes "[a] ; note\nk=v\n")
    (Header (codes "a") ∷ Pair (codes "k") (codes "v") ∷ [])
behind_a_header = derives (
    give (plain_header (codes "a") refl) (skip (white refl) (
    skip (Element.note refl refl (note_of semicolon (codes " note") refl)) (skip (white refl) (
    give (plain_pair (codes "k") (codes "v") refl) (skip (white refl) whole))))))

pub directly_behind_a_header : Derives with_notes (codes "[a];n\nk=v\n")
    (Header (codes "a") ∷ Pair (codes "k") (codes "v") ∷ [])
directly_behind_a_header = derives (
    give (plain_header (codes "a") refl) (
    skip (Element.note refl refl (note_of semicolon (codes "n") refl)) (skip (white refl) (
    give (plain_pair (codes "k") (codes "v") refl) (skip (white refl) whole)))))

-- A name keeps a mark, and so does a key that runs on.
pub in_a_name : Derives with_notes (codes "[a ;b]\n") (Header (codes "a ;b") ∷ [])
in_a_name = derives (give (plain_header (codes "a ;b") refl) (skip (white refl) whole))

pub in_a_key : Derives with_notes (codes "a ;b=c\n") (Pair (codes "a ;b") (codes "c") ∷ [])
in_a_key = derives (give (plain_pair (codes "a ;b") (codes "c") refl) (skip (white refl) whole))

-- Where brackets may stand in names, a note ends a header, with its name or without.
abbrev with_notes_and_brackets : ParseOption
with_notes_and_brackets = record with_notes { enabled_brackets_in_section_names = true }

pub behind_a_bracketed_header : Derives with_notes_and_brackets (codes "[a] ; n") (Header (codes "a") ∷ [])
behind_a_bracketed_header = derives (
    give (Element.bracketed_header {name = codes "a"} refl (noted_string (codes "a]") space refl)
    (record { blanks = codes " "; blank = refl; whole = refl }))
    (skip (Element.note refl refl (note_of semicolon (codes " n") refl)) whole))

pub in_a_bracketed_name : StopsAt with_notes_and_brackets (codes "[a ;b]\n") HeaderEnd 1 5
in_a_bracketed_name = stops_at (stop (ElementStops.no_header_end refl (noted_string (codes "a") space refl)
    (no_name (codes "a ") refl))) refl refl

pub directly_behind_a_bracketed_header : StopsAt with_notes_and_brackets (codes "[a];n\n") HeaderEnd 2 1
directly_behind_a_bracketed_header = stops_at (stop (ElementStops.no_header_end refl
    (raw_string (codes "a];n") refl) (no_name (codes "a];n") refl))) refl refl

-- A key that ends with its line ends before a note.
pub behind_a_lone_key : Derives (record with_notes { line_without_separator = Key }) (codes "skip-x # n\n")
    (Pair (codes "skip-x") [] ∷ [])
behind_a_lone_key = derives (
    give (Element.lone_key refl (KeyFront.unindented refl (noted_string (codes "skip-x") space refl))
    (not_empty refl) refl) (
    skip (Element.note refl refl (note_of hash (codes " n") refl)) (skip (white refl) whole)))

pub behind_a_refused_key : StopsAt (record with_notes { line_without_separator = Refused })
    (codes "a ;b=c\n") NoSeparator 1 4
behind_a_refused_key = stops_at (stop (ElementStops.no_separator refl
    (KeyFront.unindented refl (noted_string (codes "a") space refl)) refl)) refl refl

-- Among a value's lines one that a mark begins is text, but with indented comments it gives nothing.
abbrev with_notes_and_lines : ParseOption
with_notes_and_lines = record with_notes { enabled_indented_mutiline_value = true }

pub line_begun_by_a_mark : Derives with_notes_and_lines (codes "k=a\n ; c\n b\n")
    (Pair (codes "k") (codes "a\n; c\nb") ∷ [])
line_begun_by_a_mark = derives (
    give (pair_of (codes "k") refl refl
    (Value.lines {w = []} refl (lead _ _ refl) (plain_line (codes "a") refl) LineEnd.lf
    (MoreLines.continued {w = codes " "} (goes_on refl (lead _ _ refl) refl) (plain_line (codes "; c") refl)
    LineEnd.lf (MoreLines.continued {w = codes " "} (goes_on refl (lead _ _ refl) refl)
    (plain_line (codes "b") refl) LineEnd.lf (MoreLines.done tt tt))))) whole)

pub comment_and_note : Derives (record with_notes_and_lines { enabled_indented_comment = true })
    (codes "k=\n ; c\n\n b ; d\n") (Pair (codes "k") (codes "b") ∷ [])
comment_and_note = derives (
    give (pair_of (codes "k") refl refl
    (Value.lines {w = []} refl (lead _ _ refl) (plain_line [] refl) LineEnd.lf
    (MoreLines.comment (CommentLine.comment {w = codes " "} {n = codes "; c"} refl refl (lead _ _ refl)
    (note_of semicolon (codes " c") refl)) LineEnd.lf (MoreLines.empty_lf
    (MoreLines.continued {w = codes " "} (goes_on refl (lead _ _ refl) refl)
    (noted_line (codes "b") space (note_of semicolon (codes " d") refl) refl) LineEnd.lf
    (MoreLines.done tt tt)))))) whole)
