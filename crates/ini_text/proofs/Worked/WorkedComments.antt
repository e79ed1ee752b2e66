-- Worked texts and refusals where indented comments are on, by the grammar alone.
use Rattle.std.proofs.Common.{[], ◌∷◌, refl}
use Rattle.std.specs.Prelude.{codes, true}
use Rattle.ini_text.specs.Options.ReadOptions.{default_parse_option}
use Rattle.ini_text.specs.Grammar.EscapeSequences.{EscapeSequence}
use Rattle.ini_text.specs.Grammar.Keys.{KeyFront}
use Rattle.ini_text.specs.Grammar.Strings.{Row, Str}
use Rattle.ini_text.specs.Grammar.Lines.{Note}
use Rattle.ini_text.specs.Grammar.Values.{CommentLine, LineEnd, MoreLines, MoreLinesStop, Value, ValueStops}
use Rattle.ini_text.specs.Grammar.Elements.{Element}
use Rattle.ini_text.specs.Grammar.Elements.Given.{Pair}
use Rattle.ini_text.specs.Grammar.Texts.{Derives}
use Rattle.ini_text.specs.declared.option.ParseOption.{ParseOption}
use Rattle.ini_text.specs.declared.error.ParseKind.TheVariants.{CrAlone}
use Rattle.ini_text.proofs.Worked.DerivationLemmas.{derives, differs, goes_on, indentation, lead, not_empty}
use Rattle.ini_text.proofs.Worked.DerivationLemmas.{one_line, pair_of, plain_line, plain_pair, raws}
use Rattle.ini_text.proofs.Worked.DerivationLemmas.{stops_in_value_of, white}
use Rattle.ini_text.proofs.Worked.DerivationLemmas.RestGives.{whole, skip, give}
use Rattle.ini_text.proofs.Worked.DerivationLemmas.RestStops.{stop}
use Rattle.ini_text.proofs.Worked.WorkedRefusals.{StopsAt, stops_at}

abbrev pub with_comments : ParseOption
with_comments = record default_parse_option { enabled_indented_comment = true }

abbrev pub with_comments_and_lines : ParseOption
with_comments_and_lines = record with_comments { enabled_indented_mutiline_value = true }

-- Blanks and a mark begin a comment, which ends before its line's end.
pub indented : Derives with_comments (codes "  ; c\nk=v\n") (Pair (codes "k") (codes "v") ∷ [])
indented = derives (
    skip (Element.indented_comment {w = codes "  "} refl (indentation _ _ refl)
    (Note.note {s = codes " c"} refl refl refl)) (
    skip (white refl) (give (plain_pair (codes "k") (codes "v") refl) (skip (white refl) whole))))

-- So does a tab, and the text's end ends a comment.
pub to_the_end : Derives with_comments (codes "\t# a=b") []
to_the_end = derives (
    skip (Element.indented_comment {w = codes "\t"} refl (indentation _ _ refl)
    (Note.note {s = codes " a=b"} refl refl refl)) whole)

-- A mark behind CR begins one that CR ends.
pub behind_cr : Derives with_comments (codes "k=v\r# c\rj=w\n")
    (Pair (codes "k") (codes "v") ∷ Pair (codes "j") (codes "w") ∷ [])
behind_cr = derives (
    give (plain_pair (codes "k") (codes "v") refl) (skip (white refl) (
    skip (Element.note refl refl (Note.note {s = codes " c"} refl refl refl)) (
    skip (white refl) (give (plain_pair (codes "j") (codes "w") refl) (skip (white refl) whole))))))

-- A backslash keeps a mark in a key.
pub escaped_mark : Derives with_comments (codes "  \\;a=b\n") (Pair (codes ";a") (codes "b") ∷ [])
escaped_mark = derives (
    give (Element.pair (KeyFront.indented {w = codes "  "} (indentation _ _ refl) refl
    (Str.closed (Row.escape refl (EscapeSequence.itself refl (differs refl) (differs refl) refl)
    (raws (codes "a") refl)) refl)) (not_empty refl) refl
    (one_line refl refl (plain_line (codes "b") refl))) (
    skip (white refl) whole))

-- Among a value's lines a comment gives nothing, not even a line feed.
pub in_a_value : Derives with_comments_and_lines (codes "k=a\n ; c\n b\n")
    (Pair (codes "k") (codes "a\nb") ∷ [])
in_a_value = derives (
    give (pair_of (codes "k") refl refl
    (Value.lines {w = []} refl (lead _ _ refl) (plain_line (codes "a") refl) LineEnd.lf
    (MoreLines.comment (CommentLine.comment {w = codes " "} {n = codes "; c"} refl refl (lead _ _ refl)
    (Note.note {s = codes " c"} refl refl refl)) LineEnd.lf
    (MoreLines.continued {w = codes " "} (goes_on refl (lead _ _ refl) refl) (plain_line (codes "b") refl)
    LineEnd.lf (MoreLines.done tt tt))))) whole)

-- In column one it ends the value.
pub after_a_value : Derives with_comments_and_lines (codes "k=a\n; c\n")
    (Pair (codes "k") (codes "a") ∷ [])
after_a_value = derives (
    give (pair_of (codes "k") refl refl
    (Value.lines {w = []} refl (lead _ _ refl) (plain_line (codes "a") refl) LineEnd.lf
    (MoreLines.done refl refl)))
    (skip (Element.comment {m = 0x3B} (codes " c") refl refl refl) whole))

-- After a comment too a CR stands in an empty line's place.
pub cr_after_a_comment : StopsAt with_comments_and_lines (codes "k=a\n ; c\n\rb") CrAlone 3 3
cr_after_a_comment = stops_at (stop (stops_in_value_of (codes "k") refl refl
    (ValueStops.later_line {w = []} refl (lead _ _ refl) (plain_line (codes "a") refl) LineEnd.lf
    (MoreLinesStop.comment (CommentLine.comment {w = codes " "} {n = codes "; c"} refl refl (lead _ _ refl)
    (Note.note {s = codes " c"} refl refl refl)) LineEnd.lf (MoreLinesStop.cr_alone refl))))) refl refl
