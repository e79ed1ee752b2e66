-- Worked refusals: where reading written-out texts stops, and with which kind, by the grammar alone.
use Rattle.std.proofs.Common.{◌≡◌, ℕ, List, [], refl, arith}
use Rattle.std.specs.Prelude.{codes}
use Rattle.ini_text.specs.Options.ReadOptions.{default_parse_option}
use Rattle.ini_text.specs.Grammar.EscapeSequences.{Units, EscapeStops, spelled}
use Rattle.ini_text.specs.Grammar.Strings.{Row, StrStops}
use Rattle.ini_text.specs.Grammar.Lines.{Quoted, LineStops}
use Rattle.ini_text.specs.Grammar.Values.{LineEnd, MoreLinesStop, ValueStops}
use Rattle.ini_text.specs.Grammar.Elements.{ElementStops}
use Rattle.ini_text.specs.Grammar.Texts.{Stops}
use Rattle.ini_text.specs.Grammar.Positions.{line_of, column_of}
use Rattle.ini_text.specs.declared.option.ParseOption.{ParseOption}
use Rattle.ini_text.specs.declared.error.ParseKind.{ParseKind}
use Rattle.ini_text.specs.declared.error.ParseKind.TheVariants.{EndOfText, BrokenEscape, UnknownCharacter}
use Rattle.ini_text.specs.declared.error.ParseKind.TheVariants.{InlineComment, MissingKey, CrAlone}
use Rattle.ini_text.proofs.Worked.DerivationLemmas.{stops, differs, plain_pair, white, raws, plain_key}
use Rattle.ini_text.proofs.Worked.DerivationLemmas.{plain_line, lead, stops_in_value_of, units_before}
use Rattle.ini_text.proofs.Worked.DerivationLemmas.{RestStops}
use Rattle.ini_text.proofs.Worked.DerivationLemmas.RestStops.{stop, past}
use Rattle.ini_text.proofs.Worked.WorkedTexts.{with_multiline_values}

-- Reading the text stops with this kind at this line and column.
abbrev pub StopsAt : ParseOption → List ℕ → ParseKind → ℕ → ℕ → Type 0
StopsAt o T kind line column =
    (front : List ℕ) × Stops o T kind front × (line_of front ≡ line) × (column_of front ≡ column)

pub stops_at : {o : ParseOption} {T f : List ℕ} {kind : ParseKind} {line column : ℕ}
    → RestStops o [] T kind f → line_of f ≡ line → column_of f ≡ column
    → StopsAt o T kind line column
stops_at {f = f} rest at_line at_column = (f, stops rest, at_line, at_column)

-- The text ends in quotes.
pub end_in_quotes : StopsAt default_parse_option (codes "k=\"a") EndOfText 1 5
end_in_quotes =
    stops_at (stop (stops_in_value_of (codes "k") refl refl (ValueStops.first_line {w = []} (lead _ _ refl)
    (LineStops.in_quotes Quoted.none refl refl (StrStops.at_end (raws (codes "a") refl) refl))))) refl refl

-- Among an escape's units a backslash stands before a character other than LF.
pub broken_escape : StopsAt default_parse_option (codes "k=\\x00\\z") BrokenEscape 1 9
broken_escape =
    stops_at (stop (stops_in_value_of (codes "k") refl refl (ValueStops.first_line {w = []} (lead _ _ refl)
    (LineStops.in_plain Quoted.none (λ _. refl)
    (StrStops.in_escape Row.none refl
    (EscapeStops.broken (units_before (codes "00") refl Units.none) (omega arith) (differs refl)))))))
    refl refl

-- A surrogate is no character.
pub surrogate : StopsAt default_parse_option (codes "k=\\xD800") UnknownCharacter 1 9
unfolding spelled
surrogate =
    stops_at (stop (stops_in_value_of (codes "k") refl refl (ValueStops.first_line {w = []} (lead _ _ refl)
    (LineStops.in_plain Quoted.none (λ _. refl)
    (StrStops.in_escape Row.none refl
    (EscapeStops.unknown (units_before (codes "D800") refl Units.none) refl refl)))))) refl refl

-- A comment's mark after CR isn't in column one.
pub comment_after_cr : StopsAt default_parse_option (codes "k=v\r# c\n") InlineComment 1 6
comment_after_cr = stops_at
    (past (plain_pair (codes "k") (codes "v") refl)
    (past (white refl) (stop (ElementStops.late_comment refl refl refl)))) refl refl

-- A separator stands without a key.
pub missing_key : StopsAt default_parse_option (codes "=v") MissingKey 1 2
missing_key = stops_at (stop (ElementStops.no_key {k = []} (plain_key [] refl) refl)) refl refl

-- In a multiline value CR stands in an empty line's place, before a character other than LF.
pub cr_alone : StopsAt with_multiline_values (codes "k=v\n\rx") CrAlone 2 3
cr_alone = stops_at (stop (stops_in_value_of (codes "k") refl refl
    (ValueStops.later_line {w = []} refl (lead _ _ refl) (plain_line (codes "v") refl) LineEnd.lf
    (MoreLinesStop.cr_alone refl)))) refl refl
