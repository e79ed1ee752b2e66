-- Worked texts and a refusal where escapes are off and a backslash is a character like any other, by the
-- grammar alone.
use Rattle.std.proofs.Common.{true, [], ◌∷◌, refl}
use Rattle.std.specs.Prelude.{codes}
use Rattle.ini_text.specs.Options.ReadOptions.{default_parse_option, with_raw_backslashes}
use Rattle.ini_text.specs.Grammar.EscapeSequences.{EscapeSequence}
use Rattle.ini_text.specs.Grammar.Strings.{Row, Str, StrStops}
use Rattle.ini_text.specs.Grammar.Lines.{Quoted}
use Rattle.ini_text.specs.Grammar.Keys.{KeyFront}
use Rattle.ini_text.specs.Grammar.Elements.{Element, ElementStops}
use Rattle.ini_text.specs.Grammar.Elements.Given.{Pair}
use Rattle.ini_text.specs.Grammar.Texts.{Derives}
use Rattle.ini_text.specs.declared.error.ParseKind.TheVariants.{EndOfText}
use Rattle.ini_text.proofs.Worked.DerivationLemmas.{derives, characters, raws, raws_before, one_line, pair_of}
use Rattle.ini_text.proofs.Worked.DerivationLemmas.{plain_pair, unquoted_line, whole_line, not_empty, white}
use Rattle.ini_text.proofs.Worked.DerivationLemmas.RestGives.{whole, skip, give}
use Rattle.ini_text.proofs.Worked.DerivationLemmas.RestStops.{stop, past}
use Rattle.ini_text.proofs.Worked.WorkedRefusals.{StopsAt, stops_at}

-- A backslash at a line's end stays, and the value ends there.
pub path_with_a_last_backslash : Derives with_raw_backslashes (codes "p=C:\\x\\\nk=v\n")
    (Pair (codes "p") (codes "C:\\x\\") ∷ Pair (codes "k") (codes "v") ∷ [])
path_with_a_last_backslash = derives (
    give (pair_of (codes "p") refl refl (one_line refl refl
    (unquoted_line refl (characters (codes "C:\\x\\") refl) refl))) (skip (white refl) (
    give (plain_pair (codes "k") (codes "v") refl) (skip (white refl) whole))))

-- A separator behind a backslash ends the key.
pub key_with_a_last_backslash : Derives with_raw_backslashes (codes "a\\=b=c\n")
    (Pair (codes "a\\") (codes "b=c") ∷ [])
key_with_a_last_backslash = derives (
    give (Element.pair (KeyFront.unindented refl (Str.closed (characters (codes "a\\") refl) refl))
    (not_empty refl) refl (one_line refl refl (unquoted_line refl (raws (codes "b=c") refl) refl))) (
    skip (white refl) whole))

-- A mark behind a backslash ends a quoted part.
pub quoted_part_with_a_last_backslash : Derives with_raw_backslashes (codes "k=\"a\\\"b\"\n")
    (Pair (codes "k") (codes "a\\b\"") ∷ [])
quoted_part_with_a_last_backslash = derives (
    give (pair_of (codes "k") refl refl (one_line refl refl (whole_line
    (Quoted.part refl refl (Str.closed (characters (codes "a\\") refl) refl) Quoted.none)
    (λ _. refl) (raws (codes "b\"") refl) refl))) (skip (white refl) whole))

-- A bracket behind a backslash ends a name, and the rest of the line begins a key that the text's end cuts.
pub name_with_a_last_backslash : StopsAt with_raw_backslashes (codes "[a\\]b]\n") EndOfText 2 1
name_with_a_last_backslash = stops_at
    (past (Element.header refl (Str.closed (characters (codes "a\\") refl) refl))
    (stop (ElementStops.in_key refl (StrStops.at_end (raws (codes "b]\n") refl) refl)))) refl refl

-- With escapes on the option changes nothing: a backslash before LF goes with it.
pub continued_line_all_the_same : Derives (record default_parse_option { enabled_raw_backslash = true })
    (codes "k=a\\\n") (Pair (codes "k") (codes "a") ∷ [])
continued_line_all_the_same = derives (give (pair_of (codes "k") refl refl (one_line refl refl
    (unquoted_line refl (raws_before (codes "a") refl
    (Row.escape refl EscapeSequence.folded Row.none)) refl))) whole)
