-- Worked texts and refusals with brackets in names, by the grammar alone.
use Rattle.std.proofs.Common.{true, [], ◌∷◌, refl}
use Rattle.std.specs.Prelude.{codes}
use Rattle.ini_text.specs.Options.ReadOptions.{default_parse_option}
use Rattle.ini_text.specs.Grammar.Elements.{ElementStops}
use Rattle.ini_text.specs.Grammar.Elements.Given.{Header, Pair}
use Rattle.ini_text.specs.Grammar.Texts.{Derives}
use Rattle.ini_text.specs.declared.option.ParseOption.{ParseOption}
use Rattle.ini_text.specs.declared.error.ParseKind.TheVariants.{HeaderEnd}
use Rattle.ini_text.proofs.GrammarLemmas.BracketedNameLemmas.{no_name}
use Rattle.ini_text.proofs.Worked.DerivationLemmas.{derives, plain_pair, plain_bracketed_header, white}
use Rattle.ini_text.proofs.Worked.DerivationLemmas.{raw_string}
use Rattle.ini_text.proofs.Worked.DerivationLemmas.RestGives.{whole, skip, give}
use Rattle.ini_text.proofs.Worked.DerivationLemmas.RestStops.{stop}
use Rattle.ini_text.proofs.Worked.WorkedRefusals.{StopsAt, stops_at}

abbrev pub with_brackets : ParseOption
with_brackets = record default_parse_option { enabled_brackets_in_section_names = true }

-- The last bracket of the line ends the name.
pub last_bracket_ends_a_name : Derives with_brackets (codes "[a]]\nk=v\n")
    (Header (codes "a]") ∷ Pair (codes "k") (codes "v") ∷ [])
last_bracket_ends_a_name = derives (give (plain_bracketed_header (codes "a]") [] refl) (skip (white refl) (
    give (plain_pair (codes "k") (codes "v") refl) (skip (white refl) whole))))

-- After the last bracket stands something else than a blank, which is reported at the line end.
pub text_after_a_header : StopsAt with_brackets (codes "[a]x\n") HeaderEnd 2 1
text_after_a_header = stops_at
    (stop (ElementStops.no_header_end refl (raw_string (codes "a]x") refl) (no_name (codes "a]x") refl)))
    refl refl
