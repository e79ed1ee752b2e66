-- How the first line end of a text in pieces is looked for.
use Rattle.std.specs.Prelude.{◌≡◌, ◌&&◌, ◌==◌, if◌then◌else◌, [], ◌∷◌, Option, None, Some}
use Rattle.ini_text.specs.Grammar.CharacterKinds.{carriage_return, is_line_feed, line_feed}
use Rattle.ini_text.specs.Grammar.Positions.{last_or}
use Rattle.ini_text.specs.Grammar.CharacterKinds.{begins}
use Rattle.ini_text.specs.declared.write.option.LineSeparator.{LineSeparator}
use Rattle.ini_text.specs.declared.write.option.LineSeparator.TheVariants.{CRLF, SystemDefault}
use Rattle.ini.specs.Texts.{Text}
use Rattle.ini_edit.specs.declared.source.lines.LineEndSearch.{LineEndSearch}

-- the first of CR LF and LF in a text
abbrev pub first_line_end : Text → Option LineSeparator
first_line_end [] = None
first_line_end (c ∷ cs) =
    if c == carriage_return && begins is_line_feed cs then Some CRLF
    else (if is_line_feed c then Some SystemDefault else first_line_end cs)

-- what is known once a text was gone over
pub record IsSearched (text : Text) (search : LineEndSearch) : Type 0 where
  pub found : search.found ≡ first_line_end text
  pub last : search.found ≡ None → search.last ≡ last_or line_feed text
