-- How a new line of a text ends: as the text's own lines do.
use Rattle.std.specs.Prelude.{[], ◌∷◌, ◌==◌, ◌&&◌, if◌then◌else◌}
use Rattle.ini_text.specs.Grammar.CharacterKinds.{carriage_return, line_feed, is_line_feed, begins}
use Rattle.ini_text.specs.declared.write.option.LineSeparator.{LineSeparator}
use Rattle.ini_text.specs.declared.write.option.LineSeparator.TheVariants.{CRLF, SystemDefault}
use Rattle.ini_text.specs.declared.write.option.WriteOption.{WriteOption}
use Rattle.ini.specs.Texts.{Text}

-- CR LF or LF, whichever is the first in the text; the other one where the text has no LF
abbrev pub line_end_of : LineSeparator → Text → LineSeparator
line_end_of other [] = other
line_end_of other (c ∷ T) =
    if c == carriage_return && begins is_line_feed T then CRLF
    else (if c == line_feed then SystemDefault else line_end_of other T)

-- the options with the text's line end
abbrev pub like_lines_of : Text → WriteOption → WriteOption
like_lines_of T w = record {
  escape_policy = w.escape_policy;
  line_separator = line_end_of w.line_separator T;
  kv_separator = w.kv_separator;
}
