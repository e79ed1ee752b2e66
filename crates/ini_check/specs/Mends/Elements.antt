-- Of which element which mend mends what.
use Rattle.std.specs.Prelude.{[], ◌∷◌, ◌++◌, Bool, true, false, ℕ, Option, None, Some, if◌then◌else◌, chars}
use Rattle.ini_text.specs.Grammar.CharacterKinds.{backslash, close_bracket}
use Rattle.ini_text.specs.Grammar.Places as grammar
use Rattle.ini_text.specs.Parsing.Places.{stretches_of}
use Rattle.ini_text.specs.declared.option.ParseOption.{ParseOption}
use Rattle.ini_text.specs.declared.parser.placed.Content.{Content}
use Rattle.ini_text.specs.declared.parser.placed.Content.TheVariants as contents
use Rattle.ini.specs.Texts.{Text}
use Rattle.ini_check.specs.Traps.Keys.{comment_runs_on, has_key_escape, has_line_end, mark_begins_key}
use Rattle.ini_check.specs.Traps.LostLines.{begins_with_mark}
use Rattle.ini_check.specs.Traps.Values.{space_of, value_of}
use Rattle.ini_check.specs.Mends.Characters.{closed, space, with_comments_moved, with_escapes_doubled}
use Rattle.ini_check.specs.Mends.Characters.{with_line_ended, with_lines_parted, with_quote_closed}
use Rattle.ini_check.specs.Mends.Characters.{with_value_escapes_doubled}
use Rattle.ini_check.specs.declared.lexical.LexicalState.TheVariants.{Front}
use Rattle.ini_check.specs.declared.warning.Trap.{Trap}
use Rattle.ini_check.specs.declared.warning.Trap.TheVariants as traps

-- the source of what gives nothing
abbrev pub mended_nothing : Trap → Text → Text
mended_nothing traps.LoneCr source = if begins_with_mark source then with_line_ended source else source
mended_nothing _ source = source

-- the source of a header; `escapes` says whether escapes are read
abbrev pub mended_header : Bool → Trap → Text → Text
mended_header escapes traps.UnclosedBracket source =
    if has_line_end source then closed close_bracket true source else source
mended_header escapes traps.EscapeInName source =
    if escapes then with_escapes_doubled true false source else source
mended_header escapes _ source = source

-- the source of a pair's key
abbrev pub mended_key : Bool → Trap → Text → Text
mended_key escapes traps.CommentRunsOn key =
    if comment_runs_on key then with_comments_moved true false key else key
mended_key escapes traps.MarkBeginsKey key =
    if mark_begins_key key then with_comments_moved true false key else key
mended_key escapes traps.EscapeInKey key =
    if has_key_escape escapes key then with_escapes_doubled false false key else key
mended_key escapes _ key = key

-- the raw value of a pair, with what stands after it: where escapes are read a backslash at a line's end is
-- doubled, else a space is put in after it, which trimming takes
abbrev pub mended_value : ParseOption → Trap → Text → Text
mended_value o traps.UnclosedQuote value = with_quote_closed o Front value
mended_value o traps.JoinedLine value =
    with_lines_parted (if o.enabled_escape then backslash else space) o Front value
mended_value o traps.Escape value =
    if o.enabled_escape then with_value_escapes_doubled o Front value else value
mended_value o _ value = value

-- what stands after a key: the separator, and this source after it; a key alone has nothing after it
abbrev pub mended_after_key : ParseOption → Trap → Option ℕ → Text → Text
mended_after_key o trap None source = []
mended_after_key o trap (Some separator) source =
    separator ∷ (space_of source ++ mended_value o trap (value_of source))

-- the source of a pair, of which this stands after the separator
abbrev pub mended_pair : ParseOption → Trap → Text → Option ℕ → Text → Text
mended_pair o trap key separator source =
    mended_key o.enabled_escape trap key ++ mended_after_key o trap separator source

-- the source of an element, in which the trap is mended where it is there
abbrev pub mended : ParseOption → Trap → Text → Content → Text
mended o trap source contents.Nothing = mended_nothing trap source
mended o trap source (contents.Header name) = mended_header o.enabled_escape trap source
mended o trap source (contents.Pair pair) =
    mended_pair o trap (chars pair.places.key.now) pair.places.separator
    (grammar.value_source (stretches_of pair.places))
