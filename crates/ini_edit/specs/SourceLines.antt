-- Lines of what stands between the items of a text: line ends, comments, blank lines, what indents a header,
-- and a key that the text's end cuts short. Each is what follows a place of the text; the empty text where
-- there is no such place.
use Rattle.std.specs.Prelude.{Bool, true, false, not, ◌&&◌, ◌||◌, ◌==◌, if◌then◌else◌, ℕ, [], ◌∷◌, Option}
use Rattle.std.specs.Prelude.{None, Some}
use Rattle.std.specs.List.{list_all}
use Rattle.std.specs.Option.{option_or}
use Rattle.ini_text.specs.Grammar.CharacterKinds.{carriage_return, is_blank, is_comment_mark, is_line_end}
use Rattle.ini_text.specs.Grammar.CharacterKinds.{is_inline_white, is_line_feed}
use Rattle.ini_text.specs.Grammar.Keys.{begins_note}
use Rattle.ini_text.specs.Grammar.CharacterKinds.{begins}
use Rattle.ini_text.specs.Options.Backslashes.{begins_escape}
use Rattle.ini_text.specs.Options.ReadOptions.{backslash_of}
use Rattle.ini_text.specs.declared.option.ParseOption.{ParseOption}
use Rattle.ini.specs.Texts.{Text}

abbrev pub is_blank_or_line_end : ℕ → Bool
is_blank_or_line_end c = is_blank c || is_line_end c

abbrev pub is_empty : Text → Bool
is_empty [] = true
is_empty (c ∷ cs) = false

-- what follows the LF with which a text begins; the text itself where it begins with none
abbrev pub after_line_feed : Text → Text
after_line_feed [] = []
after_line_feed (c ∷ cs) = if is_line_feed c then cs else c ∷ cs

-- what follows the line end, LF, CR LF or CR, with which a text begins; the text itself where it begins with
-- none
abbrev pub after_line_end : Text → Text
after_line_end [] = []
after_line_end (c ∷ cs) =
    if is_line_feed c then cs else (if c == carriage_return then after_line_feed cs else c ∷ cs)

-- what follows a text's first line end
abbrev pub after_line : Text → Text
after_line [] = []
after_line (c ∷ cs) = if is_line_end c then after_line_end (c ∷ cs) else after_line cs

-- a text is one line end
abbrev pub is_one_line_end : Text → Bool
is_one_line_end text = begins is_line_end text && is_empty (after_line_end text)

-- the line end with which a text ends
abbrev pub line_end_at_end : Text → Text
line_end_at_end [] = []
line_end_at_end (c ∷ cs) = if is_one_line_end (c ∷ cs) then c ∷ cs else line_end_at_end cs

-- both characters are LF, or neither is
abbrev pub ends_alike : ℕ → ℕ → Bool
ends_alike c d = if is_line_feed c then is_line_feed d else not (is_line_feed d)

-- what follows a text's first LF
abbrev pub after_comment : Text → Text
after_comment [] = []
after_comment (c ∷ cs) = if is_line_feed c then cs else after_comment cs

-- whether a comment goes on after this character of it
abbrev pub is_in_comment : Bool → ℕ → Bool
is_in_comment inside c = (inside || is_comment_mark c) && not (is_line_feed c)

-- what follows the comment lines with which a text begins; `inside` says that it begins within one
abbrev pub after_comments : (inside : Bool) → Text → Text
after_comments inside [] = []
after_comments inside (c ∷ cs) =
    if inside || is_comment_mark c then after_comments (is_in_comment inside c) cs else c ∷ cs

-- a text is comment lines, of which LF ends each
abbrev pub are_comments : (inside : Bool) → Text → Bool
are_comments inside [] = not inside
are_comments inside (c ∷ cs) = (inside || is_comment_mark c) && are_comments (is_in_comment inside c) cs

-- the comment lines with which a text ends, as many as there are; before the text stands this character
abbrev pub comments_at_end : (before : ℕ) → Text → Text
comments_at_end before [] = []
comments_at_end before (c ∷ cs) =
    if is_line_feed before && are_comments false (c ∷ cs) then c ∷ cs else comments_at_end c cs

-- the blanks at a text's end that begin a line
abbrev pub indentation_at_end : (before : ℕ) → Text → Text
indentation_at_end before [] = []
indentation_at_end before (c ∷ cs) =
    if is_line_end before && list_all is_blank (c ∷ cs) then c ∷ cs else indentation_at_end c cs

-- what follows the blanks with which a text begins, and the blanks with which it ends
abbrev pub after_blanks : Text → Text
after_blanks [] = []
after_blanks (c ∷ cs) = if is_blank c then after_blanks cs else c ∷ cs

abbrev pub blanks_at_end : Text → Text
blanks_at_end [] = []
blanks_at_end (c ∷ cs) = if list_all is_blank (c ∷ cs) then c ∷ cs else blanks_at_end cs

-- a line ends with this character, before these
abbrev pub ends_line : ℕ → Text → Bool
ends_line c cs = is_line_feed c || (c == carriage_return && not (begins is_line_feed cs))

-- where a walk over the lines after a value stands: where a line starts, in the white space that begins it,
-- further within it, there behind a raw blank, after a backslash that takes what follows, or in a note
pub data LinePlace : Type 0 where
  line : LinePlace
  lead : LinePlace
  within : LinePlace
  space : LinePlace
  escape : LinePlace
  note : LinePlace

abbrev pub next_within : ParseOption → ℕ → LinePlace
next_within o c =
    if begins_escape (backslash_of o) c then LinePlace.escape
    else (if is_blank c then LinePlace.space else LinePlace.within)

-- the place one character on: CR alone ends a line too, and a backslash in a note takes nothing; with inline
-- comments a mark behind a raw blank begins a note, but not behind the white space that begins a line
abbrev pub next_place : ParseOption → LinePlace → ℕ → Text → LinePlace
next_place o LinePlace.line c cs =
    if ends_line c cs then LinePlace.line else (if is_blank c then LinePlace.lead else next_within o c)
next_place o LinePlace.lead c cs =
    if ends_line c cs then LinePlace.line
    else (if is_inline_white c then LinePlace.lead
    else (if begins_note o c then LinePlace.note else next_within o c))
next_place o LinePlace.within c cs = if ends_line c cs then LinePlace.line else next_within o c
next_place o LinePlace.space c cs =
    if ends_line c cs then LinePlace.line
    else (if o.enabled_inline_comment && is_comment_mark c then LinePlace.note else next_within o c)
next_place o LinePlace.escape c cs = LinePlace.within
next_place o LinePlace.note c cs =
    if ends_line c cs then LinePlace.line else (if is_line_end c then LinePlace.within else LinePlace.note)

abbrev pub is_line : LinePlace → Bool
is_line LinePlace.line = true
is_line LinePlace.lead = false
is_line LinePlace.within = false
is_line LinePlace.space = false
is_line LinePlace.escape = false
is_line LinePlace.note = false

-- a line of blanks alone, or of blanks and an indented comment, may go on with this character; within it
-- the LF after a CR alone
abbrev pub stays_quiet : ParseOption → LinePlace → ℕ → Bool
stays_quiet o LinePlace.line c = is_blank_or_line_end c
stays_quiet o LinePlace.lead c = is_blank_or_line_end c || begins_note o c
stays_quiet o LinePlace.within c = is_line_end c
stays_quiet o LinePlace.space c = false
stays_quiet o LinePlace.escape c = false
stays_quiet o LinePlace.note c = true

abbrev pub are_quiet : ParseOption → LinePlace → Text → Bool
are_quiet o p [] = true
are_quiet o p (c ∷ cs) = stays_quiet o p c && are_quiet o (next_place o p c cs) cs

-- Of the lines after a value the quiet ones at the end, from a line's start on: those of blanks alone, and
-- indented comments after blanks.
abbrev pub quiet_lines_from : ParseOption → LinePlace → Text → Text
quiet_lines_from o p [] = []
quiet_lines_from o p (c ∷ cs) =
    if is_line p && are_quiet o p (c ∷ cs) then c ∷ cs else quiet_lines_from o (next_place o p c cs) cs

abbrev pub quiet_lines_at_end : ParseOption → Text → Text
quiet_lines_at_end o text = quiet_lines_from o LinePlace.within text

-- a line ends where the lines of a value end
abbrev pub is_line_from : ParseOption → LinePlace → Text → Bool
is_line_from o p [] = is_line p
is_line_from o p (c ∷ cs) = is_line_from o (next_place o p c cs) cs

abbrev pub ends_in_line : ParseOption → Text → Bool
ends_in_line o text = is_line_from o LinePlace.within text

-- What a walk over gaps and comments is in: no comment; one in column one, which LF ends; or a note, which
-- LF or CR ends.
pub data CommentState : Type 0 where
  outside : CommentState
  comment : CommentState
  note : CommentState

abbrev pub is_outside : CommentState → Bool
is_outside CommentState.outside = true
is_outside CommentState.comment = false
is_outside CommentState.note = false

-- what it is in after this character: a mark after LF begins a comment, another one a note
abbrev pub next_comment : CommentState → (before c : ℕ) → CommentState
next_comment CommentState.outside before c =
    if is_comment_mark c then (if is_line_feed before then CommentState.comment else CommentState.note)
    else CommentState.outside
next_comment CommentState.comment before c =
    if is_line_feed c then CommentState.outside else CommentState.comment
next_comment CommentState.note before c =
    if is_line_end c then CommentState.outside else CommentState.note

-- a character with which an indented key may begin
abbrev pub may_begin_key : ParseOption → ℕ → Bool
may_begin_key o c = not (is_line_end c || begins_note o c)

-- The indented key that the text's end cuts short, of gaps and comments: where a line starts, and no comment
-- goes on, blanks and then what is no line end, nor the mark of an indented comment.
abbrev pub dropped_key_from : ParseOption → CommentState → (before : ℕ) → Text → Text
dropped_key_from o state before [] = []
dropped_key_from o state before (c ∷ cs) =
    if is_outside state && (is_line_end before
    && (is_blank c && begins (may_begin_key o) (after_blanks (c ∷ cs))))
    then c ∷ cs else dropped_key_from o (next_comment state before c) c cs

abbrev pub dropped_key : ParseOption → (before : ℕ) → Text → Text
dropped_key o before text = dropped_key_from o CommentState.outside before text

-- after this character that one begins a comment in column one, or is white space that is neither blank nor
-- a line end
abbrev pub begins_solid : (before c : ℕ) → Bool
begins_solid before c = not (is_blank_or_line_end c || (is_comment_mark c && not (is_line_feed before)))

-- gaps and comments from the last of these on
abbrev pub last_solid_from : CommentState → (before : ℕ) → Text → Option Text
last_solid_from state before [] = None
last_solid_from state before (c ∷ cs) =
    option_or (last_solid_from (next_comment state before c) c cs)
    (if is_outside state && begins_solid before c then Some (c ∷ cs) else None)

abbrev pub from_last_solid : (before : ℕ) → Text → Option Text
from_last_solid before text = last_solid_from CommentState.outside before text

-- what follows the blanks and line ends with which a text begins
abbrev pub after_blank_lines : Text → Text
after_blank_lines [] = []
after_blank_lines (c ∷ cs) = if is_blank_or_line_end c then after_blank_lines cs else c ∷ cs

-- one of the lines begins with a CR that no LF follows; `start` says that a line starts before them
abbrev pub has_lone_return : (start : Bool) → Text → Bool
has_lone_return start [] = false
has_lone_return start (c ∷ cs) =
    (start && (c == carriage_return && not (begins is_line_feed cs))) || has_lone_return (ends_line c cs) cs
