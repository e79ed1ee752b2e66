-- Where a character of a raw value stands: in quotes, after them, in the plain part, after a backslash that
-- takes it along, or in a comment.
use Rattle.std.specs.Prelude.{◌&&◌, ◌==◌, Bool, true, false, if◌then◌else◌, ℕ}
use Rattle.std.specs.Char.{is_whitespace}
use Rattle.ini_text.specs.Grammar.CharacterKinds.{is_blank, is_comment_mark, is_line_end, is_quote_mark}
use Rattle.ini_text.specs.Grammar.Keys.{begins_note}
use Rattle.ini_text.specs.Grammar.Strings.{is_before_note, noted, plain_ends}
use Rattle.ini_text.specs.Options.Backslashes.{begins_escape}
use Rattle.ini_text.specs.Options.ReadOptions.{backslash_of}
use Rattle.ini_text.specs.declared.option.ParseOption.{ParseOption}
use Rattle.ini.specs.Texts.{Text}
use Rattle.ini_check.specs.declared.lexical.LexicalState.{LexicalState}
use Rattle.ini_check.specs.declared.lexical.LexicalState.TheVariants.{AfterQuote, Front, LineFront, Note}
use Rattle.ini_check.specs.declared.lexical.LexicalState.TheVariants.{Plain, PlainBlank, PlainEscape, Quoted}
use Rattle.ini_check.specs.declared.lexical.LexicalState.TheVariants.{QuotedEscape, Trailing, TrailingBlank}

-- the character is a blank, and an inline comment begins the text behind it
abbrev pub is_before_comment : ParseOption → ℕ → Text → Bool
is_before_comment o c cs = is_before_note (noted o plain_ends) c cs

-- a quote's mark opens quotes at a line's front, and right after a quoted part
abbrev pub may_open : LexicalState → Bool
may_open Front = true
may_open LineFront = true
may_open AfterQuote = true
may_open _ = false

-- neither in quotes nor in a comment, nor after such a backslash
abbrev pub is_outside : LexicalState → Bool
is_outside (Quoted mark) = false
is_outside (QuotedEscape mark) = false
is_outside PlainEscape = false
is_outside Note = false
is_outside _ = true

-- after such a backslash
abbrev pub is_escaped : LexicalState → Bool
is_escaped (QuotedEscape mark) = true
is_escaped PlainEscape = true
is_escaped _ = false

-- the character is part of a comment, or ends its line: at the front of a later line a mark begins one, and
-- behind a blank, as the options say
abbrev pub is_noted : ParseOption → LexicalState → ℕ → Bool
is_noted o Note c = true
is_noted o LineFront c = begins_note o c
is_noted o TrailingBlank c = o.enabled_inline_comment && is_comment_mark c
is_noted o PlainBlank c = o.enabled_inline_comment && is_comment_mark c
is_noted o _ c = false

-- after this white space outside quotes
abbrev pub after_white : LexicalState → ℕ → LexicalState
after_white LineFront c = LineFront
after_white AfterQuote c = if is_blank c then TrailingBlank else Trailing
after_white Trailing c = if is_blank c then TrailingBlank else Trailing
after_white TrailingBlank c = if is_blank c then TrailingBlank else Trailing
after_white _ c = if is_blank c then PlainBlank else Plain

-- after a character outside quotes
abbrev pub after_outside : ParseOption → LexicalState → ℕ → LexicalState
after_outside o state c =
    if is_line_end c then LineFront
    else if is_noted o state c then Note
    else if begins_escape (backslash_of o) c then PlainEscape
    else if o.enabled_quote && (may_open state && is_quote_mark c) then Quoted c
    else if is_whitespace c then after_white state c
    else Plain

-- after a character between quotes of this mark
abbrev pub after_quoted : ParseOption → ℕ → ℕ → LexicalState
after_quoted o mark c =
    if begins_escape (backslash_of o) c then QuotedEscape mark
    else if c == mark then AfterQuote
    else Quoted mark

-- after a character
abbrev pub next_state : ParseOption → LexicalState → ℕ → LexicalState
next_state o (Quoted mark) c = after_quoted o mark c
next_state o (QuotedEscape mark) c = Quoted mark
next_state o PlainEscape c = Plain
next_state o Front c = after_outside o Front c
next_state o LineFront c = after_outside o LineFront c
next_state o AfterQuote c = after_outside o AfterQuote c
next_state o Trailing c = after_outside o Trailing c
next_state o TrailingBlank c = after_outside o TrailingBlank c
next_state o Plain c = after_outside o Plain c
next_state o PlainBlank c = after_outside o PlainBlank c
next_state o Note c = after_outside o Note c
