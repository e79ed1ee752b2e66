-- Traps of quotes, at a place of a raw value: its lexical state, and what stands from there on.
use Rattle.std.specs.Prelude.{◌&&◌, ◌||◌, ◌==◌, not, Bool, true, false, [], ◌∷◌, ℕ, if◌then◌else◌}
use Rattle.std.specs.Char.{is_whitespace}
use Rattle.ini_text.specs.Grammar.CharacterKinds.{double_quote, is_comment_mark, is_line_end}
use Rattle.ini_text.specs.Grammar.CharacterKinds.{is_quote_mark, single_quote}
use Rattle.ini_text.specs.Options.Backslashes.{begins_escape}
use Rattle.ini_text.specs.Options.ReadOptions.{backslash_of}
use Rattle.ini_text.specs.declared.option.ParseOption.{ParseOption}
use Rattle.ini.specs.Texts.{Text}
use Rattle.ini_check.specs.Traps.LexicalStates.{is_before_comment, may_open}
use Rattle.ini_check.specs.declared.lexical.LexicalState.{LexicalState}
use Rattle.ini_check.specs.declared.lexical.LexicalState.TheVariants.{AfterQuote, Front, Trailing}
use Rattle.ini_check.specs.declared.lexical.LexicalState.TheVariants.{TrailingBlank}

-- a line ends before the quotes of this mark do; `escaped` says whether an open backslash stands before
abbrev pub leaves_line : ParseOption → ℕ → Bool → Text → Bool
leaves_line o mark escaped [] = false
leaves_line o mark escaped (c ∷ cs) =
    is_line_end c
    || (not (c == mark && not escaped)
    && leaves_line o mark (begins_escape (backslash_of o) c && not escaped) cs)

-- a mark opens quotes that aren't closed on its line
abbrev pub opens_unclosed : ParseOption → LexicalState → Text → Bool
opens_unclosed o state [] = false
opens_unclosed o state (c ∷ cs) =
    o.enabled_quote && (may_open state && (is_quote_mark c && leaves_line o c false cs))

-- text stands after a quoted part: right after it, where no other begins, or after white space, where no
-- note begins
abbrev pub is_text_after_quote : LexicalState → Text → Bool
is_text_after_quote AfterQuote (c ∷ cs) = not (is_whitespace c || is_quote_mark c)
is_text_after_quote Trailing (c ∷ cs) = not (is_whitespace c || is_comment_mark c)
is_text_after_quote TrailingBlank (c ∷ cs) = not (is_whitespace c || is_comment_mark c)
is_text_after_quote _ _ = false

-- up to the line's end there is white space alone
abbrev pub is_white_to_line_end : Text → Bool
is_white_to_line_end [] = true
is_white_to_line_end (c ∷ cs) = is_line_end c || (is_whitespace c && is_white_to_line_end cs)

-- up to the line's end, or an inline comment, there is white space alone
abbrev pub is_white_to_text_end : ParseOption → Text → Bool
is_white_to_text_end o [] = true
is_white_to_text_end o (c ∷ cs) =
    is_line_end c || (is_whitespace c && (is_before_comment o c cs || is_white_to_text_end o cs))

-- the first such mark of the line, which no backslash takes, ends it
abbrev pub ends_with_first : ParseOption → ℕ → Bool → Text → Bool
ends_with_first o mark escaped [] = false
ends_with_first o mark escaped (c ∷ cs) =
    if c == mark && not escaped then is_white_to_text_end o cs
    else (not (is_line_end c || (not escaped && is_before_comment o c cs))
    && ends_with_first o mark (begins_escape (backslash_of o) c && not escaped) cs)

-- a value that no mark begins ends its line with one
abbrev pub is_half_quoted : ParseOption → LexicalState → Text → Bool
is_half_quoted o Front (c ∷ cs) =
    o.enabled_quote && (not (is_quote_mark c)
    && (ends_with_first o double_quote false (c ∷ cs) || ends_with_first o single_quote false (c ∷ cs)))
is_half_quoted o _ _ = false
