-- Traps of a value as a whole: of what stands after its separator.
use Rattle.std.specs.Prelude.{◌&&◌, ◌||◌, ◌==◌, not, Bool, true, false, [], ◌∷◌, ℕ, if◌then◌else◌}
use Rattle.std.specs.Char.{is_whitespace}
use Rattle.ini_text.specs.Grammar.CharacterKinds.{hash, is_blank, is_comment_mark, is_inline_white}
use Rattle.ini_text.specs.Grammar.CharacterKinds.{is_line_end, semicolon}
use Rattle.ini_text.specs.declared.option.ParseOption.{ParseOption}
use Rattle.ini.specs.Texts.{Text}
use Rattle.ini_check.specs.Traps.LexicalStates.{is_noted, is_outside, next_state}
use Rattle.ini_check.specs.declared.lexical.LexicalState.{LexicalState}
use Rattle.ini_check.specs.declared.lexical.LexicalState.TheVariants.{Front}

-- the white space before the value
abbrev pub space_of : Text → Text
space_of [] = []
space_of (c ∷ cs) = if is_inline_white c then c ∷ space_of cs else []

-- the value, with what stands after it
abbrev pub value_of : Text → Text
value_of [] = []
value_of (c ∷ cs) = if is_inline_white c then value_of cs else c ∷ cs

-- its first line
abbrev pub first_line : Text → Text
first_line [] = []
first_line (c ∷ cs) = if is_line_end c then [] else c ∷ first_line cs

-- a comment's mark stands after white space, outside quotes, and begins no comment; whether the text stands
-- after white space, `white` says
abbrev pub has_mark_after_white : ParseOption → LexicalState → Bool → Text → Bool
has_mark_after_white o state white [] = false
has_mark_after_white o state white (c ∷ cs) =
    (white && (is_outside state && (is_comment_mark c && not (is_noted o state c))))
    || has_mark_after_white o (next_state o state c) (is_whitespace c) cs

abbrev pub is_empty_or_white_first : Text → Bool
is_empty_or_white_first [] = true
is_empty_or_white_first (c ∷ cs) = is_whitespace c

-- The value begins as a note does: with `;`, or with `#` that stands alone. (`#fff` is a color.)
abbrev pub begins_like_note : Text → Bool
begins_like_note [] = false
begins_like_note (c ∷ cs) = c == semicolon || (c == hash && is_empty_or_white_first cs)

-- a comment's mark is part of the value, outside quotes
abbrev pub has_comment_mark : ParseOption → Text → Bool
has_comment_mark o value = begins_like_note value || has_mark_after_white o Front false value

-- white space that trimming takes, and that is neither a blank nor a line end
abbrev pub is_odd_white : ℕ → Bool
is_odd_white c = is_whitespace c && not (is_blank c || is_line_end c)

-- such white space stands in the white space at the front
abbrev pub has_odd_front : Text → Bool
has_odd_front [] = false
has_odd_front (c ∷ cs) = is_inline_white c && (is_odd_white c || has_odd_front cs)

-- after a character, such white space stands right before, with white space and comments alone between;
-- `odd` says whether it does before the character
abbrev pub goes_on_odd : ParseOption → LexicalState → Bool → ℕ → Bool
goes_on_odd o state odd c =
    if is_noted o state c then odd else (is_whitespace c && (odd || is_odd_white c))

-- such white space stands in the white space at the end of a raw value
abbrev pub has_odd_end : ParseOption → LexicalState → Bool → Text → Bool
has_odd_end o state odd [] = odd
has_odd_end o state odd (c ∷ cs) = has_odd_end o (next_state o state c) (goes_on_odd o state odd c) cs

-- such white space stands around the value
abbrev pub has_odd_space : ParseOption → Text → Bool
has_odd_space o source = has_odd_front source || has_odd_end o Front false (value_of source)
