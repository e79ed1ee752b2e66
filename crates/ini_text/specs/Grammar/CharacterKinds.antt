-- Characters by their codes, and the kinds of them that the grammar names. A text is the list of its
-- characters.
use Rattle.std.specs.Prelude.{◌≡◌, ℕ, Bool, true, false, not, ◌&&◌, ◌||◌, ◌==◌, List, [], ◌∷◌, ⊤}
use Rattle.std.specs.Char.{is_whitespace}

abbrev pub tab : ℕ
tab = 0x09

abbrev pub line_feed : ℕ
line_feed = 0x0A

abbrev pub carriage_return : ℕ
carriage_return = 0x0D

abbrev pub space : ℕ
space = 0x20

abbrev pub double_quote : ℕ
double_quote = 0x22

abbrev pub hash : ℕ
hash = 0x23

abbrev pub single_quote : ℕ
single_quote = 0x27

abbrev pub plus : ℕ
plus = 0x2B

abbrev pub colon : ℕ
colon = 0x3A

abbrev pub semicolon : ℕ
semicolon = 0x3B

abbrev pub equals : ℕ
equals = 0x3D

abbrev pub open_bracket : ℕ
open_bracket = 0x5B

abbrev pub backslash : ℕ
backslash = 0x5C

abbrev pub close_bracket : ℕ
close_bracket = 0x5D

abbrev pub letter_x : ℕ
letter_x = 0x78

-- a blank: a space or a tab
abbrev pub is_blank : ℕ → Bool
is_blank c = c == space || c == tab

abbrev pub is_line_feed : ℕ → Bool
is_line_feed c = c == line_feed

-- LF and CR alone end a line
abbrev pub is_line_end : ℕ → Bool
is_line_end c = c == line_feed || c == carriage_return

-- white space, but for the two line ends
abbrev pub is_inline_white : ℕ → Bool
is_inline_white c = is_whitespace c && not (is_line_end c)

-- a quote's mark
abbrev pub is_quote_mark : ℕ → Bool
is_quote_mark c = c == double_quote || c == single_quote

-- what stands between a key and its value
abbrev pub is_separator : ℕ → Bool
is_separator c = c == equals || c == colon

-- what begins a comment
abbrev pub is_comment_mark : ℕ → Bool
is_comment_mark c = c == semicolon || c == hash

-- the text has a first character, and it passes the test
abbrev pub begins : (ℕ → Bool) → List ℕ → Bool
begins test [] = false
begins test (c ∷ cs) = test c

abbrev pub BeginsWith : (ℕ → Bool) → List ℕ → Type 0
BeginsWith test [] = true ≡ false
BeginsWith test (c ∷ cs) = test c ≡ true

-- the text is empty, or its first character fails the test
abbrev pub BeginsWithNo : (ℕ → Bool) → List ℕ → Type 0
BeginsWithNo test [] = ⊤
BeginsWithNo test (c ∷ cs) = test c ≡ false
