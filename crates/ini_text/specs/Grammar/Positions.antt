-- Where a front of a text ends. A front is what stands before a cut.
use Rattle.std.specs.Prelude.{ℕ, ◌+◌, Bool, List, [], ◌∷◌, length, count_by, if◌then◌else◌}
use Rattle.std.specs.List.{list_any}
use Rattle.ini_text.specs.Grammar.CharacterKinds.{line_feed, is_line_feed, is_line_end}

-- the last character, and d where the text is empty
abbrev pub last_or : ℕ → List ℕ → ℕ
last_or d [] = d
last_or d (c ∷ cs) = last_or c cs

-- a line starts where the front is empty or ends in LF or CR
abbrev pub starts_line : List ℕ → Bool
starts_line front = is_line_end (last_or line_feed front)

-- column one is where the front is empty or ends in LF
abbrev pub is_column_one : List ℕ → Bool
is_column_one front = is_line_feed (last_or line_feed front)

-- what follows the last LF of a text, and all of it where there is none
abbrev pub last_line : List ℕ → List ℕ
last_line [] = []
last_line (c ∷ cs) = if list_any is_line_feed (c ∷ cs) then last_line cs else c ∷ cs

-- one more than the front has LFs
abbrev pub line_of : List ℕ → ℕ
line_of front = 1 + count_by is_line_feed front

-- one more than there are characters after the front's last LF
abbrev pub column_of : List ℕ → ℕ
column_of front = 1 + length (last_line front)
