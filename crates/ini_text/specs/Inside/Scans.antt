-- Characters of a class at the front of a text.
use Rattle.std.specs.Prelude.{◌≡◌, ◌⊎◌, ℕ, Bool, not, ◌==◌, ◌&&◌, nat_lt, true, false, List, [], ◌∷◌}
use Rattle.std.specs.Prelude.{if◌then◌else◌}
use Rattle.std.specs.Char.{is_whitespace}
use Rattle.ini_text.specs.Grammar.CharacterKinds.{backslash, space, is_blank, is_inline_white, is_line_end}
use Rattle.ini_text.specs.Grammar.CharacterKinds.{is_line_feed, begins, is_comment_mark, BeginsWithNo}
use Rattle.ini_text.specs.Grammar.WhiteSpace.{trimmed, end_trimmed}
use Rattle.ini_text.specs.Grammar.Strings.{Ends, is_endpoint, is_before_note}
use Rattle.ini_text.specs.declared.text.Class.{Class}
use Rattle.ini_text.specs.declared.text.Class.TheVariants as classes

abbrev pub is_in : Class → ℕ → Bool
is_in classes.Space c = c == space
is_in classes.Blank c = is_blank c
is_in classes.InlineWhite c = is_inline_white c
is_in classes.LineFeed c = is_line_feed c

-- a character within a line
abbrev pub is_line_part : ℕ → Bool
is_line_part c = not (is_line_end c)

-- the character stands for itself in a string, and ends nothing
abbrev pub is_raw : Ends → ℕ → Bool
is_raw ends c = not (c == backslash) && not (is_endpoint ends c)

-- the characters stand for themselves in a string, and no note is among them
abbrev pub is_run : Ends → List ℕ → Bool
is_run ends [] = true
is_run ends (c ∷ cs) = is_raw ends c && (not (is_before_note ends c cs) && is_run ends cs)

-- behind the last character of a run a note begins
abbrev pub ends_before_note : Ends → List ℕ → List ℕ → Bool
ends_before_note ends [] next = false
ends_before_note ends (c ∷ []) next = is_before_note ends c next
ends_before_note ends (c ∷ d ∷ cs) next = ends_before_note ends (d ∷ cs) next

-- a character that begins no comment
abbrev pub is_no_mark : ℕ → Bool
is_no_mark c = not (is_comment_mark c)

-- what stands in a text from the first comment mark behind a blank on
abbrev pub from_note : List ℕ → List ℕ
from_note [] = []
from_note (c ∷ cs) = if is_blank c && begins is_comment_mark cs then cs else from_note cs

-- a run ends before what doesn't go on with it, or before a note
abbrev pub EndsRun : Ends → List ℕ → List ℕ → Type 0
EndsRun ends run next = BeginsWithNo (is_raw ends) next ⊎ (ends_before_note ends run next ≡ true)

-- the characters that pass a test, and what follows them
abbrev pub run_of : (ℕ → Bool) → List ℕ → List ℕ
run_of test [] = []
run_of test (c ∷ cs) = if test c then c ∷ run_of test cs else []

abbrev pub skipped : (ℕ → Bool) → List ℕ → List ℕ
skipped test [] = []
skipped test (c ∷ cs) = if test c then skipped test cs else c ∷ cs

-- white space is taken off both ends, or off the end alone
abbrev pub trimmed_at : Bool → List ℕ → List ℕ
trimmed_at both cs = if both then trimmed cs else end_trimmed cs

-- the first character is white space
abbrev pub begins_white : List ℕ → Bool
begins_white [] = false
begins_white (c ∷ cs) = is_whitespace c

-- a character of ASCII that is no white space
abbrev pub is_visible : ℕ → Bool
is_visible c = nat_lt space c && nat_lt c 0x7F
