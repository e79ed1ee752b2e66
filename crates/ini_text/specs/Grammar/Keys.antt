-- Keys, indented and not.
use Rattle.std.specs.Prelude.{◌≡◌, ℕ, Bool, true, not, ◌&&◌, ◌||◌, ◌==◌, if◌then◌else◌, List, ◌++◌}
use Rattle.std.specs.Char.{is_whitespace}
use Rattle.std.specs.List.{list_all}
use Rattle.ini_text.specs.Grammar.CharacterKinds.{open_bracket, is_line_end, is_blank, is_comment_mark}
use Rattle.ini_text.specs.Grammar.CharacterKinds.{BeginsWith}
use Rattle.ini_text.specs.Grammar.Positions.{starts_line}
use Rattle.ini_text.specs.Grammar.WhiteSpace.{trimmed, end_trimmed}
use Rattle.ini_text.specs.Grammar.Strings.{Str, noted_key_ends}
use Rattle.ini_text.specs.Options.ReadOptions.{backslash_of}
use Rattle.ini_text.specs.declared.option.ParseOption.{ParseOption}

-- the blanks with which a line begins after the front b, at least one
pub record Indentation (b blanks : List ℕ) : Type 0 where
  pub at_line_start : starts_line b ≡ true
  pub some : BeginsWith is_blank blanks
  pub blank : list_all is_blank blanks ≡ true

-- a character with which an unindented key begins
abbrev pub begins_key : ℕ → Bool
begins_key c = not (is_whitespace c || is_comment_mark c || c == open_bracket)

-- where indented comments are on, a character that begins one
abbrev pub begins_note : ParseOption → ℕ → Bool
begins_note o c = o.enabled_indented_comment && is_comment_mark c

-- a character with which the string of an indented key begins
abbrev pub begins_indented_key : ParseOption → ℕ → Bool
begins_indented_key o c = not (is_blank c || is_line_end c || c == open_bracket || begins_note o c)

-- The source of a key before r, which begins with what ends a key, or is the text's end where that ends one;
-- and the key. With kept indentation white space goes at the end alone.
pub data KeyFront (o : ParseOption) (b : List ℕ) : List ℕ → List ℕ → List ℕ → Type 0 where
  unindented : {s r v : List ℕ} → BeginsWith begins_key (s ++ r)
      → Str (backslash_of o) (noted_key_ends o) s r v
      → KeyFront o b s r (if o.enabled_preserve_key_leading_whitespace then end_trimmed v else trimmed v)
  indented : {w s r v : List ℕ} → Indentation b w → BeginsWith (begins_indented_key o) (s ++ r)
      → Str (backslash_of o) (noted_key_ends o) s r v
      → KeyFront o b (w ++ s) r (if o.enabled_preserve_key_leading_whitespace then end_trimmed (w ++ v)
      else trimmed v)
