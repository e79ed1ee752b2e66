-- Elements: gaps, comments, headers, pairs and a dropped tail, each after the front b.
use Rattle.std.specs.Prelude.{◌≡◌, ◌≢◌, ℕ, Bool, true, false, not, ◌&&◌, ◌||◌, List, [], ◌∷◌, ◌++◌}
use Rattle.std.specs.Char.{is_whitespace}
use Rattle.std.specs.List.{list_all}
use Rattle.ini_text.specs.Grammar.CharacterKinds.{line_feed, open_bracket, close_bracket, is_line_feed}
use Rattle.ini_text.specs.Grammar.CharacterKinds.{is_line_end, is_blank, is_separator, is_comment_mark}
use Rattle.ini_text.specs.Grammar.CharacterKinds.{BeginsWith, BeginsWithNo}
use Rattle.ini_text.specs.Grammar.Positions.{starts_line, is_column_one}
use Rattle.ini_text.specs.Grammar.WhiteSpace.{trimmed}
use Rattle.ini_text.specs.Grammar.Strings.{Str, StrStops, name_ends, bracketed_name_ends, key_ends, noted}
use Rattle.ini_text.specs.Grammar.Strings.{noted_key_ends}
use Rattle.ini_text.specs.Grammar.Lines.{Note}
use Rattle.ini_text.specs.Grammar.Values.{Value, ValueStops}
use Rattle.ini_text.specs.Grammar.Keys.{Indentation, begins_key, begins_indented_key, KeyFront}
use Rattle.ini_text.specs.Options.ReadOptions.{backslash_of}
use Rattle.ini_text.specs.declared.option.LoneLine.TheVariants.{RunsOn, Refused, Key}
use Rattle.ini_text.specs.declared.option.ParseOption.{ParseOption}
use Rattle.ini_text.specs.declared.error.ParseKind.{ParseKind}
use Rattle.ini_text.specs.declared.error.ParseKind.TheVariants.{EndOfText, HeaderEnd, InlineComment}
use Rattle.ini_text.specs.declared.error.ParseKind.TheVariants.{MissingKey, NoSeparator}

-- an item that a text gives: the name of a section, or a key with its value
pub data Given : Type 0 where
  Header : List ℕ → Given
  Pair : List ℕ → List ℕ → Given

-- a gap of source s before r
pub data Gap (b : List ℕ) : List ℕ → List ℕ → Type 0 where
  -- a line of blanks, with LF or CR
  blank_line : {w r : List ℕ} (c : ℕ) → Indentation b w → is_line_end c ≡ true → Gap b (w ++ c ∷ []) r
  -- the blanks before a header
  before_header : {w r : List ℕ} → Indentation b w → Gap b w (open_bracket ∷ r)
  -- one white character, but for a blank where a line starts
  white : {c : ℕ} {r : List ℕ} → is_whitespace c ≡ true → (is_blank c ≡ true → starts_line b ≡ false)
      → Gap b (c ∷ []) r

-- out of column one a note may stand after the front: with indented comments where a line starts, with inline
-- ones anywhere
abbrev pub may_have_note : ParseOption → List ℕ → Bool
may_have_note o b = o.enabled_inline_comment || o.enabled_indented_comment && starts_line b

-- what ends a line, or its part before a note
abbrev pub ends_part : ℕ → Bool
ends_part c = is_line_end c || is_comment_mark c

-- the text is a name, the bracket that ends it, and perhaps blanks
pub record IsBracketed (text name : List ℕ) : Type 0 where
  pub blanks : List ℕ
  pub blank : list_all is_blank blanks ≡ true
  pub whole : text ≡ name ++ close_bracket ∷ blanks

-- an element of source s before r, and what it gives
pub data Element (o : ParseOption) (b : List ℕ) : List ℕ → List ℕ → List Given → Type 0 where
  gap : {s r : List ℕ} → Gap b s r → Element o b s r []
  -- a comment stands in column one and goes through the next LF, or to the text's end
  comment : {m : ℕ} {r : List ℕ} (s : List ℕ) → is_column_one b ≡ true → is_comment_mark m ≡ true
      → list_all (λ c. not (is_line_feed c)) s ≡ true
      → Element o b (m ∷ (s ++ line_feed ∷ [])) r []
  last_comment : {m : ℕ} {s : List ℕ} → is_column_one b ≡ true → is_comment_mark m ≡ true
      → list_all (λ c. not (is_line_feed c)) s ≡ true
      → Element o b (m ∷ s) [] []
  -- with indented comments a note after the blanks that begin a line, up to its line's end
  indented_comment : {w s r : List ℕ} → o.enabled_indented_comment ≡ true → Indentation b w → Note s r
      → Element o b (w ++ s) r []
  -- a note elsewhere: after a CR, or behind what its line gives
  note : {s r : List ℕ} → may_have_note o b ≡ true → is_column_one b ≡ false → Note s r → Element o b s r []
  header : {s r v : List ℕ} → o.enabled_brackets_in_section_names ≡ false
      → Str (backslash_of o) name_ends s (close_bracket ∷ r) v
      → Element o b (open_bracket ∷ (s ++ close_bracket ∷ [])) r (Header (trimmed v) ∷ [])
  -- with brackets in names a header goes up to its line end or a note, and its last bracket ends the name
  bracketed_header : {s r v name : List ℕ} → o.enabled_brackets_in_section_names ≡ true
      → Str (backslash_of o) (noted o bracketed_name_ends) s r v → IsBracketed v name
      → Element o b (open_bracket ∷ s) r (Header (trimmed name) ∷ [])
  pair : {k s r key v : List ℕ} {m : ℕ} → KeyFront o b k (m ∷ (s ++ r)) key → key ≢ []
      → is_separator m ≡ true → Value o s r v
      → Element o b (k ++ m ∷ s) r (Pair key v ∷ [])
  -- where a line may be a key alone, a key that no separator follows has the empty value
  lone_key : {k r key : List ℕ} → o.line_without_separator ≡ Key → KeyFront o b k r key → key ≢ []
      → BeginsWithNo is_separator r → Element o b k r (Pair key [] ∷ [])
  -- blanks at the text's end, and, where keys run on, an indented one that the text's end cuts short
  dropped_blanks : {w : List ℕ} → Indentation b w → Element o b w [] []
  dropped_key : {w s : List ℕ} → o.line_without_separator ≡ RunsOn → Indentation b w
      → BeginsWith (begins_indented_key o) s → StrStops (backslash_of o) (key_ends RunsOn) s [] EndOfText
      → Element o b (w ++ s) [] []

-- an element's source at whose end reading stops, before r
pub data ElementStops (o : ParseOption) (b : List ℕ) : List ℕ → List ℕ → ParseKind → Type 0 where
  in_header : {s r : List ℕ} {kind : ParseKind} → o.enabled_brackets_in_section_names ≡ false
      → StrStops (backslash_of o) name_ends s r kind → ElementStops o b (open_bracket ∷ s) r kind
  in_bracketed_header : {s r : List ℕ} {kind : ParseKind} → o.enabled_brackets_in_section_names ≡ true
      → StrStops (backslash_of o) (noted o bracketed_name_ends) s r kind
      → ElementStops o b (open_bracket ∷ s) r kind
  -- no bracket ends the name, which is reported at the first character of the line end or of a note
  no_header_end : {s r v : List ℕ} {c : ℕ} → o.enabled_brackets_in_section_names ≡ true
      → Str (backslash_of o) (noted o bracketed_name_ends) s (c ∷ r) v
      → ((name : List ℕ) → ¬ IsBracketed v name)
      → ElementStops o b (open_bracket ∷ (s ++ c ∷ [])) r HeaderEnd
  in_key : {s r : List ℕ} {kind : ParseKind} → BeginsWith begins_key (s ++ r)
      → StrStops (backslash_of o) (noted_key_ends o) s r kind → ElementStops o b s r kind
  -- where keys run on, the text's end is no fault in an indented one
  in_indented_key : {w s r : List ℕ} {kind : ParseKind} → Indentation b w
      → BeginsWith (begins_indented_key o) (s ++ r)
      → StrStops (backslash_of o) (noted_key_ends o) s r kind
      → (o.line_without_separator ≡ RunsOn → kind ≢ EndOfText) → ElementStops o b (w ++ s) r kind
  no_key : {k r : List ℕ} {m : ℕ} → KeyFront o b k (m ∷ r) [] → is_separator m ≡ true
      → ElementStops o b (k ++ m ∷ []) r MissingKey
  -- where a line may be a key alone, one without a key, and such an end of the text
  no_lone_key : {k r : List ℕ} {c : ℕ} → o.line_without_separator ≡ Key → KeyFront o b k (c ∷ r) []
      → ends_part c ≡ true → ElementStops o b (k ++ c ∷ []) r MissingKey
  no_last_key : {k : List ℕ} → o.line_without_separator ≡ Key → KeyFront o b k [] []
      → ElementStops o b k [] EndOfText
  -- a line ends with its key, or a note follows that, which is reported at its first character
  no_separator : {k r key : List ℕ} {c : ℕ} → o.line_without_separator ≡ Refused
      → KeyFront o b k (c ∷ r) key → ends_part c ≡ true → ElementStops o b (k ++ c ∷ []) r NoSeparator
  in_value : {k s r key : List ℕ} {m : ℕ} {kind : ParseKind} → KeyFront o b k (m ∷ (s ++ r)) key → key ≢ []
      → is_separator m ≡ true → ValueStops o s r kind
      → ElementStops o b (k ++ m ∷ s) r kind
  -- a comment's mark that isn't in column one, nor where a note may stand
  late_comment : {m : ℕ} {r : List ℕ} → is_comment_mark m ≡ true → is_column_one b ≡ false
      → may_have_note o b ≡ false → ElementStops o b (m ∷ []) r InlineComment
