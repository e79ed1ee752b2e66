-- Strings: rows of pieces up to an endpoint.
use Rattle.std.specs.Prelude.{◌≡◌, ℕ, Bool, true, false, ◌&&◌, ◌==◌, List, [], ◌∷◌, ◌++◌}
use Rattle.std.specs.List.{list_any}
use Rattle.ini_text.specs.Grammar.CharacterKinds.{backslash, line_feed, carriage_return, close_bracket}
use Rattle.ini_text.specs.Grammar.CharacterKinds.{equals, colon, is_blank, is_comment_mark, begins}
use Rattle.ini_text.specs.Options.Backslashes.{Backslash, is_special, reads_escapes, begins_escape}
use Rattle.ini_text.specs.Grammar.EscapeSequences.{EscapeSequence, EscapeStops}
use Rattle.ini_text.specs.declared.option.LoneLine.{LoneLine}
use Rattle.ini_text.specs.declared.option.LoneLine.TheVariants.{RunsOn, Refused, Key}
use Rattle.ini_text.specs.declared.option.ParseOption.{ParseOption}
use Rattle.ini_text.specs.declared.error.ParseKind.{ParseKind}
use Rattle.ini_text.specs.declared.error.ParseKind.TheVariants.{EndOfText}

-- where a string ends: at which characters, and whether also at the text's end, and before notes
pub record Ends : Type 0 where
  pub characters : List ℕ
  pub text : Bool
  pub notes : Bool

-- a name ends at a closing bracket
abbrev pub name_ends : Ends
name_ends = record { characters = close_bracket ∷ []; text = false; notes = false }

-- with brackets in names a name ends with its line
abbrev pub bracketed_name_ends : Ends
bracketed_name_ends = record { characters = line_feed ∷ carriage_return ∷ []; text = false; notes = false }

-- a key ends at a separator, with its line where one without separator is refused, and with the text too
-- where a line may be a key alone
abbrev pub key_ends : LoneLine → Ends
key_ends RunsOn = record { characters = equals ∷ colon ∷ []; text = false; notes = false }
key_ends Refused =
    record { characters = equals ∷ colon ∷ line_feed ∷ carriage_return ∷ []; text = false; notes = false }
key_ends Key =
    record { characters = equals ∷ colon ∷ line_feed ∷ carriage_return ∷ []; text = true; notes = false }

-- a quoted part ends at its own mark
abbrev pub quote_ends : ℕ → Ends
quote_ends mark = record { characters = mark ∷ []; text = false; notes = false }

-- a plain part ends with its line or with the text
abbrev pub plain_ends : Ends
plain_ends = record { characters = line_feed ∷ carriage_return ∷ []; text = true; notes = false }

-- these ends, and, where inline comments are on, before notes too
abbrev pub noted : ParseOption → Ends → Ends
noted o ends =
    record { characters = ends.characters; text = ends.text; notes = o.enabled_inline_comment }

abbrev pub ends_with_line : LoneLine → Bool
ends_with_line RunsOn = false
ends_with_line Refused = true
ends_with_line Key = true

-- a key that ends with its line ends before a note too
abbrev pub noted_key_ends : ParseOption → Ends
noted_key_ends o =
    let ends = key_ends o.line_without_separator in
    record {
      characters = ends.characters;
      text = ends.text;
      notes = ends_with_line o.line_without_separator && o.enabled_inline_comment;
    }

abbrev pub is_endpoint : Ends → ℕ → Bool
is_endpoint ends c = list_any (λ e. c == e) ends.characters

-- the character is a blank, and a note begins the text behind it
abbrev pub is_before_note : Ends → ℕ → List ℕ → Bool
is_before_note ends c r = ends.notes && (is_blank c && begins is_comment_mark r)

-- A row of pieces and their values joined. A raw character stands for itself; it is neither an endpoint nor
-- a backslash that takes the next character along, nor a blank before a note.
pub data Row (b : Backslash) (ends : Ends) : List ℕ → List ℕ → Type 0 where
  none : Row b ends [] []
  raw : {c : ℕ} {s v : List ℕ} → begins_escape b c ≡ false → is_endpoint ends c ≡ false
      → is_before_note ends c s ≡ false → Row b ends s v → Row b ends (c ∷ s) (c ∷ v)
  escape : {p w s v : List ℕ} → is_special b ≡ true → EscapeSequence (reads_escapes b) p w → Row b ends s v
      → Row b ends (p ++ s) (w ++ v)

-- the text begins with one of these characters, or is empty where its end is an endpoint
abbrev pub ClosesAt : List ℕ → Bool → List ℕ → Type 0
ClosesAt characters text [] = text ≡ true
ClosesAt characters text (c ∷ cs) = list_any (λ e. c == e) characters ≡ true

-- what follows a string begins with an endpoint, or is the text's end where that is one
abbrev pub Closes : Ends → List ℕ → Type 0
Closes ends r = ClosesAt ends.characters ends.text r

-- The string of source s before r, with the value v. It may end behind a raw blank, before a note. A
-- backslash that ends the text stands for itself where the end is an endpoint.
pub data Str (b : Backslash) (ends : Ends) : List ℕ → List ℕ → List ℕ → Type 0 where
  closed : {s r v : List ℕ} → Row b ends s v → Closes ends r → Str b ends s r v
  before_note : {s r v : List ℕ} (c : ℕ) → Row b ends s v → begins_escape b c ≡ false
      → is_endpoint ends c ≡ false → is_before_note ends c r ≡ true
      → Str b ends (s ++ c ∷ []) r (v ++ c ∷ [])
  lone : {s v : List ℕ} → is_special b ≡ true → Row b ends s v → ends.text ≡ true
      → Str b ends (s ++ backslash ∷ []) [] (v ++ backslash ∷ [])

-- a string's source s, at whose end reading stops, before r
pub data StrStops (b : Backslash) (ends : Ends) : List ℕ → List ℕ → ParseKind → Type 0 where
  -- the text ends before an endpoint, perhaps after a backslash
  at_end : {s v : List ℕ} → Row b ends s v → ends.text ≡ false → StrStops b ends s [] EndOfText
  after_backslash : {s v : List ℕ} → is_special b ≡ true → Row b ends s v → ends.text ≡ false
      → StrStops b ends (s ++ backslash ∷ []) [] EndOfText
  in_escape : {s v p r : List ℕ} {kind : ParseKind} → Row b ends s v → reads_escapes b ≡ true
      → EscapeStops p r kind → StrStops b ends (s ++ p) r kind
