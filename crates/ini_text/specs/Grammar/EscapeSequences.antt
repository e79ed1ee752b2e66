-- Escapes: the pieces of a string that begin with a backslash.
use Rattle.std.specs.Prelude.{◌≡◌, ◌≢◌, ℕ, ◌+◌, ◌*◌, ◌<◌, Bool, true, false, ◌&&◌, ◌||◌, ◌==◌}
use Rattle.std.specs.Prelude.{if◌then◌else◌, List, [], ◌∷◌, ◌++◌, length, Option, Some, None}
use lib.Utf8.{scalar}
use Rattle.std.specs.Char.{is_digit, digit_value}
use Rattle.ini_text.specs.Grammar.CharacterKinds.{backslash, line_feed, plus, letter_x}
use Rattle.ini_text.specs.declared.error.ParseKind.{ParseKind}
use Rattle.ini_text.specs.declared.error.ParseKind.TheVariants.{EndOfText, BrokenEscape, UnknownCharacter}

-- the characters that \0 \a \b \t \r \n stand for
abbrev pub control : ℕ → Option ℕ
control c =
    if c == 0x30 then Some 0x00
    else if c == 0x61 then Some 0x07
    else if c == 0x62 then Some 0x08
    else if c == 0x74 then Some 0x09
    else if c == 0x72 then Some 0x0D
    else if c == 0x6E then Some 0x0A
    else None

-- the first of four digits may be a plus sign
abbrev pub first_digit : ℕ → ℕ
first_digit c = if c == plus then 0 else digit_value c

-- the character that four hexadecimal digits spell, where there is one
unfoldable pub spelled : ℕ → ℕ → ℕ → ℕ → Option ℕ
spelled a b c d =
    let n = first_digit a * 0x1000 + digit_value b * 0x100 + digit_value c * 0x10 + digit_value d in
    if (is_digit a 16 || a == plus) && is_digit b 16 && is_digit c 16 && is_digit d 16
    && scalar n then Some n else None

-- a piece that begins with a backslash, and its value
pub data EscapeSequence (escapes : Bool) : List ℕ → List ℕ → Type 0 where
  -- a backslash before LF: both go
  folded : EscapeSequence escapes (backslash ∷ line_feed ∷ []) []
  -- \0 \a \b \t \r \n
  named : {c v : ℕ} → escapes ≡ true → control c ≡ Some v
      → EscapeSequence escapes (backslash ∷ c ∷ []) (v ∷ [])
  -- \x and four digits
  coded : {a b c d v : ℕ} → escapes ≡ true → spelled a b c d ≡ Some v
      → EscapeSequence escapes (backslash ∷ letter_x ∷ a ∷ b ∷ c ∷ d ∷ []) (v ∷ [])
  -- before any other character the backslash goes
  itself : {c : ℕ} → escapes ≡ true → c ≢ line_feed → c ≢ letter_x → control c ≡ None
      → EscapeSequence escapes (backslash ∷ c ∷ []) (c ∷ [])
  -- with escapes off both stay
  kept : {c : ℕ} → escapes ≡ false → c ≢ line_feed
      → EscapeSequence escapes (backslash ∷ c ∷ []) (backslash ∷ c ∷ [])

-- Units after \x: each a character other than a backslash, or a backslash and LF, which stands for none.
pub data Units : List ℕ → List (Option ℕ) → Type 0 where
  none : Units [] []
  character : {c : ℕ} {s : List ℕ} {us : List (Option ℕ)} → c ≢ backslash → Units s us
      → Units (c ∷ s) (Some c ∷ us)
  folded : {s : List ℕ} {us : List (Option ℕ)} → Units s us → Units (backslash ∷ line_feed ∷ s) (None ∷ us)

-- what four units spell
abbrev pub spelled_by : List (Option ℕ) → Option ℕ
spelled_by (Some a ∷ Some b ∷ Some c ∷ Some d ∷ []) = spelled a b c d
spelled_by _ = None

-- The source of an escape at whose end reading stops, before what follows, and the kind of the stop.
pub data EscapeStops : List ℕ → List ℕ → ParseKind → Type 0 where
  -- the text ends before the fourth unit
  cut_short : {u : List ℕ} {us : List (Option ℕ)} → Units u us → length us < 4
      → EscapeStops (backslash ∷ letter_x ∷ u) [] EndOfText
  -- the text ends after a backslash among the units
  cut_in_unit : {u : List ℕ} {us : List (Option ℕ)} → Units u us → length us < 4
      → EscapeStops (backslash ∷ letter_x ∷ (u ++ backslash ∷ [])) [] EndOfText
  -- a backslash among the units, before a character other than LF
  broken : {u r : List ℕ} {us : List (Option ℕ)} {c : ℕ} → Units u us → length us < 4 → c ≢ line_feed
      → EscapeStops (backslash ∷ letter_x ∷ (u ++ backslash ∷ c ∷ [])) r BrokenEscape
  -- four units that spell no character
  unknown : {u r : List ℕ} {us : List (Option ℕ)} → Units u us → length us ≡ 4 → spelled_by us ≡ None
      → EscapeStops (backslash ∷ letter_x ∷ u) r UnknownCharacter
