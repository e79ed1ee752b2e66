-- The values that C gives: bytes one after another, one byte more after each, and how many each has.
use Rattle.std.specs.Prelude.{ℕ, ◌≢◌, ◌+◌, ◌<◌, ◌==◌, if◌then◌else◌, List, [], ◌∷◌, chars, drop, length}
use Rattle.std.specs.Prelude.{Option, None, Some, take, ⊤}
use Rattle.std.specs.Str.{IsUtf8}
use Rattle.ini.specs.Texts.{Text}
use Rattle.ini_c.specs.Listings.{no_name_length}

-- what follows so many bytes and one more
abbrev pub after_given : List ℕ → ℕ → List ℕ
after_given bytes n = drop (n + 1) bytes

-- there is room for so many bytes and one more, and they are a text
abbrev pub IsGiven : List ℕ → ℕ → Type 0
IsGiven bytes n = (n < length bytes) × IsUtf8 (take n bytes)

-- that holds of all
abbrev pub AreGiven : List ℕ → List ℕ → Type 0
AreGiven bytes [] = ⊤
AreGiven bytes (n ∷ ns) = IsGiven bytes n × AreGiven (after_given bytes n) ns

abbrev pub values_given : List ℕ → List ℕ → List Text
values_given bytes [] = []
values_given bytes (n ∷ ns) = chars (take n bytes) ∷ values_given (after_given bytes n) ns

-- Texts of which some are missing: each of these has the number of no name in place of how many bytes it has.
abbrev pub text_given : List ℕ → ℕ → Option Text
text_given bytes n = if n == no_name_length then None else Some (chars (take n bytes))

abbrev pub after_text : List ℕ → ℕ → List ℕ
after_text bytes n = if n == no_name_length then bytes else after_given bytes n

abbrev pub texts_given : List ℕ → List ℕ → List (Option Text)
texts_given bytes [] = []
texts_given bytes (n ∷ ns) = text_given bytes n ∷ texts_given (after_text bytes n) ns

-- there is room for each that isn't missing, and it is a text
abbrev pub AreTextsGiven : List ℕ → List ℕ → Type 0
AreTextsGiven bytes [] = ⊤
AreTextsGiven bytes (n ∷ ns) = (n ≢ no_name_length → IsGiven bytes n) × AreTextsGiven (after_text bytes n) ns
