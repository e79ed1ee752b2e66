-- What the text of a value says as a bool, a number, a size or a span of time. Texts are bytes here: each
-- word and each digit is ASCII.
use Rattle.std.specs.Prelude.{◌≡◌, ℕ, ◌*◌, Bool, true, false, if◌then◌else◌, List, [], ◌∷◌}
use Rattle.std.specs.Prelude.{drop, take, codes, ℤ, pos, Option, Some, None}
use Rattle.std.specs.Char.{is_ascii_alphabetic}
use Rattle.std.specs.Prelude.{◌*ℤ◌}
use Rattle.std.specs.List.{list_any, position_or_len}
use Rattle.std.specs.Str.{str_eq_ignore_ascii_case}
use Rattle.std.specs.Str.Parse.{IsNumeral, digits_value, signed_digits_value, without_leading_plus}
use Rattle.std.specs.Str.Parse.{without_leading_sign}

-- the words for yes and for no
abbrev pub yes_words : List (List ℕ)
yes_words = codes "true" ∷ codes "yes" ∷ codes "on" ∷ codes "1" ∷ []

abbrev pub no_words : List (List ℕ)
no_words = codes "false" ∷ codes "no" ∷ codes "off" ∷ codes "0" ∷ []

-- the text is one of the words, in any case
abbrev pub is_one_of : List ℕ → List (List ℕ) → Bool
is_one_of text words = list_any (str_eq_ignore_ascii_case text) words

-- what the text says
abbrev pub bool_of : List ℕ → Option Bool
bool_of text =
    if is_one_of text yes_words then Some true
    else (if is_one_of text no_words then Some false else None)

-- a count is a number and a unit: the number ends where the first letter stands
abbrev pub number_part : List ℕ → List ℕ
number_part text = take (position_or_len is_ascii_alphabetic text) text

abbrev pub unit_part : List ℕ → List ℕ
unit_part text = drop (position_or_len is_ascii_alphabetic text) text

-- what a unit stands for, by its word: in bytes, in any case; in microseconds
abbrev pub named : List ℕ → List (List ℕ × ℕ) → Option ℕ
named unit [] = None
named unit (u ∷ us) = if str_eq_ignore_ascii_case unit u.0 then Some u.1 else named unit us

abbrev pub sizes : List (List ℕ × ℕ)
sizes = (codes "", 1) ∷ (codes "k", 1024) ∷ (codes "m", 1_048_576) ∷ (codes "g", 1_073_741_824) ∷ []

abbrev pub spans : List (List ℕ × ℕ)
spans =
    (codes "", 1_000_000) ∷ (codes "us", 1) ∷ (codes "ms", 1_000) ∷ (codes "s", 1_000_000)
    ∷ (codes "sec", 1_000_000) ∷ (codes "m", 60_000_000) ∷ (codes "min", 60_000_000)
    ∷ (codes "h", 3_600_000_000) ∷ (codes "d", 86_400_000_000) ∷ (codes "w", 604_800_000_000) ∷ []

-- the text writes the number n in such units
pub record Counts (units : List (List ℕ × ℕ)) (text : List ℕ) (n : ℕ) : Type 0 where
  pub factor : ℕ
  pub unit : named (unit_part text) units ≡ Some factor
  pub numeral : IsNumeral 10 (without_leading_plus (number_part text))
  pub value : n ≡ digits_value 10 (without_leading_plus (number_part text)) * factor

-- the same with a sign
pub record CountsSigned (units : List (List ℕ × ℕ)) (text : List ℕ) (n : ℤ) : Type 0 where
  pub factor : ℕ
  pub unit : named (unit_part text) units ≡ Some factor
  pub numeral : IsNumeral 10 (without_leading_sign (number_part text))
  pub value : n ≡ signed_digits_value 10 (number_part text) *ℤ pos factor
