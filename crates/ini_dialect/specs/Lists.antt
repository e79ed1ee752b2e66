-- A list of values as one text, and back: one value a line. In it a backslash and a line feed stand after a
-- backslash, the line feed as the letter n.
use Rattle.std.specs.Prelude.{◌≡◌, Bool, true, false, ◌==◌, if◌then◌else◌, List, [], ◌∷◌, ◌++◌}
use Rattle.std.specs.Prelude.{fold, flat_map, ℕ, Option, None, Some}
use Rattle.ini_text.specs.Grammar.CharacterKinds.{backslash, line_feed}
use Rattle.ini.specs.Texts.{Text}

abbrev pub letter_n : ℕ
letter_n = 110

abbrev pub listed_character : ℕ → Text
listed_character c =
    if c == backslash then backslash ∷ backslash ∷ []
    else (if c == line_feed then backslash ∷ letter_n ∷ [] else c ∷ [])

-- a value as a line
abbrev pub listed_value : Text → Text
listed_value value = flat_map listed_character value

-- a line more, after those that may be there
abbrev pub with_line : Option Text → Text → Option Text
with_line None value = Some (listed_value value)
with_line (Some lines) value = Some (lines ++ line_feed ∷ listed_value value)

-- the values one after another; none where there are none
abbrev pub list_text : List Text → Option Text
list_text values = fold with_line None values

-- what stands after a backslash
abbrev pub meant : ℕ → ℕ
meant c = if c == letter_n then line_feed else c

-- the values that lines tell, of which this value was begun, and of which this is left, after a backslash or
-- not; a backslash at the end stands for itself
abbrev pub values_from : (value : Text) → (after_backslash : Bool) → Text → List Text
values_from value false [] = value ∷ []
values_from value true [] = (value ++ backslash ∷ []) ∷ []
values_from value true (c ∷ lines) = values_from (value ++ meant c ∷ []) false lines
values_from value false (c ∷ lines) =
    if c == backslash then values_from value true lines
    else (if c == line_feed then value ∷ values_from [] false lines
    else values_from (value ++ c ∷ []) false lines)

abbrev pub list_values : Text → List Text
list_values lines = values_from [] false lines

-- a list that was written is read back as its values
abbrev pub AreReadBack : List Text → Type 0
AreReadBack values = (list : Text) → list_text values ≡ Some list → list_values list ≡ values
