-- What calls name, and what is found there.
use Rattle.std.specs.Prelude.{ℕ, Bool, true, false, List, Option, Some, None, IsSome, encode_utf8_all}
use Rattle.std.specs.Str.{IsUtf8, chars}
use Rattle.std.specs.Option.{option_and_then, option_map}
use Rattle.ini.specs.Texts.{Text}
use Rattle.ini.specs.Documents.{Document, first_section, value_in}

-- a section's name; without one it is the general section's
abbrev pub name_if : Bool → List ℕ → Option Text
name_if true name = Some (chars name)
name_if false name = None

-- both are UTF-8
abbrev pub AreTexts : List ℕ → List ℕ → Type 0
AreTexts section key = IsUtf8 section × IsUtf8 key

-- the first value of the key in the first section of the name
abbrev pub found_in : Option Text → Text → Option Document → Option Text
found_in name key document = option_and_then (value_in name key) document

-- the bytes of a text, where there is one: its UTF-8
abbrev pub utf8_of : Option Text → Option (List ℕ)
utf8_of text = option_map encode_utf8_all text

-- the first section of the name is there
abbrev pub HasSection : Option Text → Option Document → Type 0
HasSection name document = IsSome (option_and_then (first_section name) document)
