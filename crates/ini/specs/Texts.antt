-- Texts and names as contracts see them.
use Rattle.std.specs.Prelude.{ℕ, Bool, List, Option, String}
use Rattle.std.specs.String.{string_bytes}
use Rattle.std.specs.Str.{chars, bytes_eq}
use Rattle.std.specs.Option.{option_map, option_eq}
use Rattle.std.specs.Borrow.{Bor}

-- a text is the list of its characters
abbrev pub Text : Type 0
Text = List ℕ

-- whether two texts are equal
abbrev pub is_text : Text → Text → Bool
is_text t u = bytes_eq t u

-- whether two names are equal; no name is the general section's
abbrev pub is_name : Option Text → Option Text → Bool
is_name n m = option_eq is_text n m

-- the text of a `&str`
abbrev pub str_text : Bor (List ℕ) → Text
str_text s = chars s.now

-- the name that an `Option<&str>` stands for
abbrev pub str_name : Option (Bor (List ℕ)) → Option Text
str_name n = option_map str_text n

module _ {Z : Type 0} where
  -- the text of a `String`
  abbrev pub text_of : String Z → Text
  text_of s = chars (string_bytes s)

  -- the name that an `Option<String>` is
  abbrev pub name_of : Option (String Z) → Option Text
  name_of n = option_map text_of n
