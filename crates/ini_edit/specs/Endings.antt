-- How a text ends, and what begins an indented key.
use Rattle.std.specs.Prelude.{◌≡◌, ℕ, true, false, ◌==◌, if◌then◌else◌, List, [], ◌∷◌, ◌++◌}
use Rattle.std.specs.List.{list_all}
use Rattle.ini_text.specs.Grammar.CharacterKinds.{backslash, line_feed, space, is_blank, BeginsWith}
use Rattle.ini_text.specs.Grammar.Keys.{begins_indented_key}
use Rattle.ini_text.specs.Options.Backslashes.{begins_escape}
use Rattle.ini_text.specs.Options.ReadOptions.{backslash_of}
use Rattle.ini_text.specs.declared.option.ParseOption.{ParseOption}

-- a text's end: within a line; after a backslash that takes what follows it; or after an LF that no
-- backslash takes
pub data Ending : Type 0 where
  inside : Ending
  escape : Ending
  line : Ending

-- the end one character on; a backslash that is a character like any other takes nothing
abbrev pub next_ending : ParseOption → Ending → ℕ → Ending
next_ending o Ending.escape c = Ending.inside
next_ending o Ending.inside c =
    if begins_escape (backslash_of o) c then Ending.escape
    else (if c == line_feed then Ending.line else Ending.inside)
next_ending o Ending.line c =
    if begins_escape (backslash_of o) c then Ending.escape
    else (if c == line_feed then Ending.line else Ending.inside)

abbrev pub ending_from : ParseOption → Ending → List ℕ → Ending
ending_from o e [] = e
ending_from o e (c ∷ cs) = ending_from o (next_ending o e c) cs

-- the end of a whole text, of which the first line starts at its front
abbrev pub ending : ParseOption → List ℕ → Ending
ending o text = ending_from o Ending.line text

-- What goes before a line end after a text that ends so: a backslash is made one that stands for itself.
-- With escapes off it takes a space, which no value keeps.
pub data Closing (o : ParseOption) : Ending → List ℕ → Type 0 where
  within : Closing o Ending.inside []
  after_line : Closing o Ending.line []
  by_backslash : o.enabled_escape ≡ true → Closing o Ending.escape (backslash ∷ [])
  by_space : o.enabled_escape ≡ false → Closing o Ending.escape (space ∷ [])

-- an element's source begins with blanks, and an indented key after them
pub record IsIndentedKey (o : ParseOption) (source : List ℕ) : Type 0 where
  pub blanks : List ℕ
  pub key : List ℕ
  pub whole : source ≡ blanks ++ key
  pub some : BeginsWith is_blank blanks
  pub blank : list_all is_blank blanks ≡ true
  pub begins : BeginsWith (begins_indented_key o) key
