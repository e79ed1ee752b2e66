-- What is written of the dialects as which a file can be read.
use Rattle.std.specs.Prelude.{◌≡◌, ◌++◌, ⊤, ℕ, List, [], Option, None, Some, Result, Ok, Err, codes, flat_map}
use Rattle.std.specs.Fmt.{decimal}
use Rattle.std.specs.List.{slice_get}
use Rattle.std.specs.Str.{IsUtf8}
use Rattle.std.specs.declared.alloc.Global.{Global}
use Rattle.std.specs.declared.vec.Vec.{Vec}
use Rattle.ini_text.specs.Parsing.ByteOrderMarks.{without_byte_order_mark}
use Rattle.ini_text.specs.declared.error.Error.{Error}
use Rattle.ini_text.specs.declared.error.Error.TheVariants.{Memory, NotUtf8}
use Rattle.ini.specs.Loading.{IsTextWith}
use Rattle.ini.specs.Texts.{Text}
use Rattle.ini_dialect.specs.Dialects.{Preset, presets}
use Rattle.ini_dialect.specs.Guesses.{AreRanked}
use Rattle.ini_dialect.specs.declared.guessing.Guess.{Guess}
use Rattle.ini_words.specs.Words.{Word}

-- a line: the file, the dialect, and how many warnings the text has that is read so
abbrev pub suggestion_line : (file name : Word) → ℕ → List ℕ
suggestion_line file name count =
    file ++ codes ": " ++ name ++ codes ": " ++ decimal count ++ codes "\n"

-- that of a dialect, if there is one
abbrev pub suggestion_of : Word → Guess → Option (Word × Preset) → List ℕ
suggestion_of file guess None = []
suggestion_of file guess (Some named) = suggestion_line file named.0 guess.warnings

unfoldable pub suggestion : Word → Guess → List ℕ
suggestion file guess = suggestion_of file guess (slice_get presets guess.place)

-- a line for each dialect as which the text can be read
pub record AreSuggestions (file : Word) (T : Text) (lines : List ℕ) : Type 0 where
  pub guesses : List Guess
  pub are_ranked : AreRanked T guesses
  pub lines_are : lines ≡ flat_map (suggestion file) guesses

-- how it ends
abbrev pub IsSuggested : Word → List ℕ → Result (Vec ℕ Global) Error → Type 0
IsSuggested file input (Ok lines) =
    IsTextWith (λ T. AreSuggestions file T lines.items) (without_byte_order_mark input)
IsSuggested file input (Err NotUtf8) = ¬ IsUtf8 (without_byte_order_mark input)
IsSuggested file input (Err (Memory _)) = ⊤
IsSuggested file input (Err _) = ⊥
