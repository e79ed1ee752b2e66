-- How answers for programs end, over a file's bytes.
use Rattle.std.specs.Prelude.{◌≡◌, ◌++◌, ⊤, ℕ, List, [], ◌∷◌, codes, Result, Ok, Err}
use Rattle.std.specs.declared.alloc.Global.{Global}
use Rattle.std.specs.declared.vec.Vec.{Vec}
use Rattle.ini_text.specs.declared.error.Error.{Error}
use Rattle.ini_text.specs.declared.option.ParseOption.{ParseOption}
use Rattle.ini.specs.Documents.{Document}
use Rattle.ini.specs.Texts.{Text, str_name, str_text}
use Rattle.ini_words.specs.Words.{Word}
use Rattle.ini_file.specs.Jsons.{json_value}
use Rattle.ini_file.specs.Merges.{Loads, RefusesFile}
use Rattle.ini_file.specs.TypedGets.{got_texts}
use Rattle.ini_file.specs.declared.typed_get.TypedEnd.{TypedEnd}
use Rattle.ini_file.specs.declared.typed_get.TypedEnd.TheVariants.{Done, NotFound, Refused}
use Rattle.ini_file.specs.declared.words.Wanted.{Wanted}

-- the bytes are what is made of the file's document
abbrev pub IsMadeOf : ParseOption → (Document → Word) → List ℕ → Result (Vec ℕ Global) Error → Type 0
IsMadeOf o made input (Ok bytes) = (d : Document) × Loads o input d × bytes.items ≡ made d
IsMadeOf o made input (Err refused) = RefusesFile o input refused

-- values in JSON, on a line
abbrev pub json_line : List Text → Word
json_line values = json_value values ++ codes "\n"

-- what is made of these values, if there are any
abbrev pub EndsOfTexts : (List Text → Word) → List Text → TypedEnd → Type 0
EndsOfTexts made [] NotFound = ⊤
EndsOfTexts made (v ∷ vs) (Done bytes) = bytes.items ≡ made (v ∷ vs)
EndsOfTexts made _ _ = ⊥

-- the same of those that are looked up in a document
abbrev pub GotAs : Wanted → (List Text → Word) → Document → TypedEnd → Type 0
GotAs w made d end =
    EndsOfTexts made (got_texts w.rule w.all (str_text w.key) (str_name w.section) (str_name w.default) d) end

-- and in a file
abbrev pub EndsWith : ParseOption → Wanted → (List Text → Word) → List ℕ → TypedEnd → Type 0
EndsWith o w made input (Refused refused) = RefusesFile o input refused
EndsWith o w made input end = (d : Document) × Loads o input d × GotAs w made d end
