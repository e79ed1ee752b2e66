-- How a look-up ends of values that are to say something of a kind.
use Rattle.std.specs.Prelude.{◌≡◌, ⊤, ℕ, Bool, if◌then◌else◌, List, [], ◌∷◌, codes, chars, map}
use Rattle.std.specs.Prelude.{Option, is_some, option_to_list}
use Rattle.ini_text.specs.declared.error.Error.{Error}
use Rattle.ini_text.specs.declared.option.ParseOption.{ParseOption}
use Rattle.ini.specs.Documents.{Document}
use Rattle.ini.specs.Texts.{Text, str_name, str_text}
use Rattle.ini_dialect.specs.Lookups.{all_values, value_under}
use Rattle.ini_dialect.specs.declared.rule.Lookup.{Lookup}
use Rattle.ini_words.specs.Words.{Word}
use Rattle.ini_file.specs.Merges.{Loads, RefusesFile}
use Rattle.ini_file.specs.Typed.{AreSaid, IsFirstUnsaid}
use Rattle.ini_file.specs.declared.manner.ValueKind.{ValueKind}
use Rattle.ini_file.specs.declared.typed_get.TypedEnd.{TypedEnd}
use Rattle.ini_file.specs.declared.typed_get.TypedEnd.TheVariants.{Done, Not, NotFound, Refused}
use Rattle.ini_file.specs.declared.words.Wanted.{Wanted}

-- the value that counts, or all that are looked at in order, where the key is there; the default where it
-- isn't
abbrev pub got_texts : Lookup → (all : Bool) → Text → (section default : Option Text) → Document → List Text
got_texts rule all key section default d =
    if is_some (value_under rule section key d)
    then (if all then all_values rule section key d else option_to_list (value_under rule section key d))
    else option_to_list default

-- what ends each
abbrev pub end_of : (null : Bool) → Word
end_of null = if null then codes "\0" else codes "\n"

-- how it ends with these values
abbrev pub EndsOn : (null : Bool) → ValueKind → Option Word → List Word → TypedEnd → Type 0
EndsOn null kind home [] NotFound = ⊤
EndsOn null kind home (v ∷ vs) (Done bytes) = AreSaid kind home (end_of null) (v ∷ vs) bytes.items
EndsOn null kind home (v ∷ vs) (Not index) = IsFirstUnsaid kind home (end_of null) (v ∷ vs) index
EndsOn null kind home _ _ = ⊥

-- how it ends in a document
abbrev pub EndsGot : Wanted → ValueKind → Option Word → Document → TypedEnd → Type 0
EndsGot w kind home d end =
    (values : List Word)
    × (map chars values
    ≡ got_texts w.rule w.all (str_text w.key) (str_name w.section) (str_name w.default) d)
    × EndsOn w.null kind home values end

-- how it ends over a file's bytes
abbrev pub EndsTyped : ParseOption → Wanted → ValueKind → Option Word → List ℕ → TypedEnd → Type 0
EndsTyped o w kind home input (Refused refused) = RefusesFile o input refused
EndsTyped o w kind home input end = (d : Document) × Loads o input d × EndsGot w kind home d end
