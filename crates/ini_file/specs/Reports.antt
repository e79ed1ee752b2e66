-- What is written of a warning, in each form.
use Rattle.std.specs.Prelude.{◌==◌, ◌||◌, Bool, ℕ, ◌+◌, ◌-◌, ◌/◌, ◌%◌, if◌then◌else◌, nat_lt, List, [], ◌∷◌}
use Rattle.std.specs.Prelude.{◌++◌, codes, flat_map}
use Rattle.std.specs.Char.{is_ascii_alphanumeric}
use Rattle.std.specs.Fmt.{decimal}
use Rattle.ini_check.specs.Kinds.{level, level_name, name}
use Rattle.ini_check.specs.Messages.{message}
use Rattle.ini_check.specs.declared.warning.Level.{Level}
use Rattle.ini_check.specs.declared.warning.Level.TheVariants.{LosesData, Surprises}
use Rattle.ini_check.specs.declared.warning.Warning.{Warning}
use Rattle.ini_words.specs.Words.{Word}
use Rattle.ini_file.specs.JsonStrings.{hex_digits, json_byte}
use Rattle.ini_file.specs.declared.report_format.Format.{Format}
use Rattle.ini_file.specs.declared.report_format.Format.TheVariants.{Github, Json, Lines, Null, Sarif}

-- a byte that stands for itself in a path of a URI
abbrev pub is_uri_byte : ℕ → Bool
is_uri_byte byte =
    is_ascii_alphanumeric byte || byte == 0x2D || byte == 0x2E || byte == 0x2F || byte == 0x5F || byte == 0x7E

-- a byte that a property of a workflow's command can't have
abbrev pub ends_property : ℕ → Bool
ends_property byte = byte == 0x25 || byte == 0x0A || byte == 0x0D || byte == 0x3A || byte == 0x2C

abbrev pub percent_byte : ℕ → List ℕ
percent_byte byte = 0x25 ∷ hex_digits byte

-- a byte of a file's name, as the form has it
abbrev pub name_byte : Format → ℕ → List ℕ
name_byte Json byte = json_byte byte
name_byte Sarif byte = if is_uri_byte byte then byte ∷ [] else percent_byte byte
name_byte Github byte = if ends_property byte then percent_byte byte else byte ∷ []
name_byte _ byte = byte ∷ []

-- what programs call the trap's level
abbrev pub severity : Level → Word
severity LosesData = codes "error"
severity Surprises = codes "warning"

-- what stands before the file's name; in SARIF a result after another one
abbrev pub before_name : Format → Warning → Word
before_name Json w = codes "{\"file\":\""
before_name Github w = codes "::" ++ severity (level w.trap) ++ codes " file="
before_name Sarif w =
    codes ",\n{\"ruleId\":\"" ++ name w.trap ++ codes "\",\"level\":\"" ++ severity (level w.trap)
    ++ codes "\",\"message\":{\"text\":\"" ++ message w.trap
    ++ codes "\"},\"locations\":[{\"physicalLocation\":{\"artifactLocation\":{\"uri\":\""
before_name _ w = []

-- the fields of the places in JSON
abbrev pub json_places : Warning → Word
json_places w =
    codes "\",\"line\":" ++ decimal w.line ++ codes ",\"column\":" ++ decimal w.column
    ++ codes ",\"end\":{\"line\":" ++ decimal w.end_line ++ codes ",\"column\":" ++ decimal w.end_column
    ++ codes "}"

-- the fields of the trap in JSON, and the object's end
abbrev pub json_kinds : Warning → Word
json_kinds w =
    codes ",\"kind\":\"" ++ name w.trap ++ codes "\",\"level\":\"" ++ level_name (level w.trap)
    ++ codes "\",\"message\":\"" ++ message w.trap ++ codes "\"}\n"

-- what stands after it
abbrev pub after_name : Format → Warning → Word
after_name Lines w =
    codes ":" ++ decimal w.line ++ codes ":" ++ decimal w.column ++ codes ": warning: " ++ message w.trap
    ++ codes "\n"
after_name Null w =
    codes "\0" ++ decimal w.line ++ codes "\0" ++ decimal w.column ++ codes "\0" ++ name w.trap ++ codes "\0"
    ++ message w.trap ++ codes "\0"
after_name Json w = json_places w ++ json_kinds w
after_name Sarif w =
    codes "\"},\"region\":{\"startLine\":" ++ decimal w.line ++ codes ",\"startColumn\":" ++ decimal w.column
    ++ codes ",\"endLine\":" ++ decimal w.end_line ++ codes ",\"endColumn\":" ++ decimal w.end_column
    ++ codes "}}}]}"
after_name Github w =
    codes ",line=" ++ decimal w.line ++ codes ",endLine=" ++ decimal w.end_line ++ codes ",col="
    ++ decimal w.column ++ codes ",title=" ++ name w.trap ++ codes "::" ++ message w.trap ++ codes "\n"

-- a warning of a file of this name
abbrev pub reported : Format → Word → Warning → Word
reported format file w =
    before_name format w ++ (flat_map (name_byte format) file ++ after_name format w)
