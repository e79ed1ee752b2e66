-- The manner in which an answer is told, as words choose it.
use Rattle.std.specs.Prelude.{◌||◌, Bool, true, false, if◌then◌else◌, codes, Option, None, Some, is_some}
use Rattle.std.specs.Option.{option_map}
use Rattle.std.specs.Str.{bytes_eq}
use Rattle.ini_words.specs.Words.{Word}
use Rattle.ini_file.specs.declared.manner.AnswerForm.{AnswerForm}
use Rattle.ini_file.specs.declared.manner.AnswerForm.TheVariants as forms
use Rattle.ini_file.specs.declared.manner.Color.{Color}
use Rattle.ini_file.specs.declared.manner.Color.TheVariants as colors
use Rattle.ini_file.specs.declared.manner.Manner.{Manner}
use Rattle.ini_file.specs.declared.manner.ValueKind.{ValueKind}
use Rattle.ini_file.specs.declared.manner.ValueKind.TheVariants as kinds

-- what a value is to say, by its name
abbrev pub kind_named : Word → Option ValueKind
kind_named name =
    if bytes_eq name (codes "bool") then Some kinds.Bool
    else if bytes_eq name (codes "int") then Some kinds.Integer
    else if bytes_eq name (codes "size") then Some kinds.Size
    else if bytes_eq name (codes "float") then Some kinds.Float
    else if bytes_eq name (codes "duration") then Some kinds.Duration
    else if bytes_eq name (codes "path") then Some kinds.Path
    else None

-- the forms in which an answer is written, by their names
abbrev pub form_named : Word → Option AnswerForm
form_named name =
    if bytes_eq name (codes "lines") then Some forms.Lines
    else if bytes_eq name (codes "json") then Some forms.Json
    else if bytes_eq name (codes "sh") then Some forms.Shell
    else if bytes_eq name (codes "ini") then Some forms.Ini
    else if bytes_eq name (codes "edits") then Some forms.Edits
    else None

-- whether the command writes the form
abbrev pub writes_form : Word → AnswerForm → Bool
writes_form command forms.Shell = bytes_eq command (codes "get") || bytes_eq command (codes "list")
writes_form command forms.Ini = bytes_eq command (codes "list")
writes_form command forms.Edits = bytes_eq command (codes "diff")
writes_form command _ =
    bytes_eq command (codes "get") || bytes_eq command (codes "list") || bytes_eq command (codes "diff")

-- when there are colours, by a word
abbrev pub color_named : Word → Option Color
color_named name =
    if bytes_eq name (codes "auto") then Some colors.Auto
    else if bytes_eq name (codes "always") then Some colors.Always
    else if bytes_eq name (codes "never") then Some colors.Never
    else None

-- nothing is chosen
abbrev pub no_manner : Manner
no_manner = record { kind = None; form = None; color = None }

-- the form isn't that of lines, which are written where none is chosen
abbrev pub is_other : Option AnswerForm → Bool
is_other None = false
is_other (Some forms.Lines) = false
is_other _ = true

-- values have a kind, or the form isn't that of lines
abbrev pub has_manner : Manner → Bool
has_manner m = is_some m.kind || is_other m.form

-- a name follows the choice
abbrev pub takes_name : Word → Bool
takes_name choice = bytes_eq choice (codes "--type") || bytes_eq choice (codes "--format")
    || bytes_eq choice (codes "--color")

-- what is chosen after such a choice and the name
unfoldable pub with_name : (choice name : Word) → Manner → Option Manner
with_name choice name m =
    if bytes_eq choice (codes "--type")
    then option_map (λ kind. record m { kind = Some kind }) (kind_named name)
    else if bytes_eq choice (codes "--format")
    then option_map (λ form. record m { form = Some form }) (form_named name)
    else option_map (λ color. record m { color = Some color }) (color_named name)
