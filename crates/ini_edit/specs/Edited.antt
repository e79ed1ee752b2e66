-- What calls that edit a text are refused with.
use Rattle.std.specs.Prelude.{Result, Err, ⊤}
use Rattle.ini_text.specs.declared.error.Error.TheVariants.{Memory, Parse}
use Rattle.ini_text.specs.declared.error.ParseError.{ParseError}
use Rattle.ini.specs.Loading.{IsParseOrMemory}
use Rattle.ini_edit.specs.declared.error.EditError.{EditError}
use Rattle.ini_edit.specs.declared.error.EditError.TheVariants as EditErrors

-- what holds of a parse fault, if it is one
abbrev pub IfEditParse : {X : Type 0} → Result X EditError → (ParseError → Type 0) → Type 0
IfEditParse (Err (EditErrors.Text (Parse e))) P = P e
IfEditParse _ P = ⊤

-- the text was refused, or memory was
abbrev pub IsEditParseOrMemory : EditError → Type 0
IsEditParseOrMemory (EditErrors.Text e) = IsParseOrMemory e
IsEditParseOrMemory _ = ⊥

-- the same, or the value can't be written
abbrev pub IsValueOrRefusal : EditError → Type 0
IsValueOrRefusal EditErrors.Value = ⊤
IsValueOrRefusal e = IsEditParseOrMemory e

-- the same of a key, and of a name
abbrev pub IsKeyOrRefusal : EditError → Type 0
IsKeyOrRefusal EditErrors.Key = ⊤
IsKeyOrRefusal e = IsEditParseOrMemory e

abbrev pub IsNameOrRefusal : EditError → Type 0
IsNameOrRefusal EditErrors.Name = ⊤
IsNameOrRefusal e = IsEditParseOrMemory e

-- the value can't be written, or memory was refused
abbrev pub IsValueOrMemory : EditError → Type 0
IsValueOrMemory EditErrors.Value = ⊤
IsValueOrMemory (EditErrors.Text (Memory _)) = ⊤
IsValueOrMemory _ = ⊥

-- the same of a key, and of a name
abbrev pub IsKeyOrMemory : EditError → Type 0
IsKeyOrMemory EditErrors.Key = ⊤
IsKeyOrMemory (EditErrors.Text (Memory _)) = ⊤
IsKeyOrMemory _ = ⊥

abbrev pub IsNameOrMemory : EditError → Type 0
IsNameOrMemory EditErrors.Name = ⊤
IsNameOrMemory (EditErrors.Text (Memory _)) = ⊤
IsNameOrMemory _ = ⊥
