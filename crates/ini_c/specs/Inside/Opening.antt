-- What a refusal says of the text that was to be opened.
use Rattle.std.specs.Prelude.{Option, Some, None, ⊤}
use Rattle.ini_text.specs.declared.error.Error.{Error}
use Rattle.ini_text.specs.declared.error.Error.TheVariants.{Memory, Parse}
use Rattle.ini_text.specs.declared.error.ParseError.{ParseError}

-- of the grammar, if it is for that, and else memory was refused
abbrev pub IfRefused : Option Error → (ParseError → Type 0) → Type 0
IfRefused (Some (Parse e)) P = P e
IfRefused (Some (Memory _)) P = ⊤
IfRefused (Some _) P = ⊥
IfRefused None P = ⊤
