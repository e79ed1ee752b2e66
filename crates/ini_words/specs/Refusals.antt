-- Which refusals there are where words are gathered.
use Rattle.ini_text.specs.declared.error.Error.{Error}
use Rattle.ini_text.specs.declared.error.Error.TheVariants.{Io, Memory}
use Rattle.std.specs.Prelude.{⊤}

-- memory was refused, or a word is no text
abbrev pub IsMemoryOrIo : Error → Type 0
IsMemoryOrIo (Memory _) = ⊤
IsMemoryOrIo (Io _) = ⊤
IsMemoryOrIo _ = ⊥
