-- What is wrong with words that are none of the program's.
use Rattle.std.specs.Prelude.{⊤}
use Rattle.ini_file.specs.declared.usage_error.UsageError.{UsageError}
use Rattle.ini_file.specs.declared.usage_error.UsageError.TheVariants.{Memory}

-- it holds, unless memory was refused
abbrev pub UnlessMemory : Type 0 → UsageError → Type 0
UnlessMemory P Memory = ⊤
UnlessMemory P _ = P
