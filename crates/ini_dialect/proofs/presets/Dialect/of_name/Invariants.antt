use Rattle.std.proofs.Common.{◌≡◌, drop, map}
use Rattle.std.specs.Map.{lookup}
use Rattle.std.specs.Str.{bytes_eq}
use Rattle.ini_dialect.specs.Dialects.{dialect_of, named_shown}
use Rattle.ini_dialect.proofs.presets.Dialect.of_name.Given as goal

-- what is left decides
abbrev pub invariant-loop-named : goal.invariant-loop-named
invariant-loop-named l =
    lookup (bytes_eq l.name) (map named_shown (drop l.named-index l.all)) ≡ dialect_of l.name
