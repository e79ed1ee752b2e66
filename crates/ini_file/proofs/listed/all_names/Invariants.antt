use Rattle.std.proofs.Common.{◌≡◌, ◌++◌, map}
use Rattle.ini.specs.Texts.{str_name}
use Rattle.ini_file.proofs.listed.all_names.Given as goal

-- those so far, and those that are left
abbrev pub invariant-loop-name : goal.invariant-loop-name
invariant-loop-name l =
    map str_name l.names.items ++ map (λ s. s.0) l.name-iterator ≡ map (λ s. s.0) l.document
