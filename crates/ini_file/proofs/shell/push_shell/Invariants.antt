use Rattle.std.proofs.Common.{◌≡◌, ◌++◌, flat_map}
use Rattle.ini_file.specs.Shells.{shell_section}
use Rattle.ini_file.proofs.shell.push_shell.Given as goal

-- what is written, and what is left to be
abbrev pub invariant-loop-name : goal.invariant-loop-name
invariant-loop-name l = l.bytes.items ++ flat_map shell_section l.name-iterator
    ≡ l.fn.bytes.items ++ flat_map shell_section l.document
