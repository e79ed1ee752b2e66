use Rattle.std.proofs.Common.{◌≡◌, ◌++◌}
use Rattle.ini.specs.Texts.{str_name}
use Rattle.ini_file.specs.Shells.{shell_pairs}
use Rattle.ini_file.proofs.shell.push_shell_section.Given as goal

-- what is written, and what is left to be
abbrev pub invariant-loop-key : goal.invariant-loop-key
invariant-loop-key l = l.bytes.items ++ shell_pairs (str_name l.name) l.key-iterator
    ≡ l.fn.bytes.items ++ shell_pairs (str_name l.name) l.pairs
