use Rattle.std.proofs.Common.{◌≡◌, ◌++◌, chars, flat_map, map, take}
use Rattle.ini.specs.Texts.{str_name, str_text}
use Rattle.ini_file.specs.Shells.{shell_line}
use Rattle.ini_file.proofs.shell.push_shell_values.Given as goal

abbrev pub invariant-loop-value : goal.invariant-loop-value
invariant-loop-value l = l.bytes.items ≡ l.fn.bytes.items
    ++ flat_map (shell_line (str_name l.name) (chars l.key)) (map str_text (take l.value-index l.values))
