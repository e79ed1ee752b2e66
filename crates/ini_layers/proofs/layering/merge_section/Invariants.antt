use Rattle.std.proofs.Common.{◌≡◌, fold}
use Rattle.ini.specs.Texts.{str_name}
use Rattle.ini_layers.specs.Layering.{with_key, with_keys}
use Rattle.ini_layers.proofs.layering.merge_section.Given as goal

-- with what is left it is the whole
abbrev pub invariant-loop-key : goal.invariant-loop-key
invariant-loop-key l =
    fold (with_key (str_name l.name) l.section) l.merged l.key-iterator
    ≡ with_keys (str_name l.name) l.section l.initial.merged
