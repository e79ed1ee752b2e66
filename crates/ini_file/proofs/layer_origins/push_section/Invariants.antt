use Rattle.std.proofs.Common.{◌≡◌, ◌++◌}
use Rattle.ini.specs.Texts.{str_name}
use Rattle.ini_file.specs.LayerOrigins.{section_with_places}
use Rattle.ini_file.proofs.layer_origins.push_section.Given as goal

-- what is written, and what is left to be
abbrev pub invariant-loop-key : goal.invariant-loop-key
invariant-loop-key l =
    l.lines.items ++ section_with_places l.rule l.null l.places (str_name l.name) l.key-iterator
    ≡ l.fn.lines.items ++ section_with_places l.rule l.null l.places (str_name l.name) l.section
