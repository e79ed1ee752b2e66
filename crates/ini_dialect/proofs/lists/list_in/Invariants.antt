use Rattle.std.proofs.Common.{◌≡◌, chars, fold}
use Rattle.std.specs.Option.{option_map}
use Rattle.ini.specs.Properties.{values}
use Rattle.ini.specs.Texts.{text_of}
use Rattle.ini_dialect.specs.Lists.{list_text, with_line}
use Rattle.ini_dialect.proofs.lists.list_in.Given as goal

-- with what is left it is the whole
abbrev pub invariant-loop-value : goal.invariant-loop-value
invariant-loop-value l =
    fold with_line (option_map text_of l.list) l.value-iterator
    ≡ list_text (values (chars l.key) l.section)
