use Rattle.std.proofs.Common.{◌≡◌, map, take}
use Rattle.std.specs.Option.{option_map}
use Rattle.ini.specs.Texts.{str_text, text_of}
use Rattle.ini_dialect.specs.Lists.{list_text}
use Rattle.ini_dialect.proofs.lists.list_text.Given as goal

-- the list of those before
abbrev pub invariant-loop-value : goal.invariant-loop-value
invariant-loop-value l = option_map text_of l.list ≡ list_text (map str_text (take l.value-index l.values))
