use Rattle.std.proofs.Common.{take}
use Rattle.std.specs.Option.{option_map}
use Rattle.ini_file.specs.Order.{words_of}
use Rattle.ini_file.specs.Typed.{AreSaid}
use Rattle.ini_file.proofs.typed.convert_all.Given as goal

abbrev pub invariant-loop-index : goal.invariant-loop-index
invariant-loop-index l =
    AreSaid l.kind (option_map (λ home. home.now) l.home) l.end (words_of (take l.index l.values))
    l.bytes.items
