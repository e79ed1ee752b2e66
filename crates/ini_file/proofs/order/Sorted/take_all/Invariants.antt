use Rattle.std.proofs.Common.{◌≡◌, map, string_bytes, take}
use Rattle.ini_file.specs.Order.{sorted_of, with_others}
use Rattle.ini_file.proofs.order.Sorted.take_all.Given as goal

abbrev pub invariant-loop-word : goal.invariant-loop-word
invariant-loop-word l =
    sorted_of l.self ≡ with_others (map string_bytes (take l.word-index l.words)) (sorted_of l.fn.self)
