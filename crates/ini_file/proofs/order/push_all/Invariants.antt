use Rattle.std.proofs.Common.{◌≡◌, ◌++◌, map, string_bytes, take}
use Rattle.ini_file.specs.Order.{words_of}
use Rattle.ini_file.proofs.order.push_all.Given as goal

abbrev pub invariant-loop-word : goal.invariant-loop-word
invariant-loop-word l =
    map string_bytes l.words.items ≡ map string_bytes l.fn.words.items ++ words_of (take l.word-index l.more)
