use Rattle.std.proofs.Common.{◌≡◌, length, map, string_bytes}
use Rattle.ini_file.specs.Order.{no_words, sorted, sorted_of}
use Rattle.ini_file.proofs.order.sort.Given as goal

abbrev pub invariant-words : goal.invariant-words
invariant-words l =
    sorted (sorted_of l.sorted) (map string_bytes l.rest) ≡ sorted no_words (map string_bytes l.words)

abbrev pub decreases-words : goal.decreases-words
decreases-words l = length l.rest
