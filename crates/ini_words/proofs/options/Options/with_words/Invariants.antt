use Rattle.std.proofs.Common.{◌≡◌, ◌≤◌, length, map, string_bytes}
use Rattle.ini_words.specs.Words.{given}
use Rattle.ini_words.proofs.options.Options.with_words.Given as goal

abbrev pub invariant-words : goal.invariant-words
invariant-words l = record {
  given : given l.options (map string_bytes l.rest) ≡ given l.fn.self (map string_bytes l.words);
  no_more : length l.rest ≤ length l.words;
}

abbrev pub decreases-words : goal.decreases-words
decreases-words l = length l.rest
