use Rattle.std.proofs.Common.{◌≡◌, None, length, map, string_bytes}
use Rattle.std.specs.Option.{option_map}
use Rattle.ini_file.specs.CheckWords.{files_named, no_check_choice}
use Rattle.ini_file.proofs.check_words.files_of.Given as goal

abbrev pub invariant-words : goal.invariant-words
invariant-words l =
    files_named l.choices (option_map (λ text. text.now) l.wait) (map string_bytes l.rest)
    ≡ files_named no_check_choice None (map string_bytes l.words)

abbrev pub decreases-words : goal.decreases-words
decreases-words l = length l.rest
