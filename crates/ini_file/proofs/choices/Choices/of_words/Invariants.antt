use Rattle.std.proofs.Common.{◌≡◌, length, map, string_bytes}
use Rattle.std.specs.Option.{option_map}
use Rattle.ini_file.specs.Choices.{chosen, no_choice}
use Rattle.ini_file.proofs.choices.Choices.of_words.Given as goal

abbrev pub invariant-words : goal.invariant-words
invariant-words l =
    chosen (record {
      switches = l.switches;
      output = option_map (λ file. file.now) l.output;
      default = option_map (λ value. value.now) l.default;
      separator = option_map (λ text. text.now) l.separator;
      wait = option_map (λ seconds. seconds.now) l.wait;
      section = option_map (λ name. name.now) l.section;
      spacing = l.spacing;
      manner = l.manner;
    })
    (map string_bytes l.rest) ≡ chosen no_choice (map string_bytes l.words)

abbrev pub decreases-words : goal.decreases-words
decreases-words l = length l.rest
