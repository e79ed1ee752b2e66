-- The line of a dialect, by its place among all.
use Rattle.std.proofs.Common.{◌≡◌, ◌∙◌, ◌<◌, ◌≤◌, List, [], Option, Some, ap, get_or, length, map, refl}
use Rattle.std.proofs.Common.{subst}
use Rattle.std.proofs.lemmas.Option.{slice_get-map, slice_get_past, slice_get_read}
use Rattle.std.specs.List.{slice_get}
use Rattle.std.specs.Option.{option_map}
use Rattle.ini_dialect.specs.Dialects.{named_shown, presets}
use Rattle.ini_dialect.specs.declared.guessing.Guess.{Guess}
use Rattle.ini_dialect.specs.declared.presets.NamedDialect.{NamedDialect}
use Rattle.ini_words.specs.Words.{Word}
use Rattle.ini_file.specs.Suggestions.{suggestion, suggestion_of}

module _ (file : Word) (guess : Guess) (all : List NamedDialect) (are : map named_shown all ≡ presets) where
  by_named : suggestion file guess
      ≡ suggestion_of file guess (option_map named_shown (slice_get all guess.place))
  unfolding suggestion
  by_named = subst (λ ps. suggestion_of file guess (slice_get ps guess.place)
      ≡ suggestion_of file guess (option_map named_shown (slice_get all guess.place))) are
      (ap (suggestion_of file guess) (slice_get-map named_shown all guess.place))

  pub line_there : (named : NamedDialect) → guess.place < length all → named ≡ get_or all guess.place named
      → suggestion file guess ≡ suggestion_of file guess (Some (named_shown named))
  line_there named within read =
      by_named ∙ ap (λ o. suggestion_of file guess (option_map named_shown o))
      (slice_get_read all (length all) guess.place named refl within read)

  pub line_past : length all ≤ guess.place → suggestion file guess ≡ []
  line_past past =
      by_named ∙ ap (λ o. suggestion_of file guess (option_map named_shown o))
      (slice_get_past all guess.place past)
