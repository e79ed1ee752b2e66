-- Which words are a merge, and of which files.
use Rattle.std.specs.Prelude.{List, [], ◌∷◌, map, Option, None, Some, string_bytes}
use Rattle.ini_words.specs.Words.{Word}
use Rattle.ini_file.specs.Choices.{Chosen, chosen_of}
use Rattle.ini_file.specs.Fronts.{Called}
use Rattle.ini_file.specs.Ruled.{RuledBy, ruled_call, ruled_of}
use Rattle.ini_file.specs.declared.merge_words.Merging.{Merging}

-- the file in which is set what the others set, one at least
pub record Merged : Type 0 where
  pub ruled : RuledBy
  pub choices : Chosen
  pub file : Word
  pub others : List Word

-- what is merged, where words name the files; None where they name less than two
abbrev pub files_merged : Called → List Word → Option Merged
files_merged c [] = None
files_merged c (file ∷ []) = None
files_merged c (file ∷ other ∷ others) = Some (record {
  ruled = ruled_call c;
  choices = c.choices;
  file = file;
  others = other ∷ others;
})

abbrev pub merge_asked : Called → Option Merged
merge_asked c = files_merged c c.words

-- the merge that is kept as borrowed words
abbrev pub merging_of : Merging → Merged
merging_of m = record {
  ruled = ruled_of m.ruled;
  choices = chosen_of m.choices;
  file = m.file.now;
  others = map string_bytes m.others.now;
}
