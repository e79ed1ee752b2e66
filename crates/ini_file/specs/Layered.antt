-- What is written of several files: one document.
use Rattle.std.specs.Prelude.{◌≡◌, Bool, true, false, ℕ, List, Some, ⊤, encode_utf8_all}
use Rattle.ini_text.specs.declared.error.Error.TheVariants.{Memory}
use Rattle.ini_text.specs.declared.write.option.WriteOption.{WriteOption}
use Rattle.ini.specs.Documents.{Document}
use Rattle.ini.specs.Written.{written}
use Rattle.ini_edit.specs.declared.error.EditError.TheVariants.{Separator, Text as TextError}
use Rattle.ini_layers.specs.Layering.{merged}
use Rattle.ini_dialect.specs.RuledLayers.{all_set, settings_in_layers}
use Rattle.ini_dialect.specs.declared.rule.Lookup.{Lookup}
use Rattle.ini_words.specs.Words.{Word}
use Rattle.ini_words.specs.declared.options.Options.{Options}
use Rattle.ini_dialect.specs.Rules.{is_own}
use Rattle.ini_file.specs.Merges.{AreLoaded, RefusesOther}
use Rattle.ini_file.specs.Writing.{IsWriting, Separates}
use Rattle.ini_file.specs.declared.layers.LayersEnd.{LayersEnd}
use Rattle.ini_file.specs.declared.layers.LayersEnd.TheVariants.{Done, File, Refused}

-- by the crate's own rule as `merged` of `ini_layers` has it
abbrev pub merged_by : Bool → Lookup → List Document → Document
merged_by true rule layers = merged layers
merged_by false rule layers = all_set rule (settings_in_layers rule layers)

-- the bytes are the text, in UTF-8, of what the documents in layers make, written as the options say
pub record IsMergedText (rule : Lookup) (o : Options) (separator : Word) (documents : List Document)
    (bytes : List ℕ)
    : Type 0 where
  pub option : WriteOption
  pub is_option : IsWriting o (Some separator) option
  pub bytes_are : bytes ≡ encode_utf8_all (written (merged_by (is_own rule) rule documents) option)

-- so they are of the documents of these files
pub record AreLayered (rule : Lookup) (o : Options) (separator : Word) (files : List (List ℕ))
    (bytes : List ℕ)
    : Type 0 where
  pub separates : Separates (Some separator)
  pub documents : List Document
  pub are_loaded : AreLoaded o.reading files documents
  pub is_merged : IsMergedText rule o separator documents bytes

-- how laying files over each other ends: a separator that isn't read back is refused, whatever they are
abbrev pub HasLayers : Lookup → Options → Word → List (List ℕ) → LayersEnd → Type 0
HasLayers rule o separator files (Done bytes) = AreLayered rule o separator files bytes.items
HasLayers rule o separator files (File index e) = RefusesOther o.reading files index e
HasLayers rule o separator files (Refused Separator) = ¬ (Separates (Some separator))
HasLayers rule o separator files (Refused (TextError (Memory _))) = ⊤
HasLayers rule o separator files (Refused _) = ⊥
