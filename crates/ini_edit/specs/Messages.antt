-- Refusals in words.
use Rattle.std.specs.Prelude.{codes, ℕ, List, ◌++◌, Option, None, Some}
use Rattle.std.specs.Option.{option_map}
use Rattle.std.specs.Fmt.{decimal}
use Rattle.ini_text.specs.Errors.ErrorForms.{printed_fault}
use Rattle.ini_text.specs.declared.error.Error.TheVariants.{Memory, Parse}
use Rattle.ini_edit.specs.declared.edit_list.RefusedEdit.{RefusedEdit}
use Rattle.ini_edit.specs.declared.error.EditError.{EditError}
use Rattle.ini_edit.specs.declared.error.EditError.TheVariants.{Key, Name, NoPlace, Separator, Text, Value}

-- what a refusal prints; no words are stated of one that no edit is refused with, as a device's
abbrev pub words_of : EditError → Option (List ℕ)
words_of (Text (Parse fault)) = Some (printed_fault fault)
words_of (Text (Memory _)) = Some (codes "out of memory")
words_of (Text _) = None
words_of Name = Some (codes "this name can't be written so that it is read back")
words_of Key = Some (codes "this key can't be written so that it is read back")
words_of Value = Some (codes "this value can't be written so that it is read back")
words_of Separator = Some (codes "this separator can't be written so that it is read back")
words_of NoPlace =
    Some (codes "an indented key that the text's end cuts short leaves no place for a new line")

-- the word `edit`, the index of the edit, a colon, and what its refusal prints
abbrev pub printed_refusal : RefusedEdit → Option (List ℕ)
printed_refusal e =
    option_map (λ words. codes "edit " ++ (decimal e.index ++ (codes ": " ++ words))) (words_of e.refusal)
