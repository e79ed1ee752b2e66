use Rattle.std.proofs.Common.{◌≡◌, ◌++◌, chars}
use Rattle.ini.specs.Properties.{texts_of}
use Rattle.ini.specs.EditLaws.{values_in}
use Rattle.ini.specs.Texts.{str_name}
use Rattle.ini_examples.proofs.service.all_values.Given as goal

abbrev pub invariant-loop-value : goal.invariant-loop-value
invariant-loop-value l =
    texts_of l.found.items ++ l.value-iterator ≡ values_in (str_name l.name) (chars l.key) l.document
