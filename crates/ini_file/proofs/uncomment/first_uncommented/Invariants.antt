use Rattle.std.proofs.Common.{◌-◌, length, chars}
use Rattle.ini.specs.Texts.{str_name}
use Rattle.ini_file.proofs.UncommentLemmas.{Searches}
use Rattle.ini_file.proofs.uncomment.first_uncommented.Given as goal

abbrev pub invariant-elements : goal.invariant-elements
invariant-elements l =
    Searches l.read l.case (chars l.key) (str_name l.name) (chars l.text) l.inside l.parser

abbrev pub decreases-elements : goal.decreases-elements
decreases-elements l = length (chars l.text) - length l.parser.front
