use Rattle.std.proofs.Common.{◌≡◌, ◌++◌, length}
use Rattle.ini.specs.Texts.{str_name}
use Rattle.ini.specs.Edits.{section_renamed}
use Rattle.ini.proofs.rename.renamed_document.Given as goal

-- with what is left it is the whole
abbrev pub invariant-sections : goal.invariant-sections
invariant-sections l = l.copy ++ section_renamed (str_name l.name) (str_name l.other) l.left
    ≡ section_renamed (str_name l.name) (str_name l.other) l.document

abbrev pub decreases-sections : goal.decreases-sections
decreases-sections l = length l.left
