use Rattle.std.proofs.Common.{◌≡◌, length}
use Rattle.ini.specs.Texts.{str_name}
use Rattle.ini.specs.Documents.{all_sections_removed}
use Rattle.ini.proofs.document.Ini.delete_all.Given as goal

abbrev pub invariant-sections : goal.invariant-sections
invariant-sections l = all_sections_removed (str_name l.name) l.self
    ≡ all_sections_removed (str_name l.name) l.fn.self

abbrev pub decreases-sections : goal.decreases-sections
decreases-sections l = length l.self
