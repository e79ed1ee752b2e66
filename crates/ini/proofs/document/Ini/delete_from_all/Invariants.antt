use Rattle.std.proofs.Common.{◌≡◌, chars}
use Rattle.ini_multimap.specs.Keys.{name_fits}
use Rattle.ini.specs.Properties.{removed}
use Rattle.ini.proofs.EverySectionLemmas.{edited}
use Rattle.ini.proofs.document.Ini.delete_from_all.Given as goal

abbrev pub invariant-loop-n : goal.invariant-loop-n
invariant-loop-n l =
    l.self-inside.sections
    ≡ edited (name_fits l.fn.name) (removed (chars l.fn.key)) l.n l.initial.self-inside.sections
