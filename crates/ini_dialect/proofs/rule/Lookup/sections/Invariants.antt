use Rattle.std.proofs.Common.{◌≡◌, [], fold, map}
use Rattle.ini.specs.Texts.{str_name}
use Rattle.ini_dialect.specs.Inside.{kept}
use Rattle.ini_dialect.specs.Lookups.{name_fits}
use Rattle.ini_dialect.specs.Walks.{any_document}
use Rattle.ini_dialect.proofs.rule.Lookup.sections.Given as goal

-- with what is left it is the whole
abbrev pub invariant-loop-name : goal.invariant-loop-name
invariant-loop-name l =
    fold (kept (name_fits l.self.case)) (map str_name l.names.items) l.name-iterator
    ≡ fold (kept (name_fits l.self.case)) [] (any_document l.fn.document)
