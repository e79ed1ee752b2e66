use Rattle.std.proofs.Common.{◌≡◌, false, take}
use Rattle.std.specs.List.{list_any}
use Rattle.ini.specs.Texts.{str_name}
use Rattle.ini_dialect.specs.Lookups.{name_fits}
use Rattle.ini_dialect.proofs.rule.Lookup.is_among_names.Given as goal

-- none so far
abbrev pub invariant-loop-other : goal.invariant-loop-other
invariant-loop-other l =
    list_any (λ n. name_fits l.self.case (str_name n) (str_name l.name)) (take l.other-index l.names) ≡ false
