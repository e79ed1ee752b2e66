use Rattle.std.proofs.Common.{◌≡◌, chars}
use Rattle.std.specs.Map.{lookup}
use Rattle.ini_dialect.specs.Inside.{turned}
use Rattle.ini_dialect.specs.Lookups.{text_fits}
use Rattle.ini_dialect.specs.Walks.{any_section}
use Rattle.ini_dialect.proofs.rule.Lookup.get_in.Given as goal

-- what is left decides
abbrev pub invariant-loop-other : goal.invariant-loop-other
invariant-loop-other l =
    (let value = lookup (text_fits l.self.case (chars l.key)) in
    value l.other-iterator ≡ value (turned l.fn.self.values (any_section l.fn.section)))
