use Rattle.std.proofs.Common.{◌≡◌, ◌++◌, chars}
use Rattle.ini_multimap.specs.Pairs.{without}
use Rattle.ini_dialect.specs.Lookups.{text_fits}
use Rattle.ini_dialect.proofs.rule.Lookup.cleared.Given as goal

-- with what is left it is the whole
abbrev pub invariant-loop-other : goal.invariant-loop-other
invariant-loop-other l =
    l.pairs ++ without (text_fits l.self.case (chars l.key)) l.other-iterator
    ≡ without (text_fits l.self.case (chars l.key)) l.fn.section
