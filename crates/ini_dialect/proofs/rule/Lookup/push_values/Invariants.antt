use Rattle.std.proofs.Common.{◌≡◌, ◌++◌, chars, map}
use Rattle.ini_multimap.specs.Pairs.{values_at}
use Rattle.ini.specs.Texts.{str_text}
use Rattle.ini_dialect.specs.Lookups.{text_fits}
use Rattle.ini_dialect.specs.Walks.{any_section}
use Rattle.ini_dialect.proofs.rule.Lookup.push_values.Given as goal

-- with what is left it is the whole
abbrev pub invariant-loop-other : goal.invariant-loop-other
invariant-loop-other l =
    (let all = values_at (text_fits l.self.case (chars l.key)) in
    map str_text l.values.items ++ all l.other-iterator
    ≡ map str_text l.initial.values.items ++ all (any_section l.fn.section))
