use Rattle.std.proofs.Common.{◌≡◌, fold, map}
use Rattle.ini.specs.Texts.{str_text}
use Rattle.ini_dialect.specs.Inside.{kept}
use Rattle.ini_dialect.specs.Lookups.{text_fits}
use Rattle.ini_dialect.specs.Walks.{any_section}
use Rattle.ini_dialect.proofs.rule.Lookup.push_keys.Given as goal

-- with what is left it is the whole
abbrev pub invariant-loop-key : goal.invariant-loop-key
invariant-loop-key l =
    fold (kept (text_fits l.self.case)) (map str_text l.keys.items) l.key-iterator
    ≡ fold (kept (text_fits l.self.case)) (map str_text l.initial.keys.items) (any_section l.fn.section)
