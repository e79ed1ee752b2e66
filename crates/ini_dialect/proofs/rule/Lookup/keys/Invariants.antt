use Rattle.std.proofs.Common.{◌≡◌, [], fold, map}
use Rattle.ini.specs.Texts.{str_name, str_text}
use Rattle.ini_dialect.specs.Inside.{kept}
use Rattle.ini_dialect.specs.Lookups.{looked, text_fits}
use Rattle.ini_dialect.specs.Walks.{any_document}
use Rattle.ini_dialect.proofs.rule.Lookup.keys.Given as goal

-- with what is left it is the whole
abbrev pub invariant-loop-other : goal.invariant-loop-other
invariant-loop-other l =
    fold (kept (text_fits l.self.case)) (map str_text l.keys.items)
    (looked l.self (str_name l.name) l.other-iterator)
    ≡ fold (kept (text_fits l.self.case)) [] (looked l.self (str_name l.name) (any_document l.fn.document))
