use Rattle.std.proofs.Common.{◌≡◌, chars, false, take}
use Rattle.std.specs.List.{list_any}
use Rattle.ini.specs.Texts.{str_text}
use Rattle.ini_dialect.specs.Lookups.{text_fits}
use Rattle.ini_dialect.proofs.rule.Lookup.is_among.Given as goal

-- none so far
abbrev pub invariant-loop-other : goal.invariant-loop-other
invariant-loop-other l =
    list_any (λ k. text_fits l.self.case (str_text k) (chars l.key)) (take l.other-index l.keys) ≡ false
