use Rattle.std.proofs.Common.{◌≡◌, ◌++◌, chars}
use Rattle.ini.specs.Texts.{str_name}
use Rattle.ini_dialect.specs.Lookups.{delete_under}
use Rattle.ini_dialect.proofs.EditLemmas.{deleted_while}
use Rattle.ini_dialect.proofs.rule.Lookup.delete_in_copy.Given as goal

-- with what is left it is the whole
abbrev pub invariant-loop-other : goal.invariant-loop-other
invariant-loop-other l =
    l.edited ++ deleted_while l.self (str_name l.name) (chars l.key) l.looking l.other-iterator
    ≡ delete_under l.self (str_name l.name) (chars l.key) l.fn.document
