use Rattle.std.proofs.Common.{◌≡◌, [], fold}
use Rattle.ini_dialect.specs.Flattened.{with_list}
use Rattle.ini_dialect.proofs.flattened.as_lists.Given as goal

-- with what is left it is the whole
abbrev pub invariant-loop-key : goal.invariant-loop-key
invariant-loop-key l =
    fold (with_list l.section) l.lists l.key-iterator ≡ fold (with_list l.section) [] l.section
