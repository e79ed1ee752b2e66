use Rattle.std.proofs.Common.{◌≡◌, ◌++◌, chars}
use Rattle.ini_examples.specs.Walks.{all_named_anew}
use Rattle.ini_examples.proofs.callers.walks.rename.Given as goal

abbrev pub invariant-loop-found : goal.invariant-loop-found
invariant-loop-found l = l.copy ++ all_named_anew (chars l.name) (chars l.other) l.found-iterator
    ≡ all_named_anew (chars l.name) (chars l.other) l.document
