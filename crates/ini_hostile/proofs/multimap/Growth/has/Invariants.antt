use denote.Text.{Utf8}
use denote.Shadow.{shadow}
use Rattle.ini_hostile.proofs.multimap.Growth.has.Given as goal

abbrev pub invariant-loop-key : goal.invariant-loop-key
invariant-loop-key l =
    (goal.iterator-loop-key).can_next l.key-iterator ×
    (goal.iterator-loop-key).is_finite l.key-iterator ×
    shadow (Utf8 l.rest)
