use Rattle.std.proofs.Common.{◌≡◌, fold}
use Rattle.ini_dialect.specs.Flattened.{with_told}
use Rattle.ini_dialect.specs.Inside.{put_of}
use Rattle.ini_dialect.specs.Walks.{any_section}
use Rattle.ini_dialect.proofs.flattened.Flattening.put_pairs.Given as goal

-- with what is left it is the whole
abbrev pub invariant-loop-key : goal.invariant-loop-key
invariant-loop-key l =
    fold (with_told (put_of l.self.pairs) l.self.rule) l.pairs l.key-iterator
    ≡ fold (with_told (put_of l.self.pairs) l.self.rule) l.initial.pairs (any_section l.fn.section)
