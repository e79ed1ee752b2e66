use Rattle.std.proofs.Common.{◌≡◌, [], fold}
use Rattle.ini_dialect.specs.Flattened.{with_told_section}
use Rattle.ini_dialect.specs.Inside.{put_of}
use Rattle.ini_dialect.specs.Walks.{any_document}
use Rattle.ini_dialect.proofs.flattened.Flattening.put_together.Given as goal

-- with what is left it is the whole
abbrev pub invariant-loop-name : goal.invariant-loop-name
invariant-loop-name l =
    fold (with_told_section (put_of l.self.pairs) l.self.rule) l.flat l.name-iterator
    ≡ fold (with_told_section (put_of l.self.pairs) l.self.rule) [] (any_document l.fn.document)
