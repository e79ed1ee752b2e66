use Rattle.std.proofs.Common.{◌≡◌, ◌++◌, drop}
use Rattle.ini_layers.specs.Comments.{commented, commented_sections}
use Rattle.ini_layers.proofs.comments.commented.Given as goal

-- with what is left it is the whole
abbrev pub invariant-loop-index : goal.invariant-loop-index
invariant-loop-index l =
    l.document ++ commented_sections l.source.sections l.index (drop l.index l.source.sections)
    ≡ commented l.source
