use Rattle.std.proofs.Common.{◌≡◌, ◌++◌, drop}
use Rattle.ini_layers.specs.Comments.{comment_of, commented_pairs}
use Rattle.ini_layers.proofs.comments.push_section.Given as goal

-- with what is left it is the whole
abbrev pub invariant-loop-place : goal.invariant-loop-place
invariant-loop-place l =
    l.pairs ++ commented_pairs (comment_of l.source.sections l.index) l.place (drop l.place l.section.pairs)
    ≡ commented_pairs (comment_of l.source.sections l.index) 0 l.section.pairs
