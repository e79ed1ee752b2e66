use Rattle.std.proofs.Common.{◌≡◌, ◌++◌, chars, drop}
use Rattle.ini_text.specs.Parsing.Items.{string_text}
use Rattle.ini_edit.specs.Inside.SourceLayouts.{rules_of}
use Rattle.ini_edit.specs.SourceLayout.{laid_pairs}
use Rattle.ini_edit.proofs.source.layout.section.push_pairs.Given as goal

abbrev pub invariant-loop-i : goal.invariant-loop-i
invariant-loop-i l =
    string_text l.out ++ laid_pairs (rules_of l.fn.rules) l.fn.follower (chars l.fn.rest) l.last l.column
    (drop l.i l.pairs)
    ≡ string_text l.initial.out ++ laid_pairs (rules_of l.fn.rules) l.fn.follower (chars l.fn.rest) l.fn.last
    0 l.pairs
