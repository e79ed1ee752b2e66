use Rattle.std.proofs.Common.{◌≡◌, ◌++◌}
use Rattle.ini_text.specs.Options.WriteOptions.{line_end}
use Rattle.ini_text.specs.Parsing.Items.{string_text}
use Rattle.ini_edit.specs.SourceLayout.{line_ends}
use Rattle.ini_edit.proofs.source.layout.lines.push_line_ends.Given as goal

abbrev pub invariant-ends : goal.invariant-ends
invariant-ends l =
    string_text l.out ++ line_ends (line_end l.fn.end) l.left
    ≡ string_text l.initial.out ++ line_ends (line_end l.fn.end) l.fn.count

abbrev pub decreases-ends : goal.decreases-ends
decreases-ends l = l.left
