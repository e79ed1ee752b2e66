use Rattle.std.proofs.Common.{◌≡◌, ◌≤◌, ◌++◌, ◌∷◌, length, take}
use Rattle.ini_edit.specs.SourceWritten.{last_that_begins}
use Rattle.ini_edit.proofs.source.section.SourceSection.style_before.Given as goal

abbrev pub invariant-pairs : goal.invariant-pairs
invariant-pairs l = record {
  within : l.left ≤ length l.self.pairs;
  same : last_that_begins (l.front ∷ (l.self.header ++ l.self.after)) (take l.left l.self.pairs)
      ≡ last_that_begins (l.front ∷ (l.self.header ++ l.self.after)) (take l.index l.self.pairs);
}

abbrev pub decreases-pairs : goal.decreases-pairs
decreases-pairs l = l.left
