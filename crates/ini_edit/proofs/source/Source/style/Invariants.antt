use Rattle.std.proofs.Common.{◌≡◌, ◌≤◌, length}
use Rattle.ini_edit.proofs.NewStyleLemmas.{style_in_front}
use Rattle.ini_edit.proofs.source.Source.style.Given as goal

abbrev pub invariant-sections : goal.invariant-sections
invariant-sections l = record {
  within : l.left ≤ length l.self.sections;
  same : style_in_front l.self.option l.self.sections l.left
      ≡ style_in_front l.self.option l.self.sections (length l.self.sections);
}

abbrev pub decreases-sections : goal.decreases-sections
decreases-sections l = l.left
