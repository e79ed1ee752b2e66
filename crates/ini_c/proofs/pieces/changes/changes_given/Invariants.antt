use Rattle.std.proofs.Common.{◌≡◌, ◌↔◌, ◌++◌, length, map}
use Rattle.ini_layers.specs.Differences.{setting_change}
use Rattle.ini_c.specs.Changes.{AreChangesGiven, changes_given}
use Rattle.ini_c.proofs.pieces.changes.changes_given.Given as goal

abbrev pub decreases-changes : goal.decreases-changes
decreases-changes l = length l.given.counts.now

-- those that were taken, and those that are left
abbrev pub invariant-changes : goal.invariant-changes
invariant-changes l = record {
  all : map setting_change l.changes.items ++ changes_given l.given.bytes.now l.given.counts.now
      ≡ changes_given l.fn.bytes l.fn.counts;
  given : AreChangesGiven l.given.bytes.now l.given.counts.now ↔ AreChangesGiven l.fn.bytes l.fn.counts;
}
