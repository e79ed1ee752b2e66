use Rattle.ini_edit.proofs.source.section.SourceSection.+last_before_gap.Given as goal

abbrev pub decreases-last_before_gap : goal.decreases-last_before_gap
decreases-last_before_gap l = l.index
