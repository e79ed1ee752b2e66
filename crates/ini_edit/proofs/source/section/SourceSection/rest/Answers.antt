use Rattle.std.proofs.Common.{chars, subst, sym}
use Rattle.ini_text.specs.Parsing.Fronts.{IsRest}
use Rattle.ini_edit.proofs.SourceLineLemmas.{dropped_key-rest}
use Rattle.ini_edit.proofs.source.section.SourceSection.rest.Goals as goal

pub front_before-requires : goal.front_before-requires
front_before-requires c =
    let gap = chars c.last_gap-gap.result.now in
    subst (IsRest gap) (sym c.dropped_key-rest.ensures)
    (dropped_key-rest c.args.read c.last_before_gap.result gap)
