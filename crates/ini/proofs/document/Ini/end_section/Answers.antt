use Rattle.std.proofs.Common.{◌∙◌, ◌-◌, ap, length}
use Rattle.ini_multimap.specs.Pairs.{with_value_at}
use Rattle.ini.proofs.LastSectionLemmas.{with_value_at-last}
use Rattle.ini.proofs.document.Ini.end_section.Goals as goal

pub returns-clause-same : goal.returns-clause-same
returns-clause-same c =
    let d = c.args.self.now in
    let same = with_value_at-last c.last_section_mut.result.now d c.last_section_mut.ensures.section in
    ap (with_value_at d (length d - 1)) c.end.ensures.same ∙ same
