use Rattle.std.proofs.Common.{◌∙◌, ◌-◌, ap, length}
use Rattle.std.proofs.lemmas.Result.{on_err_weaker, on_ok_weaker}
use Rattle.ini_multimap.specs.Pairs.{with_value_at}
use Rattle.ini.specs.Texts.{text_of}
use Rattle.ini.proofs.LastSectionLemmas.{with_pair-last, with_value_at-last}
use Rattle.ini.proofs.document.Ini.push_pair.Goals as goal

pub returns-clause-pushed : goal.returns-clause-pushed
returns-clause-pushed c =
    let d = c.args.self.now in
    let last = c.last_section_mut.ensures.section in
    let pushed =
    with_pair-last (text_of c.args.key) (text_of c.args.value) c.last_section_mut.result.now d last in
    on_ok_weaker c.push_unindexed.result (λ e. ap (with_value_at d (length d - 1)) e ∙ pushed)
    c.push_unindexed.ensures.appended

pub returns-clause-unchanged : goal.returns-clause-unchanged
returns-clause-unchanged c =
    let d = c.args.self.now in
    let same = with_value_at-last c.last_section_mut.result.now d c.last_section_mut.ensures.section in
    on_err_weaker c.push_unindexed.result (λ e. ap (with_value_at d (length d - 1)) e ∙ same)
    c.push_unindexed.ensures.unchanged
