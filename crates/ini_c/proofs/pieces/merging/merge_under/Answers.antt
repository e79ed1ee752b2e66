use Rattle.std.proofs.Common.{◌≡◌, ◌∙◌, Some, ap, refl, rules}
use Rattle.std.specs.Option.{option_map}
use Rattle.ini_edit.specs.Sources.{document_in}
use Rattle.ini_layers.specs.Merging.{IsMergedBy, taken_by}
use Rattle.ini_layers.specs.Settings.{AlikeBy}
use Rattle.ini_layers.specs.SourceChanges.{AreMadeBy}
use Rattle.ini_c.specs.Changes.{side_if}
use Rattle.ini_c.specs.Inside.MadeChanges.{IsMergeOf}
use Rattle.ini_c.specs.Texts.{Asks}
use Rattle.ini_c.proofs.TextLemmas.{merges, text-stays}
use Rattle.ini_c.proofs.pieces.merging.merge_under.Goals as goal

pub returns-clause-base_stays : goal.returns-clause-base_stays
returns-clause-base_stays c =
    text-stays c.args.base.now c.with.new.self c.in-Some.ensures.text (search rules)

pub returns-clause-ours_stay : goal.returns-clause-ours_stay
returns-clause-ours_stay c =
    text-stays c.args.ours.now c.with-2.new.self c.in-Some-tied.ensures.text (search rules)

pub returns-clause-unchanged : goal.returns-clause-unchanged
returns-clause-unchanged c = λ not.
    text-stays c.args.theirs.now c.with_both.new.self c.in-Some-tied-2.ensures.text (search rules)

pub returns-clause-merged : goal.returns-clause-merged
returns-clause-merged c = λ is.
    let base : c.in-Ok.base ≡ document_in c.in-Some.base.now.value = search rules in
    let ours : c.in-Ok-with.ours ≡ document_in c.in-Some-tied.ours.now.value = search rules in
    let made : IsMergeOf c.args.rule.which c.args.rule.lookup c.args.write.now
    (side_if c.args.take_ours) c.in-Ok.base c.in-Ok-with.ours c.in-Some-tied-2.theirs.now.value
    c.with_both.new.self.value =
    search rules in
    merges (λ base ours old new. IsMergedBy c.args.rule.which c.args.rule.lookup
    (side_if c.args.take_ours) base ours (document_in old) (document_in new))
    c.args.theirs.now c.with_both.new.self
    (ap Some base ∙ ap (option_map document_in) c.in-Some.ensures.text)
    (ap Some ours ∙ ap (option_map document_in) c.in-Some-tied.ensures.text)
    c.in-Some-tied-2.ensures.text refl made.merged

pub returns-clause-made : goal.returns-clause-made
returns-clause-made c = λ is.
    let base : c.in-Ok.base ≡ document_in c.in-Some.base.now.value = search rules in
    let ours : c.in-Ok-with.ours ≡ document_in c.in-Some-tied.ours.now.value = search rules in
    let made : IsMergeOf c.args.rule.which c.args.rule.lookup c.args.write.now
    (side_if c.args.take_ours) c.in-Ok.base c.in-Ok-with.ours c.in-Some-tied-2.theirs.now.value
    c.with_both.new.self.value =
    search rules in
    merges (λ base ours old new. Asks c.args.write.now (λ w. AreMadeBy c.args.rule.which c.args.rule.lookup
    w old (taken_by c.args.rule.which c.args.rule.lookup (side_if c.args.take_ours) base ours
    (document_in old)) new))
    c.args.theirs.now c.with_both.new.self
    (ap Some base ∙ ap (option_map document_in) c.in-Some.ensures.text)
    (ap Some ours ∙ ap (option_map document_in) c.in-Some-tied.ensures.text)
    c.in-Some-tied-2.ensures.text refl made.made

pub returns-clause-ours_is_base : goal.returns-clause-ours_is_base
returns-clause-ours_is_base c = λ is.
    let base : c.in-Ok.base ≡ document_in c.in-Some.base.now.value = search rules in
    let ours : c.in-Ok-with.ours ≡ document_in c.in-Some-tied.ours.now.value = search rules in
    let made : IsMergeOf c.args.rule.which c.args.rule.lookup c.args.write.now
    (side_if c.args.take_ours) c.in-Ok.base c.in-Ok-with.ours c.in-Some-tied-2.theirs.now.value
    c.with_both.new.self.value =
    search rules in
    merges (λ base ours old new. AlikeBy c.args.rule.which c.args.rule.lookup base ours
    → new ≡ old)
    c.args.theirs.now c.with_both.new.self
    (ap Some base ∙ ap (option_map document_in) c.in-Some.ensures.text)
    (ap Some ours ∙ ap (option_map document_in) c.in-Some-tied.ensures.text)
    c.in-Some-tied-2.ensures.text refl made.ours_is_base

pub returns-clause-theirs_is_base : goal.returns-clause-theirs_is_base
returns-clause-theirs_is_base c = λ is.
    let base : c.in-Ok.base ≡ document_in c.in-Some.base.now.value = search rules in
    let ours : c.in-Ok-with.ours ≡ document_in c.in-Some-tied.ours.now.value = search rules in
    let made : IsMergeOf c.args.rule.which c.args.rule.lookup c.args.write.now
    (side_if c.args.take_ours) c.in-Ok.base c.in-Ok-with.ours c.in-Some-tied-2.theirs.now.value
    c.with_both.new.self.value =
    search rules in
    merges (λ base ours old new. AlikeBy c.args.rule.which c.args.rule.lookup base (document_in old)
    → AlikeBy c.args.rule.which c.args.rule.lookup ours (document_in new))
    c.args.theirs.now c.with_both.new.self
    (ap Some base ∙ ap (option_map document_in) c.in-Some.ensures.text)
    (ap Some ours ∙ ap (option_map document_in) c.in-Some-tied.ensures.text)
    c.in-Some-tied-2.ensures.text refl made.theirs_is_base

pub returns-clause-both_alike : goal.returns-clause-both_alike
returns-clause-both_alike c = λ is.
    let base : c.in-Ok.base ≡ document_in c.in-Some.base.now.value = search rules in
    let ours : c.in-Ok-with.ours ≡ document_in c.in-Some-tied.ours.now.value = search rules in
    let made : IsMergeOf c.args.rule.which c.args.rule.lookup c.args.write.now
    (side_if c.args.take_ours) c.in-Ok.base c.in-Ok-with.ours c.in-Some-tied-2.theirs.now.value
    c.with_both.new.self.value =
    search rules in
    merges (λ base ours old new. AlikeBy c.args.rule.which c.args.rule.lookup ours (document_in old)
    → new ≡ old)
    c.args.theirs.now c.with_both.new.self
    (ap Some base ∙ ap (option_map document_in) c.in-Some.ensures.text)
    (ap Some ours ∙ ap (option_map document_in) c.in-Some-tied.ensures.text)
    c.in-Some-tied-2.ensures.text refl made.both_alike
