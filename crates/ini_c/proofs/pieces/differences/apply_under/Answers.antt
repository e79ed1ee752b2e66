use Rattle.std.proofs.Common.{refl, rules}
use Rattle.ini_edit.specs.Sources.{document_in}
use Rattle.ini_layers.specs.Applying.{HasChangedBy, LeadsToBy}
use Rattle.ini_c.specs.Changes.{changes_given}
use Rattle.ini_c.specs.Inside.MadeChanges.{AreMadeOf}
use Rattle.ini_c.proofs.TextLemmas.{changes}
use Rattle.ini_c.proofs.pieces.differences.apply_under.Goals as goal

pub returns-clause-values : goal.returns-clause-values
returns-clause-values c = λ is.
    let given = changes_given c.args.bytes.now c.args.counts.now in
    let made : AreMadeOf c.args.rule.which c.args.rule.lookup c.args.write.now given
    c.in-Some.tied.now.value c.with_both.new.self.value =
    search rules in
    changes (λ old new. HasChangedBy c.args.rule.which c.args.rule.lookup given (document_in old)
    (document_in new))
    c.args.text.now c.with_both.new.self c.in-Some.ensures.text refl made.values

pub returns-clause-leads : goal.returns-clause-leads
returns-clause-leads c = λ is.
    let given = changes_given c.args.bytes.now c.args.counts.now in
    let made : AreMadeOf c.args.rule.which c.args.rule.lookup c.args.write.now given
    c.in-Some.tied.now.value c.with_both.new.self.value =
    search rules in
    changes (λ old new. LeadsToBy c.args.rule.which c.args.rule.lookup given (document_in old)
    (document_in new))
    c.args.text.now c.with_both.new.self c.in-Some.ensures.text refl made.leads
