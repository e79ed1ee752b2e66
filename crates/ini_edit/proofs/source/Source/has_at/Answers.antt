use Rattle.std.proofs.Common.{◌∙◌, ap, arith, get_or, length}
use Rattle.std.proofs.lemmas.Bool.{ltb-false, ltb-true}
use Rattle.ini_edit.specs.Sources.{Pieces}
use Rattle.ini_edit.proofs.SourceIndexLemmas.{pair_none, pair_nowhere, pair_some}
use Rattle.ini_edit.proofs.source.Source.has_at.Goals as goal

pub returns-then-section-count-clause-none : goal.returns-then-section-count-clause-none
returns-then-section-count-clause-none c = λ _.
    pair_nowhere c.args.self.now.sections c.args.section c.args.pair
    (omega (arith, ap (λ (v : Pieces). length v.sections) c.self.view_is))

pub returns-clause-there : goal.returns-clause-there
returns-clause-there c = λ within.
    let x = c.index.result.now in
    let read = c.index.ensures ∙ ap (λ (v : Pieces). get_or v.sections c.args.section x) c.self.view_is in
    pair_some c.args.self.now.sections
    (omega (arith, ap (λ (v : Pieces). length v.sections) c.self.view_is)) read
    (omega (arith, ltb-true c.args.pair (length c.pairs.result.now) within, ap length c.pairs.ensures))

pub returns-clause-none : goal.returns-clause-none
returns-clause-none c = λ out.
    let x = c.index.result.now in
    let read = c.index.ensures ∙ ap (λ (v : Pieces). get_or v.sections c.args.section x) c.self.view_is in
    pair_none c.args.self.now.sections
    (omega (arith, ap (λ (v : Pieces). length v.sections) c.self.view_is)) read
    (omega (arith, ltb-false c.args.pair (length c.pairs.result.now) out, ap length c.pairs.ensures))
