use Rattle.std.proofs.Common.{◌∙◌, None, IsSome, ap, fold, subst, sym}
use Rattle.ini.specs.Documents.{first_section}
use Rattle.ini_layers.specs.Layers.{HasLayeredValues}
use Rattle.ini_layers.specs.Layering.{with_layer}
use Rattle.ini_layers.proofs.LayeringLemmas.{merged-general, merged-values}
use Rattle.ini_layers.proofs.layers.Layers.merged.Goals as goal

pub returns-clause-values : goal.returns-clause-values
returns-clause-values c =
    let left = ap (fold with_layer c.loop-document.merged) c.in-None.ensures.steps.0 in
    let whole = sym c.loop-document.invariant ∙ left in
    subst (HasLayeredValues c.args.self.now) whole (merged-values c.args.self.now)

pub returns-clause-general : goal.returns-clause-general
returns-clause-general c =
    let left = ap (fold with_layer c.loop-document.merged) c.in-None.ensures.steps.0 in
    let whole = sym c.loop-document.invariant ∙ left in
    subst (λ d. IsSome (first_section None d)) whole (merged-general c.args.self.now)
