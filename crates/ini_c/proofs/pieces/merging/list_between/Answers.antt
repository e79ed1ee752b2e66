use Rattle.std.proofs.Common.{◌≡◌, ◌∙◌, ap, rules}
use Rattle.ini_edit.specs.Sources.{document_in}
use Rattle.ini_layers.specs.Merging.{conflicts_by}
use Rattle.ini_c.specs.Changes.{conflicts_listed}
use Rattle.ini_c.specs.Inside.Gathered.{contents}
use Rattle.ini_c.proofs.pieces.merging.list_between.Goals as goal

pub returns-clause-listed : goal.returns-clause-listed
returns-clause-listed c =
    let which = c.args.rule.which in
    let lookup = c.args.rule.lookup in
    let theirs = document_in c.args.theirs.now.value in
    let base : c.in-Ok.base ≡ document_in c.args.base.now.value = search rules in
    let ours : c.in-Ok-with.ours ≡ document_in c.args.ours.now.value = search rules in
    let listed : contents c.in-Ok-with-2.listing
    ≡ conflicts_listed (conflicts_by which lookup c.in-Ok.base c.in-Ok-with.ours theirs) = search rules in
    listed
    ∙ ap (λ b. conflicts_listed (conflicts_by which lookup b c.in-Ok-with.ours theirs)) base
    ∙ ap (λ o. conflicts_listed (conflicts_by which lookup (document_in c.args.base.now.value) o theirs)) ours
