use Rattle.std.proofs.Common.{◌∙◌, ◌++◌, ◌∷◌, [], ap, sym}
use Rattle.std.proofs.lemmas.Result.{on_ok_weaker}
use Rattle.ini_text.specs.Parsing.Items.{borrowed_item_of, cow_text}
use Rattle.ini.specs.Documents.{with_item, with_pair}
use Rattle.ini_view.proofs.LoadLemmas.{with_pair-last}
use Rattle.ini_view.proofs.load.Loading.push_item.Goals as goal

pub returns-in-Pair-clause-pushed : goal.returns-in-Pair-clause-pushed
returns-in-Pair-clause-pushed c =
    let k = cow_text c.in-Pair.key in
    let v = cow_text c.in-Pair.value in
    let d = c.self.inside.sections in
    let n = c.self.inside.name in
    on_ok_weaker c.push.result (λ e.
    ap (λ s. d ++ (n, s) ∷ []) e
    ∙ sym (with_pair-last k v d n c.self.inside.section)
    ∙ ap (with_pair k v) c.self.view_is
    ∙ ap (λ i. with_item c.args.self.now (borrowed_item_of i)) (sym c.in-Pair.is))
    c.push.ensures.pushed
