use Rattle.std.proofs.Common.{◌∙◌, ◌++◌, ◌∷◌, [], ap, chars, sym}
use Rattle.std.proofs.lemmas.Result.{on_ok_weaker}
use Rattle.ini.specs.Documents.{with_pair}
use Rattle.ini.specs.Texts.{name_of}
use Rattle.ini_view.proofs.LoadLemmas.{with_pair-last}
use Rattle.ini_file.proofs.pair_places.Placing.push.Goals as goal

pub returns : goal.returns
returns c =
    let key = chars c.args.key.now in
    let place = chars c.args.place.now in
    let sections = c.self.inside.sections in
    let name = name_of c.self.inside.name in
    on_ok_weaker c.append.result (λ appended.
    ap (λ pairs. sections ++ (name, pairs) ∷ []) appended
    ∙ sym (with_pair-last key place sections name c.self.inside.pairs)
    ∙ ap (with_pair key place) c.self.view_is)
    c.append.ensures.appended
