use Rattle.std.proofs.Common.{◌≡◌, ◌∙◌, chars, sym}
use Rattle.ini.specs.Outcomes.{loaded}
use Rattle.ini.proofs.InversionLemmas.{one_outcome}
use Rattle.ini_view.proofs.laws.same_document.Goals as goal

pub returns : goal.returns
returns c =
    let one = one_outcome c.args.read (chars c.args.text.now) in
    let both : loaded c.args.view.now ≡ loaded c.args.document.now =
    one.alone (loaded c.args.view.now) c.requires.view
    ∙ sym (one.alone (loaded c.args.document.now) c.requires.document) in
    cc
