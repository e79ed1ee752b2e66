use Rattle.std.proofs.Common.{chars, [], None, ap, ◌∙◌}
use Rattle.std.proofs.lemmas.Str.{chars-nil}
use Rattle.ini_edit.proofs.source.section.SourceSection.general.Goals as goal

pub returns : goal.returns
returns c =
    let text = chars c.args.after.now in
    ap (λ h. record { name = None; header = h; after = text; pairs = c.new.result.items }) chars-nil
    ∙ ap (λ ps. record { name = None; header = []; after = text; pairs = ps }) c.new.ensures.items
