use Rattle.std.proofs.Common.{◌∙◌, ap, sym}
use Rattle.std.proofs.lemmas.Str.{encodes-chars}
use Rattle.ini_multimap.specs.Keys.{text_code}
use Rattle.ini_view.proofs.text.text_code.Goals as goal

pub returns : goal.returns
returns c =
    c.code_of.ensures
    ∙ ap text_code (c.as_bytes.ensures.value ∙ sym (encodes-chars c.args.text.now c.utf8.text))
