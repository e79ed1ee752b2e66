use Rattle.std.proofs.Common.{◌∙◌, ap, sym}
use Rattle.std.proofs.lemmas.Str.{encodes-chars}
use Rattle.ini_file.specs.Shells.{is_digit_among}
use Rattle.ini_file.proofs.shell.is_digit_first.Goals as goal

pub returns : goal.returns
returns c = c.is_digit_among.ensures
    ∙ ap is_digit_among (c.as_bytes.ensures.value ∙ sym (encodes-chars c.args.text.now c.utf8.text))
