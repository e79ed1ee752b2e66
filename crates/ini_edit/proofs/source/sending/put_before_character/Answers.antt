use Rattle.std.proofs.Common.{◌∙◌, ap, chars, refl}
use Rattle.ini_edit.proofs.SendingLemmas.{chars_one, sent_as}
use Rattle.ini_edit.proofs.source.sending.put_before_character.Goals as goal

pub returns : goal.returns
returns g c =
    sent_as refl (ap chars c.encode_utf8.ensures.value ∙ chars_one c.args.c c.ranges.c.0) c.put_both.ensures
