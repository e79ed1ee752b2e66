use Rattle.std.proofs.Common.{ap, ◌∙◌, chars}
use Rattle.std.specs.Str.{bytes_eq}
use Rattle.ini_text.proofs.StringLemmas.SameTextLemmas.{same_text}
use Rattle.ini_text.proofs.StringLemmas.TrimLemmas.{chars_trim}
use Rattle.ini_file.proofs.unwritable.is_trimmed.Goals as goal

pub returns : goal.returns
returns c =
    c.eq.ensures ∙ same_text c.trim.result.now c.args.text.now c.trim.utf8 c.utf8.text
    ∙ ap (λ cs. bytes_eq cs (chars c.args.text.now))
    (ap chars c.trim.ensures.trim ∙ chars_trim c.args.text.now c.utf8.text)
