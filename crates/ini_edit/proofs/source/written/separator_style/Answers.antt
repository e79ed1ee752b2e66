use Rattle.std.proofs.Common.{◌∙◌, chars, sym}
use Rattle.std.proofs.lemmas.Str.{chars-nil}
use Rattle.ini_edit.proofs.StyleLemmas.{plain_some, style_made}
use Rattle.ini_edit.proofs.source.written.separator_style.Goals as goal

pub returns-in-Some : goal.returns-in-Some
returns-in-Some c =
    style_made (chars c.args.separator.now) chars-nil c.split_blanks.ensures.blanks
    (sym c.split_blanks.ensures.rest ∙ c.in-Some.ensures.characters)

pub returns-in-None : goal.returns-in-None
returns-in-None c = plain_some c.requires (sym c.split_blanks.ensures.rest ∙ c.in-None.ensures.characters)
