use Rattle.std.proofs.Common.{◌∙◌, ap, chars}
use Rattle.ini.specs.Texts.{is_text}
use Rattle.ini_edit.proofs.CommentPartLemmas.{chars-return}
use Rattle.ini_edit.proofs.source.section.delete.is_return.Goals as goal

pub returns : goal.returns
returns c = c.is_same_text.ensures ∙ ap (is_text (chars c.args.text.now)) chars-return
