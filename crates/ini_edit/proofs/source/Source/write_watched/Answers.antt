use Rattle.std.proofs.Common.{◌∙◌, ap, encode_utf8_all, subst}
use Rattle.std.proofs.lemmas.Result.{err_from_is_err_and}
use Rattle.ini_text.specs.Device.Watched.{WritesBytes}
use Rattle.ini_text.proofs.WriteLemmas.SendLemmas.{Sends-flushed, Sends-refused}
use Rattle.ini_edit.specs.Sources.{sections_text, text_in}
use Rattle.ini_edit.proofs.source.Source.write_watched.Goals as goal

pub returns-in_err-send_sections : goal.returns-in_err-send_sections
returns-in_err-send_sections g c =
    let p = err_from_is_err_and c.from_residual.result c.from_residual.ensures.1 in
    rw (p.1, p.2) (subst (WritesBytes _ _ _ _)
    (ap encode_utf8_all (ap sections_text c.deref.ensures.value ∙ ap text_in c.self.view_is))
    (Sends-refused c.new-lines.ensures c.in_err-send_sections.ensures))

pub returns : goal.returns
returns g c =
    subst (WritesBytes _ _ _ _)
    (ap encode_utf8_all (ap sections_text c.deref.ensures.value ∙ ap text_in c.self.view_is))
    (Sends-flushed c.requires c.new-lines.ensures c.in_ok-send_sections.ensures c.flush.ensures.sends
    c.flush.ensures.empty)
