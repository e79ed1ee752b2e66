use Rattle.std.proofs.Common.{◌∙◌, ap, append_assoc, chars, subst}
use Rattle.std.proofs.lemmas.Result.{err_from_is_err_and}
use Rattle.ini_text.specs.Device.Gathering.{Sends}
use Rattle.ini_text.specs.Parsing.Items.{cow_text}
use Rattle.ini_text.proofs.WriteLemmas.SendLemmas.{Sends-cut, Sends-then}
use Rattle.ini_edit.specs.Sources.{pairs_text, section_text}
use Rattle.ini_edit.proofs.SendingLemmas.{sent_as}
use Rattle.ini_edit.proofs.source.section.SourceSection.send_to.Goals as goal

pub returns-in_err-put_both : goal.returns-in_err-put_both
returns-in_err-put_both g c =
    let p = err_from_is_err_and c.from_residual.result c.from_residual.ensures.1 in
    let s = c.self.inside in
    rw (p.1, p.2) (subst (Sends _ _ _ _ _ _)
    (append_assoc (cow_text s.header) (cow_text s.after) (pairs_text s.pairs.items)
    ∙ ap section_text c.self.view_is)
    (Sends-cut _ (sent_as (ap chars c.as_str.ensures.value) (ap chars c.as_str-2.ensures.value)
    c.in_err-put_both.ensures)))

pub returns : goal.returns
returns g c =
    let s = c.self.inside in
    subst (Sends _ _ _ _ _ _)
    (append_assoc (cow_text s.header) (cow_text s.after) (pairs_text s.pairs.items)
    ∙ ap section_text c.self.view_is)
    (Sends-then c.requires
    (sent_as (ap chars c.as_str.ensures.value) (ap chars c.as_str-2.ensures.value) c.in_ok-put_both.ensures)
    (subst (Sends _ _ _ _ _ _) (ap pairs_text c.deref.ensures.value) c.send_pairs.ensures))
