use Rattle.std.proofs.Common.{◌∙◌, ap, chars, subst, sym}
use Rattle.ini_text.specs.Inside.LineReader.{past_note}
use Rattle.ini_text.specs.Parsing.Fronts.{IsRest}
use Rattle.ini_edit.proofs.SourceLineLemmas.{past_note-rest}
use Rattle.ini_edit.proofs.source.pair.SourcePair.note_after.Goals as goal

pub front_before-requires : goal.front_before-requires
front_before-requires c =
    let o = c.args.read in
    let gap = c.args.self.now.after in
    subst (λ t. IsRest t (chars c.past_note-rest.result.now)) (sym c.after-2.ensures)
    (subst (IsRest gap) (sym (c.past_note-rest.ensures ∙ ap (past_note o) c.after.ensures))
    (past_note-rest o gap))
