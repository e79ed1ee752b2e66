use Rattle.std.proofs.Common.{◌≡◌, ◌∙◌, ◌==◌, ◌&&◌, false, ap, chars, eq-eqb, ne_eqb, sym}
use Rattle.std.proofs.lemmas.Bool.{and_from, and_left, and_right, cond-false, cond-true}
use Rattle.ini_text.specs.Grammar.CharacterKinds.{carriage_return, line_feed}
use Rattle.ini_text.specs.Grammar.Elements.{may_have_note}
use Rattle.ini_text.specs.Grammar.Positions.{last_or}
use Rattle.ini.proofs.WritingLemmas.{chars-line_end}
use Rattle.ini_edit.proofs.CharsLemmas.{chars-return}
use Rattle.ini_edit.specs.SourceEditsAdd.{notes_behind_return}
use Rattle.ini_edit.specs.SourceEditsDelete.{line_end_after}
use Rattle.ini_edit.proofs.source.section.insert.end_after.Goals.{else-may_have_note-via-else-may_have_note}
use Rattle.ini_edit.proofs.source.section.insert.end_after.Goals.{else-may_have_note-via-then-may_have_note+else-last_or-eq13}
use Rattle.ini_edit.proofs.source.section.insert.end_after.Goals as goal

pub returns-then-last_or-eq13 : goal.returns-then-last_or-eq13
returns-then-last_or-eq13 c = λ p is.
    chars-return ∙ sym (cond-true _ _ _ (and_from (notes_behind_return c.args.read) _
    (ap (may_have_note c.args.read) (sym chars-return) ∙ sym c.may_have_note.ensures
    ∙ c.if-may_have_note.true)
    (eq-eqb (last_or line_feed (line_end_after c.args.read p)) carriage_return
    (ap (last_or line_feed) (sym is) ∙ sym c.last_or.ensures ∙ c.if-last_or-eq13.true))))

pub returns : goal.returns
returns c = λ p is.
    let last = last_or line_feed (line_end_after c.args.read p) in
    let off : (notes_behind_return c.args.read && last == carriage_return) ≡ false =
    elim c.else-may_have_note.branch [
      | else-may_have_note-via-then-may_have_note+else-last_or-eq13 w ↦
          and_right (notes_behind_return c.args.read) (last == carriage_return)
          (ne_eqb last carriage_return
          (λ e. w.if-last_or-eq13.false (w.last_or.ensures ∙ ap (last_or line_feed) is ∙ e)))
      | else-may_have_note-via-else-may_have_note w ↦
          and_left (notes_behind_return c.args.read) _
          (ap (may_have_note c.args.read) (sym chars-return) ∙ sym c.may_have_note.ensures
          ∙ w.if-may_have_note.false)
    ] in
    ap chars c.as_str.ensures ∙ chars-line_end c.args.end ∙ sym (cond-false _ _ _ off)
