use Rattle.std.proofs.Common.{◌∙◌, ap, rules, sym}
use Rattle.ini_text.specs.Grammar.CharacterKinds.{is_blank}
use Rattle.ini_text.proofs.StringLemmas.NoteRunLemmas.{note_ends, note_next}
use Rattle.ini_text.proofs.parser.endpoints.from_note.Goals as goal

pub returns-in_default : goal.returns-in_default
returns-in_default c = sym (c.marks.invariant.same
    ∙ note_ends _ _ c.split_mark.ensures.parts c.in_default.ensures.characters c.split_mark.ensures.before)

pub returns-then-is_blank : goal.returns-then-is_blank
returns-then-is_blank c = sym (c.marks.invariant.same
    ∙ note_next _ _ c.split_mark.ensures.parts c.in-Some.ensures.characters c.split_mark.ensures.next
    c.split_mark.ensures.before
    (sym c.if-is_blank.true ∙ c.is_blank.ensures ∙ ap is_blank c.last_or_line_feed.ensures))

pub marks-preserved : goal.marks-preserved
marks-preserved c = record {
  text = search rules;
  same = c.marks.invariant.same
      ∙ note_next _ _ c.split_mark.ensures.parts c.in-Some.ensures.characters c.split_mark.ensures.next
      c.split_mark.ensures.before
      (sym c.if-is_blank.false ∙ c.is_blank.ensures ∙ ap is_blank c.last_or_line_feed.ensures);
}
