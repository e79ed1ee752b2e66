use Rattle.std.proofs.Common.{◌≡◌, ◌∙◌, ◌&&◌, Bool, true, false, [], ◌∷◌, ap, chars, if◌then◌else◌, not, refl}
use Rattle.std.proofs.Common.{sym}
use Rattle.std.proofs.lemmas.Bool.{cond-false, cond-true}
use Rattle.std.proofs.lemmas.Str.{chars-nil}
use Rattle.ini.specs.Texts.{Text}
use Rattle.ini_text.specs.Parsing.Items.{cow_text, string_text}
use Rattle.ini_edit.specs.SourceEdits.{note_beside, space_beside}
use Rattle.ini_edit.specs.SourceLines.{is_empty}
use Rattle.ini_edit.specs.Sources.{PairPiece}
use Rattle.ini_edit.specs.declared.source.pair.own.PairParts.TheInside.{Inside}
use Rattle.ini_edit.proofs.CharsLemmas.{chars-space}
use Rattle.ini_edit.proofs.source.pair.own.PairParts.put_value.Goals as goal
use Rattle.ini_edit.proofs.source.pair.own.PairParts.put_value.Goals.{else-is_empty, else-needs_space}
use Rattle.ini_edit.proofs.source.pair.own.PairParts.put_value.Goals.{then-is_empty+in-Borrowed-1}
use Rattle.ini_edit.proofs.source.pair.own.PairParts.put_value.Goals.{then-is_empty+in-Owned-1}
use Rattle.ini_edit.proofs.source.pair.own.PairParts.put_value.Goals.{then-needs_space+in-Borrowed-1}
use Rattle.ini_edit.proofs.source.pair.own.PairParts.put_value.Goals.{then-needs_space+in-Owned-1}

-- a note stays beside a source that isn't empty
stays : (none : Bool) (note : Text) → not (is_empty (if none then [] else note)) ≡ (not none && not (is_empty note))
stays true note = refl
stays false note = refl

pub returns : goal.returns
returns c =
    let p = c.args.self.now in
    let source = string_text c.args.raw_value in
    let put : PairPiece → Text → Text → PairPiece = λ q white note. record {
      stretches = record {
        key = q.stretches.key;
        separator = q.stretches.separator;
        space_before = q.stretches.space_before;
        raw_value = source;
        space_after = white;
        note = note;
        trailing_lines = q.stretches.trailing_lines;
      };
      key = q.key;
      value = string_text c.args.value;
      after = q.after;
    } in
    let shown : Inside → PairPiece = λ i. record {
      stretches = record {
        key = cow_text i.raw_key;
        separator = i.separator;
        space_before = cow_text i.space_before;
        raw_value = source;
        space_after = cow_text i.space_after;
        note = cow_text i.note;
        trailing_lines = cow_text i.trailing_lines;
      };
      key = cow_text i.key;
      value = string_text c.args.value;
      after = cow_text i.after;
    } in
    let old = p.stretches in
    let spaced : (is_empty old.space_after && (not (is_empty source) && not (is_empty old.note)))
    ≡ c.needs_space.result =
    sym (c.needs_space.ensures
    ∙ ap (λ t. is_empty old.space_after && (not (is_empty t) && not (is_empty old.note)))
    (ap chars c.as_str.ensures.value)) in
    let emptied : is_empty source ≡ c.is_empty.result =
    sym (c.is_empty.ensures ∙ ap is_empty (ap chars c.as_str-2.ensures.value)) in
    let white = if is_empty old.space_after && (not (is_empty source) && not (is_empty old.note)) then 32 ∷ [] else old.space_after in
    let same : space_beside source p ≡ white =
    ap (λ t. if is_empty old.space_after && t then 32 ∷ [] else old.space_after)
    (stays (is_empty source) old.note) in
    let first : shown c.if-needs_space.self-inside ≡ put p white old.note =
    elim c.if-needs_space.branch [
      | then-needs_space+in-Owned-1 w ↦
          ap shown w.self-inside-is ∙ ap (λ q. put q (chars (32 ∷ [])) q.stretches.note) c.self.view_is
          ∙ ap (λ t. put p t old.note) (chars-space ∙ sym (cond-true _ _ _ (spaced ∙ w.if-needs_space.true)))
      | then-needs_space+in-Borrowed-1 w ↦
          ap shown w.self-inside-is ∙ ap (λ q. put q (chars (32 ∷ [])) q.stretches.note) c.self.view_is
          ∙ ap (λ t. put p t old.note) (chars-space ∙ sym (cond-true _ _ _ (spaced ∙ w.if-needs_space.true)))
      | else-needs_space w ↦
          ap shown w.self-inside-is ∙ ap (λ q. put q q.stretches.space_after q.stretches.note) c.self.view_is
          ∙ ap (λ t. put p t old.note) (sym (cond-false _ _ _ (spaced ∙ w.if-needs_space.false)))
    ] in
    (elim c.if-is_empty.branch [
      | then-is_empty+in-Owned-1 w ↦
          ap shown w.self-inside-is ∙ ap (λ q. put q q.stretches.space_after (chars [])) first
          ∙ ap (put p white)
          (chars-nil ∙ sym (cond-true (is_empty source) [] old.note (emptied ∙ w.if-is_empty.true)))
      | then-is_empty+in-Borrowed-1 w ↦
          ap shown w.self-inside-is ∙ ap (λ q. put q q.stretches.space_after (chars [])) first
          ∙ ap (put p white)
          (chars-nil ∙ sym (cond-true (is_empty source) [] old.note (emptied ∙ w.if-is_empty.true)))
      | else-is_empty w ↦
          ap shown w.self-inside-is ∙ first
          ∙ ap (put p white)
          (sym (cond-false (is_empty source) [] old.note (emptied ∙ w.if-is_empty.false)))
    ]) ∙ ap (λ t. put p t (note_beside source p)) (sym same)
