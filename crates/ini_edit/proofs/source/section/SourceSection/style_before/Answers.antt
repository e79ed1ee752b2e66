use Rattle.std.proofs.Common.{◌≡◌, ◌∙◌, ◌++◌, ◌∷◌, ◌&&◌, Some, ap, arith, false, get_or, sym, take}
use Rattle.std.proofs.lemmas.Bool.{and_from, and_right}
use Rattle.std.specs.Option.{option_map}
use Rattle.ini_text.specs.Grammar.CharacterKinds.{is_line_end}
use Rattle.ini_text.specs.Grammar.Positions.{starts_line}
use Rattle.ini_edit.specs.SourceWritten.{last_that_begins, style_like}
use Rattle.ini_edit.specs.Sources.{has_separator, pairs_text}
use Rattle.ini_edit.proofs.SourcePartLemmas.{before_index, begins_before, begins_last, starts_after}
use Rattle.ini_edit.proofs.source.section.SourceSection.style_before.Goals as goal
use Rattle.ini_edit.proofs.source.section.SourceSection.style_before.Goals.{else-is_line_end-via-then-is_line_end+else-has_separator}
use Rattle.ini_edit.proofs.source.section.SourceSection.style_before.Goals.{else-is_line_end-via-else-is_line_end}

pub returns-then-has_separator : goal.returns-then-has_separator
returns-then-has_separator c =
    let s = c.args.self.now in
    let front = c.args.front ∷ (s.header ++ s.after) in
    let before = take c.in-Some.before s.pairs in
    let p = c.index-pair.result.now in
    ap Some c.style.ensures
    ∙ sym (ap (option_map (style_like c.args.read)) (sym c.pairs.invariant.same
    ∙ ap (last_that_begins front) (before_index c.in-Some.ensures c.pairs.invariant.within
    (ap (λ s. s.pairs) c.self.view_is) c.index-pair.ensures)
    ∙ begins_last front before p (and_from (starts_line (front ++ pairs_text before)) (has_separator p)
    (starts_after c.args.front s before
    ∙ ap is_line_end (sym c.last_before.ensures) ∙ sym c.is_line_end.ensures ∙ c.if-is_line_end.true)
    (sym c.has_separator.ensures ∙ c.if-has_separator.true))))

pub pairs-preserved : goal.pairs-preserved
pairs-preserved c =
    let s = c.args.self.now in
    let front = c.args.front ∷ (s.header ++ s.after) in
    let before = take c.in-Some.before s.pairs in
    let p = c.index-pair.result.now in
    let at = c.in-Some.ensures in
    let starts = starts_line (front ++ pairs_text before) in
    let apart : (starts && has_separator p) ≡ false =
    elim c.else-is_line_end.branch [
      | else-is_line_end-via-then-is_line_end+else-has_separator w ↦
          and_right starts (has_separator p) (sym w.has_separator.ensures ∙ w.if-has_separator.false)
      | else-is_line_end-via-else-is_line_end w ↦
          ap (λ b. b && has_separator p) (starts_after c.args.front s before
          ∙ ap is_line_end (sym c.last_before.ensures) ∙ sym c.is_line_end.ensures ∙ w.if-is_line_end.false)
    ] in
    record {
      within = omega (arith, at.0, at.1, c.pairs.invariant.within);
      same = sym (begins_before front s.pairs c.pairs.left c.in-Some.before p at c.pairs.invariant.within
          (c.index-pair.ensures ∙ ap (λ s. get_or s.pairs c.in-Some.before p) c.self.view_is) apart)
          ∙ c.pairs.invariant.same;
    }
