use Rattle.std.proofs.Common.{◌∙◌, ap, chars, subst, sym}
use Rattle.ini_text.specs.Parsing.Fronts.{IsRest}
use Rattle.ini_edit.specs.Inside.SourceEnds.{place_of}
use Rattle.ini_edit.proofs.SourceLineLemmas.{after_line-rest, all_rest}
use Rattle.ini_edit.proofs.source.place.place_for_first.Goals as goal

pub past_blank_lines-requires : goal.past_blank_lines-requires
past_blank_lines-requires c =
    let gap = chars c.args.gap.now in
    elim c.if-is_general-2.branch [
      | goal.then-is_general-2 w ↦
          subst (IsRest gap) (sym (ap (λ p. (place_of p).after) w.first-is
          ∙ ap (λ p. p.after) w.at_front-first.ensures)) (all_rest gap)
      | goal.else-is_general-2 w ↦
          subst (IsRest gap) (sym (ap (λ p. (place_of p).after) w.first-is
          ∙ ap (λ p. p.after) w.after_header-first.ensures)) (after_line-rest gap)
    ]
