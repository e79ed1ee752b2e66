use Rattle.std.proofs.Common.{◌≡◌, ◌∙◌, ◌++◌, Some, ap, chars, drop, false, length, subst, sym}
use Rattle.std.proofs.lemmas.Bool.{not-false}
use Rattle.ini_text.specs.Parsing.Fronts.{IsRest, front_of}
use Rattle.ini_edit.specs.SourceLines.{from_last_solid}
use Rattle.ini_edit.proofs.GapPlaceLemmas.{after_solid, kept_before, kept_whole, solid_after}
use Rattle.ini_edit.proofs.SourceLineLemmas.{dropped_key-rest, from_last_solid-rest}
use Rattle.ini_edit.proofs.source.place.place_for_section.Goals as goal

pub front_before-front-requires : goal.front_before-front-requires
front_before-front-requires c =
    let gap = chars c.args.gap.now in
    subst (IsRest gap) (sym c.dropped_key-dropped.ensures) (dropped_key-rest c.args.read c.args.before gap)

pub front_before-requires : goal.front_before-requires
front_before-requires c =
    from_last_solid-rest c.args.before (chars c.front_before-front.result.now) (chars c.in_ok-solid.solid.now)
    (sym c.in_ok-solid.ensures)

pub cut_after-requires : goal.cut_after-requires
cut_after-requires c =
    let gap = chars c.args.gap.now in
    let dropped = chars c.dropped_key-dropped.result.now in
    let solid = chars c.in_ok-solid.solid.now in
    let front = c.front_before-front.ensures in
    let within = subst (IsRest gap) (sym c.dropped_key-dropped.ensures)
    (dropped_key-rest c.args.read c.args.before gap) in
    let rest = from_last_solid-rest c.args.before (front_of gap dropped) solid
    (sym (c.in_ok-solid.ensures ∙ ap (from_last_solid c.args.before) front)) in
    subst (λ k. k ++ drop (length k) gap ≡ gap)
    (sym (c.front_before.ensures ∙ ap (λ f. front_of f solid) front))
    (kept_whole gap dropped solid within rest)

pub returns : goal.returns
returns c =
    let gap = chars c.args.gap.now in
    let dropped = chars c.dropped_key-dropped.result.now in
    let solid = chars c.in_ok-solid.solid.now in
    let front = c.front_before-front.ensures in
    let found = sym (c.in_ok-solid.ensures ∙ ap (from_last_solid c.args.before) front) in
    let within = subst (IsRest gap) (sym c.dropped_key-dropped.ensures)
    (dropped_key-rest c.args.read c.args.before gap) in
    let rest = from_last_solid-rest c.args.before (front_of gap dropped) solid found in
    let kept = c.front_before.ensures ∙ ap (λ f. front_of f solid) front in
    let after = c.cut_after.ensures.rest ∙ ap (λ k. drop (length k) gap) kept
    ∙ solid_after gap dropped solid within rest in (
      after_solid c.args.read c.args.has_pair c.args.before gap dropped solid c.dropped_key-dropped.ensures
          (sym c.is_empty.ensures ∙ c.if-is_empty.false) c.if-not-has_pair.false
          (not-false _ c.if-not-read.false) found
          ∙ ap (λ t. Some t) (sym after),
      c.cut_after.ensures.front ∙ kept ∙ kept_before gap dropped solid within rest
          ∙ ap (front_of gap) (sym after),
    )
