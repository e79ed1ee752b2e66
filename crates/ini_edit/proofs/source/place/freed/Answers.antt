use Rattle.std.proofs.Common.{◌≡◌, ◌∙◌, Some, ap, arith, chars, false, refl, true}
use Rattle.ini_edit.specs.Inside.SourceEnds.{place_of}
use Rattle.ini_edit.proofs.GapPlaceLemmas.{freed_none, freed_some, is_taken_or_refused, same_place}
use Rattle.ini_edit.proofs.source.place.freed.Goals as goal

pub returns-then-goes_on : goal.returns-then-goes_on
returns-then-goes_on c =
    let lines = chars c.split_blank_lines.result.0.now in
    let after = chars c.split_blank_lines.result.1.now in
    let refused : is_taken_or_refused c.args.is_last lines after ≡ true = grind arith in
    freed_none c.args.is_last (place_of c.args.place) (rw (
      ← c.split_blank_lines.ensures.lines,
      ← c.split_blank_lines.ensures.rest,
    ) refused)

pub returns : goal.returns
returns c =
    let lines = chars c.split_blank_lines.result.0.now in
    let after = chars c.split_blank_lines.result.1.now in
    let free : is_taken_or_refused c.args.is_last lines after ≡ false = grind arith in
    ap (λ p. Some p)
    (same_place refl refl c.split_blank_lines.ensures.lines c.split_blank_lines.ensures.rest)
    ∙ freed_some c.args.is_last (place_of c.args.place) (rw (
      ← c.split_blank_lines.ensures.lines,
      ← c.split_blank_lines.ensures.rest,
    ) free)
