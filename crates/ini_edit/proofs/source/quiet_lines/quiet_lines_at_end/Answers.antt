use Rattle.std.proofs.Common.{◌≡◌, ◌&&◌, ◌||◌, arith, chars, cond, not, rules, subst, sym}
use denote.Shadow.{shadow}
use denote.Text.{Utf8}
use Rattle.ini_edit.specs.Inside.Lines.{place_of}
use Rattle.ini_edit.specs.SourceLines.{is_line, stays_quiet}
use Rattle.ini_edit.proofs.SourceLineWalkLemmas.{quiet_step}
use Rattle.ini_edit.proofs.source.quiet_lines.quiet_lines_at_end.Goals.{then-stays+then-starts+then-not-is_quiet}
use Rattle.ini_edit.proofs.source.quiet_lines.quiet_lines_at_end.Goals.{else-stays}
use Rattle.ini_edit.proofs.source.quiet_lines.quiet_lines_at_end.Goals as goal

pub characters-preserved : goal.characters-preserved
characters-preserved c =
    let p = place_of c.characters.place in
    let quiet = c.characters.is_quiet in
    let m = stays_quiet c.args.read p c.in-Some.c in
    let goes_on : c.if-stays-2.is_quiet ≡ (m && (quiet || is_line p)) = grind arith in
    let lines : chars c.if-stays.lines.now
    ≡ cond (m && (not quiet && is_line p)) (chars c.characters.rest.now) (chars c.characters.lines.now) =
    grind arith in
    record {
      lines = elim c.if-stays.branch [
        | then-stays+then-starts+then-not-is_quiet w ↦
            subst (λ t. shadow (Utf8 t.now)) (sym w.lines-is) c.characters.invariant.rest
        | else-stays w ↦ subst (λ t. shadow (Utf8 t.now)) (sym w.lines-is) c.characters.invariant.lines
      ];
      rest = search rules;
      so_far = quiet_step c.args.read p quiet (chars c.characters.lines.now) c.in-Some.ensures.characters
          goes_on lines c.next_place-place.ensures c.characters.invariant.so_far;
    }
