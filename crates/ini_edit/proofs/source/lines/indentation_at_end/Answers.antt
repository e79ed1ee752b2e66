use Rattle.std.proofs.Common.{◌≡◌, ◌||◌, ◌&&◌, arith, chars, cond, refl, rules}
use Rattle.ini_text.specs.Grammar.CharacterKinds.{is_blank}
use Rattle.ini_edit.proofs.SourceLineWalkLemmas.{blank_starts_none, indentation_start, indentation_step}
use Rattle.ini_edit.proofs.source.lines.indentation_at_end.Goals as goal

pub characters-init : goal.characters-init
characters-init c = record {
  blanks = search rules;
  rest = search rules;
  apart = refl;
  so_far = rw c.is_line_end-is_line_start.ensures (indentation_start c.args.before (chars c.args.text.now));
}

pub characters-preserved : goal.characters-preserved
characters-preserved c =
    let start = c.characters.is_line_start in
    let indented = c.characters.is_indentation in
    let blank = is_blank c.in-Some.c in
    let goes_on : c.if-is_indentation.is_indentation ≡ ((indented || (start && blank)) && blank) =
    grind arith in
    let blanks : chars c.if-is_line_start.blanks.now
    ≡ cond (start && blank) (chars c.characters.rest.now) (chars c.characters.blanks.now) = grind arith in
    let ends = c.is_line_end-is_line_start-in-Some.ensures in
    record {
      blanks = search rules;
      rest = search rules;
      apart = rw (goes_on, ends) (blank_starts_none (indented || (start && blank)) c.in-Some.c);
      so_far = rw ends (indentation_step start indented (chars c.characters.blanks.now)
          c.in-Some.ensures.characters goes_on blanks c.characters.invariant.apart
          c.characters.invariant.so_far);
    }
