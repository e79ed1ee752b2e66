-- Where indented comments are on, no comment mark begins a key, and of such a comment isn't warned.
use Rattle.std.proofs.Common.{◌≡◌, ◌∙◌, ℕ, true, false, List, [], ◌∷◌, ◌++◌, ap, eqb-true, inl, inr, refl}
use Rattle.std.proofs.Common.{sym}
use Rattle.std.proofs.lemmas.Bool.{and_parts, not-true, or_cases, or_parts}
use Rattle.std.specs.Char.{is_whitespace}
use Rattle.std.specs.List.{list_all}
use Rattle.std.specs.Prelude.{◌&&◌, ◌||◌, ◌==◌, if◌then◌else◌, not}
use Rattle.ini.specs.Texts.{Text}
use Rattle.ini_text.specs.Grammar.CharacterKinds.{BeginsWith, carriage_return, is_blank, is_comment_mark}
use Rattle.ini_text.specs.Grammar.CharacterKinds.{is_line_end, line_feed, open_bracket, space, tab}
use Rattle.ini_text.specs.Grammar.Keys.{Indentation, KeyFront, begins_indented_key, begins_key, begins_note}
use Rattle.ini_text.specs.Grammar.Lines.{Note}
use Rattle.ini_text.specs.declared.option.ParseOption.{ParseOption}
use Rattle.ini_text.proofs.GrammarLemmas.KindLemmas.{no_white_no_blank}
use Rattle.ini_check.specs.Traps.Keys.{begins_like_comment}
use Rattle.ini_check.specs.Traps.LostLines.{drops_line}
use Rattle.ini_check.specs.Warnings.{comment_warnings, nothing_warnings, warned}
use Rattle.ini_check.specs.declared.warning.Trap.TheVariants.{DroppedLine}
use Rattle.ini_check.proofs.LoneLineLemmas.{after_blanks_empty, mark_stays, note_empty}

after_blanks : (w s : Text) → list_all is_blank w ≡ true → begins_like_comment s ≡ false
    → begins_like_comment (w ++ s) ≡ false
after_blanks [] s blank none = none
after_blanks (c ∷ w) s blank none =
    let parts = and_parts (is_blank c) (list_all is_blank w) blank in
    rw parts.0 (after_blanks w s parts.1 none)

unindented_unmarked : (s r : Text) → BeginsWith begins_key (s ++ r) → begins_like_comment s ≡ false
unindented_unmarked [] r begins = refl
unindented_unmarked (c ∷ s) r begins =
    let x = or_parts (is_whitespace c || is_comment_mark c) (c == open_bracket) (not-true _ begins) in
    let y = or_parts (is_whitespace c) (is_comment_mark c) x.0 in
    rw (no_white_no_blank c y.0, y.1) refl

module _ (o : ParseOption) (on : o.enabled_indented_comment ≡ true) where
  no_mark : (c : ℕ) → begins_note o c ≡ false → is_comment_mark c ≡ false
  no_mark c none = rw (sym (ap (λ x. x && is_comment_mark c) on)) none

  indented_unmarked : (s r : Text) → BeginsWith (begins_indented_key o) (s ++ r)
      → begins_like_comment s ≡ false
  indented_unmarked [] r begins = refl
  indented_unmarked (c ∷ s) r begins =
      let inner = is_blank c || is_line_end c || c == open_bracket in
      let x = or_parts inner (begins_note o c) (not-true _ begins) in
      let y = or_parts (is_blank c || is_line_end c) (c == open_bracket) x.0 in
      rw ((or_parts (is_blank c) (is_line_end c) y.0).0, no_mark c x.1) refl

  pub key_unmarked : {b k r key : Text} → KeyFront o b k r key → begins_like_comment k ≡ false
  key_unmarked (KeyFront.unindented {s} {r} begins str) = unindented_unmarked s r begins
  key_unmarked (KeyFront.indented {w} {s} {r} ind begins str) =
      after_blanks w s ind.blank (indented_unmarked s r begins)

line_unwarned : (b s : Text) → list_all (λ c. not (is_line_end c)) s ≡ true → comment_warnings b s ≡ []
line_unwarned b [] all = refl
line_unwarned b (c ∷ s) all =
    let parts = and_parts (not (is_line_end c)) (list_all (λ c. not (is_line_end c)) s) all in
    let ends = or_parts (c == line_feed) (c == carriage_return) (not-true (is_line_end c) parts.0) in
    rw ends.1 (line_unwarned (b ++ c ∷ []) s parts.1)

blank_no_mark : (c : ℕ) → is_blank c ≡ true → is_comment_mark c ≡ false
blank_no_mark c h = elim (or_cases (c == space) (c == tab) h)
    [ inl q ↦ rw (eqb-true c 0x20 q) refl | inr q ↦ rw (eqb-true c 0x09 q) refl ]

pub indented_unwarned : (b w : Text) {s r : Text} → Indentation b w → Note s r
    → nothing_warnings b (w ++ s) ≡ []
indented_unwarned b [] ind n = cc
indented_unwarned b (c ∷ w) {s} ind n =
    let parts = and_parts (is_blank c) (list_all is_blank w) ind.blank in
    let empty = after_blanks_empty (c ∷ w) s ind.blank (note_empty n) in
    let source = (c ∷ w) ++ s in
    ap (λ x. if x then comment_warnings b source else warned b source (drops_line source) DroppedLine)
    (blank_no_mark c parts.0)
    ∙ ap (λ x. warned b source x DroppedLine) empty.dropped

pub note_unwarned : (b : Text) {s r : Text} → Note s r → nothing_warnings b s ≡ []
note_unwarned b (Note.note {m} {s} mark all closes) =
    rw mark (line_unwarned b (m ∷ s) (rw (mark_stays m mark, all) refl))
