-- Indented comments among a value's lines: the texts that they stand before, and how texts end after them.
use Rattle.std.proofs.Common.{◌≡◌, ◌≢◌, ◌∙◌, ◌≤◌, ℕ, true, false, not, [], ◌∷◌, ◌++◌, ap, append_assoc}
use Rattle.std.proofs.Common.{arith, length, length-append, refl, subst, sym}
use Rattle.std.proofs.lemmas.Bool.{and_from, and_parts, both_ways, false_from_ne_true, not-true}
use Rattle.std.proofs.lemmas.Bool.{not_from_false, or_parts}
use Rattle.std.proofs.lemmas.List.Folds.{list_all-append}
use Rattle.std.specs.Char.{is_whitespace}
use Rattle.std.specs.List.{list_all}
use Rattle.ini_text.specs.Grammar.CharacterKinds.{BeginsWith, BeginsWithNo, is_blank, is_comment_mark}
use Rattle.ini_text.specs.Grammar.CharacterKinds.{is_inline_white, is_line_end, is_line_feed, line_feed}
use Rattle.ini_text.specs.Grammar.Lines.{Note}
use Rattle.ini_text.specs.Grammar.Positions.{is_column_one, last_or}
use Rattle.ini_text.specs.Grammar.Strings.{Closes, plain_ends}
use Rattle.ini_text.specs.Grammar.Values.{CommentLine, LineEnd}
use Rattle.ini_text.specs.declared.option.ParseOption.{ParseOption}
use Rattle.ini_text.proofs.LawLemmas.MovedLemmas.{last_or-after}
use Rattle.ini_text.proofs.ReaderLemmas.RunReaderLemmas.{BeginsWith-some}
use Rattle.ini.specs.Texts.{Text}
use Rattle.ini_edit.specs.Endings.{Ending, ending, ending_from}
use Rattle.ini_edit.proofs.EndingLemmas.{column_ending, ending-lead, no_feed_by}
use Rattle.ini_edit.proofs.QuietLemmas.{mark_no_end, note_within}
use Rattle.ini_edit.proofs.ValueLemmas.{closes_line_end}

last_no_feed : (c : ℕ) (s : Text) → is_line_feed c ≡ false → list_all (λ c. not (is_line_feed c)) s ≡ true
    → is_line_feed (last_or c s) ≡ false
last_no_feed c [] h all = h
last_no_feed c (d ∷ s) h all =
    let parts = and_parts (not (is_line_feed d)) (list_all (λ c. not (is_line_feed c)) s) all in
    last_no_feed d s (not-true (is_line_feed d) parts.0) parts.1

-- no comment without LF ends in column one
pub comment_no_column : (b : Text) (m : ℕ) (s : Text) → is_comment_mark m ≡ true
    → list_all (λ c. not (is_line_feed c)) s ≡ true → is_column_one (b ++ m ∷ s) ≡ false
comment_no_column b m s mark all =
    let no_feed = no_feed_by is_comment_mark m refl mark in
    ap is_line_feed (last_or-after line_feed m b s) ∙ last_no_feed m s no_feed all

pub comment_no_line : (o : ParseOption) (b : Text) (m : ℕ) (s : Text) → is_comment_mark m ≡ true
    → list_all (λ c. not (is_line_feed c)) s ≡ true → ending o (b ++ m ∷ s) ≢ Ending.line
comment_no_line o b m s mark all h =
    both_ways (is_column_one (b ++ m ∷ s)) (comment_no_column b m s mark all) (column_ending o (b ++ m ∷ s) h)

-- a text without line ends has no LF
pub no_feeds : (s : Text) → list_all (λ c. not (is_line_end c)) s ≡ true
    → list_all (λ c. not (is_line_feed c)) s ≡ true
no_feeds [] h = refl
no_feeds (c ∷ s) h =
    let parts = and_parts (not (is_line_end c)) (list_all (λ c. not (is_line_end c)) s) h in
    let apart = or_parts (is_line_feed c) _ (not-true (is_line_end c) parts.0) in
    and_from (not (is_line_feed c)) _ (not_from_false (is_line_feed c) apart.0) (no_feeds s parts.1)

white_within : (w : Text) → list_all is_inline_white w ≡ true
    → list_all (λ c. not (is_line_end c)) w ≡ true
white_within [] h = refl
white_within (c ∷ w) h =
    let parts = and_parts (is_inline_white c) (list_all is_inline_white w) h in
    and_from (not (is_line_end c)) _ (and_parts (is_whitespace c) _ parts.0).1 (white_within w parts.1)

pub both_within : (x y : Text) → list_all (λ c. not (is_line_end c)) x ≡ true
    → list_all (λ c. not (is_line_end c)) y ≡ true → list_all (λ c. not (is_line_end c)) (x ++ y) ≡ true
both_within x y a b = list_all-append (λ c. not (is_line_end c)) x y ∙ and_from _ _ a b

pub blanks_more : (w x : Text) → BeginsWith is_blank w → BeginsWith is_blank (w ++ x)
blanks_more [] x h = absurd (let no : true ≡ false = h in cc)
blanks_more (c ∷ w) x h = h

-- a line end closes the line before it
pub end_closes : {e x : Text} → LineEnd e x → Closes plain_ends (e ++ x)
end_closes LineEnd.lf = refl
end_closes LineEnd.cr_lf = refl
end_closes (LineEnd.cr n) = refl

pub closes_no_comment : (r : Text) → Closes plain_ends r → BeginsWithNo is_comment_mark r
closes_no_comment [] h = tt
closes_no_comment (c ∷ r) h =
    false_from_ne_true (is_comment_mark c)
    (λ mark. both_ways (is_line_end c) (mark_no_end c mark) (closes_line_end c h))

-- what closes a line begins with its end
pub closes_end : (r : Text) → Closes plain_ends r → BeginsWithNo (λ c. not (is_line_end c)) r
closes_end [] h = tt
closes_end (c ∷ r) h = ap not (closes_line_end c h)

module _ {o : ParseOption} where
  pub comment_closes : {s r : Text} → CommentLine o s r → Closes plain_ends r
  comment_closes (CommentLine.comment on begins lead (Note.note mark within closes)) = closes

  -- it begins with a blank, and no line ends in it
  pub comment_begins : {s r : Text} → CommentLine o s r → BeginsWith is_blank s
  comment_begins (CommentLine.comment {w} {n} on begins lead noted) = blanks_more w n begins

  pub comment_within : {s r : Text} → CommentLine o s r → list_all (λ c. not (is_line_end c)) s ≡ true
  comment_within (CommentLine.comment {w} {n} on begins lead noted) =
      both_within w n (white_within w lead.white) (note_within noted)

  pub comment_some : {s r : Text} (z : Text) → CommentLine o s r → 1 ≤ length (s ++ z)
  comment_some {s} z line =
      let n = BeginsWith-some is_blank s (comment_begins line) in omega (arith, length-append s z)

  -- before each text that closes its line, and with more in its line
  pub comment_longer : {s r : Text} (more x : Text) → list_all (λ c. not (is_line_end c)) more ≡ true
      → Closes plain_ends x → CommentLine o s r → CommentLine o (s ++ more) x
  comment_longer more x all closes
      (CommentLine.comment {w} on begins lead (Note.note {m} {s} mark within _)) =
      subst (λ t. CommentLine o t x) (sym (append_assoc w (m ∷ s) more))
      (CommentLine.comment on begins (record { white = lead.white; ends = lead.ends })
      (Note.note mark (both_within s more within all) closes))

  pub comment_before : {s r : Text} (x : Text) → Closes plain_ends x → CommentLine o s r → CommentLine o s x
  comment_before x closes (CommentLine.comment on begins lead (Note.note mark within _)) =
      CommentLine.comment on begins (record { white = lead.white; ends = lead.ends })
      (Note.note mark within closes)

  -- it may end with a backslash, but with no LF
  pub comment_inside : {s r : Text} (e : Ending) → CommentLine o s r → ending_from o e s ≢ Ending.line
  comment_inside e (CommentLine.comment {w} on begins lead (Note.note {m} {s} mark within _)) h =
      comment_no_line o [] m s mark (no_feeds s within)
      (sym (ending-lead o e w (m ∷ s) begins lead.white) ∙ h)
