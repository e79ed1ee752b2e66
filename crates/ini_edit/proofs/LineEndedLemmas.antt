-- The lines after a multiline value that ends the text: where the word for it says that a line ends there,
-- they stand before all that may follow them.
use Rattle.std.proofs.Common.{◌≡◌, ◌≢◌, ◌∙◌, ◌&&◌, ℕ, true, false, not, []}
use Rattle.std.proofs.Common.{◌∷◌, ◌++◌, ap, append-nil, eqb-true, inl, inr, refl, sym}
use Rattle.std.proofs.lemmas.Bool.{and_parts, both_ways, cases_Bool, cond-false, false≢true}
use Rattle.std.specs.List.{list_all}
use Rattle.ini_text.specs.Grammar.CharacterKinds.{is_line_feed, line_feed}
use Rattle.ini_text.specs.Grammar.Places.{TrailingLines}
use Rattle.ini_text.specs.Grammar.Positions.{is_column_one, last_or}
use Rattle.ini_text.specs.Grammar.Values.{MoreLines}
use Rattle.ini_text.specs.Parsing.Fronts.{front_of}
use Rattle.ini_text.specs.declared.option.ParseOption.{ParseOption}
use Rattle.ini_text.proofs.LawLemmas.OneAheadLemmas.{CommentLine-before, EndedLine-before, GoesOn-before}
use Rattle.ini.specs.Texts.{Text}
use Rattle.ini_edit.specs.Places.{Follows}
use Rattle.ini_edit.specs.SourceEditsDelete.{line_end_after, lines_after, own_lines}
use Rattle.ini_edit.specs.SourceLines.{LinePlace, are_quiet, ends_in_line, is_empty, is_line, is_line_from}
use Rattle.ini_edit.specs.SourceLines.{next_place, quiet_lines_at_end, quiet_lines_from, stays_quiet}
use Rattle.ini_edit.specs.Sources.{PairPiece, is_multiline}
use Rattle.ini_edit.proofs.PairEndLemmas.{lines_on, no_line_end_on, own_on}
use Rattle.ini_edit.proofs.QuietWalkLemmas.{feeds_left, feeds_right, passed_comment, passed_last, passed_line}
use Rattle.ini_edit.proofs.QuietWalkLemmas.{passed_last_comment, past_end}
use Rattle.ini_edit.proofs.SourceLineLemmas.{front_of_none}
use Rattle.ini_edit.proofs.TrailingCutLemmas.{line_end_moved}

-- lines that end with the text where a line ends there
module _ {o : ParseOption} {x : Text} (on : o.enabled_indented_mutiline_value ≡ true) (follows : Follows o x)
  where
    stays : {t r u : Text} → MoreLines o t r u → r ≡ [] → list_all is_line_feed u ≡ true
        → is_line_from o LinePlace.line t ≡ true → MoreLines o t x u
    stays (MoreLines.done n m) none all ends =
        MoreLines.done (follows.no_blank on) (follows.no_line_end on)
    stays (MoreLines.empty_lf more) none all ends = MoreLines.empty_lf (stays more none all ends)
    stays (MoreLines.empty_cr_lf more) none all ends = MoreLines.empty_cr_lf (stays more none all ends)
    stays (MoreLines.continued {w} {l} {e} {t} {r} {u} {v} goes ln end more) none all ends =
        let n = EndedLine-before (line_end_moved t r [] t on end (sym (append-nil t)) follows)
        (record { lead = goes.lead; line = ln; end = end }) in
        MoreLines.continued (GoesOn-before l (t ++ x) end goes) n.line n.end
        (stays more none (feeds_right u v all)
        (sym (passed_line w l t r goes ln (feeds_left u v all) end).line ∙ ends))
    stays (MoreLines.last {w} {l} goes ln) none all ends =
        absurd (both_ways (is_line_from o LinePlace.line (w ++ l)) (passed_last w l goes ln all).line ends)
    stays (MoreLines.comment {e = e} {t} {r} noted end more) none all ends =
        MoreLines.comment (CommentLine-before (t ++ x) end noted)
        (line_end_moved t r [] t on end (sym (append-nil t)) follows)
        (stays more none all (sym (passed_comment t r noted end).line ∙ ends))
    stays (MoreLines.last_comment {s} noted) none all ends =
        absurd (both_ways (is_line_from o LinePlace.line s) (passed_last_comment noted).line ends)

    pub trailing_stays : {t : Text} → TrailingLines o t [] → ends_in_line o t ≡ true → TrailingLines o t x
    trailing_stays (TrailingLines.line off closes) ends =
        absurd (both_ways o.enabled_indented_mutiline_value off on)
    trailing_stays (TrailingLines.end _) ends = absurd (false≢true ends)
    trailing_stays (TrailingLines.lines {e} {t} _ end more all) ends =
        TrailingLines.lines on (line_end_moved t [] [] t on end (sym (append-nil t)) follows)
        (stays more refl all (sym (past_end o t [] end).1 ∙ ends)) all

-- a line ends after an LF, but for one that a backslash takes
feed_ends : (o : ParseOption) (p : LinePlace) (c : ℕ) → stays_quiet o p c ≡ true → is_line_feed c ≡ true
    → is_line (next_place o p c []) ≡ true
feed_ends o LinePlace.line c quiet feed = rw (eqb-true c line_feed feed) refl
feed_ends o LinePlace.lead c quiet feed = rw (eqb-true c line_feed feed) refl
feed_ends o LinePlace.within c quiet feed = rw (eqb-true c line_feed feed) refl
feed_ends o LinePlace.space c quiet feed = absurd (false≢true quiet)
feed_ends o LinePlace.escape c quiet feed = absurd (false≢true quiet)
feed_ends o LinePlace.note c quiet feed = rw (eqb-true c line_feed feed) refl

quiet_ends : (o : ParseOption) (p : LinePlace) (c : ℕ) (t : Text) → are_quiet o p (c ∷ t) ≡ true
    → is_line_feed (last_or c t) ≡ true → is_line_from o p (c ∷ t) ≡ true
quiet_ends o p c [] quiet feed = feed_ends o p c (and_parts (stays_quiet o p c) _ quiet).0 feed
quiet_ends o p c (d ∷ t) quiet feed =
    quiet_ends o (next_place o p c (d ∷ t)) d t (and_parts (stays_quiet o p c) _ quiet).1 feed

-- so too after quiet lines at the end, the last of them ended with LF
lines_end : (o : ParseOption) (p : LinePlace) (c : ℕ) (t : Text) → quiet_lines_from o p (c ∷ t) ≢ []
    → is_line_feed (last_or c t) ≡ true → is_line_from o p (c ∷ t) ≡ true
lines_end o p c [] some feed = elim (cases_Bool (is_line p && are_quiet o p (c ∷ []))) [
  | inl is ↦ quiet_ends o p c [] (and_parts (is_line p) _ is).1 feed
  | inr other ↦ absurd (some (cond-false (is_line p && are_quiet o p (c ∷ [])) _ _ other))
]
lines_end o p c (d ∷ t) some feed = elim (cases_Bool (is_line p && are_quiet o p (c ∷ d ∷ t))) [
  | inl is ↦ quiet_ends o p c (d ∷ t) (and_parts (is_line p) _ is).1 feed
  | inr other ↦
      lines_end o (next_place o p c (d ∷ t)) d t
      (λ none. some (cond-false (is_line p && are_quiet o p (c ∷ d ∷ t)) _ _ other ∙ none)) feed
]

-- a pair's lines are ended, as the word for it says
pub lines_ended : (o : ParseOption) (p : PairPiece) → is_multiline o p ≡ true
    → p.stretches.trailing_lines ≢ []
    → (not (is_empty (line_end_after o p) && is_empty (lines_after o p))
    && is_column_one p.stretches.trailing_lines) ≡ true
    → ends_in_line o p.stretches.trailing_lines ≡ true
lines_ended o p on some ended =
    let t = p.stretches.trailing_lines in
    let parts = and_parts (not (is_empty (line_end_after o p) && is_empty (lines_after o p)))
    (is_column_one t) ended in
    let lines : lines_after o p ≡ quiet_lines_at_end o t = lines_on o p on in
    elim (cases_Bool (is_empty (quiet_lines_at_end o t))) [
      | inl empty ↦ line_from lines empty parts.0
      | inr there ↦ at t some parts.1 (some_is (quiet_lines_at_end o t) there)
    ]
  where
    empty_is : (x : Text) → is_empty x ≡ true → x ≡ []
    empty_is [] h = refl
    empty_is (c ∷ x) h = absurd (false≢true h)

    some_is : (x : Text) → is_empty x ≡ false → x ≢ []
    some_is x h is = false≢true (sym h ∙ ap is_empty is)

    -- where no quiet lines are at the end, a line ends there
    line_from : lines_after o p ≡ quiet_lines_at_end o p.stretches.trailing_lines
        → is_empty (quiet_lines_at_end o p.stretches.trailing_lines) ≡ true
        → not (is_empty (line_end_after o p) && is_empty (lines_after o p)) ≡ true
        → ends_in_line o p.stretches.trailing_lines ≡ true
    line_from lines empty some = elim (cases_Bool (ends_in_line o (own_lines o p))) [
      | inl is ↦
          let t = p.stretches.trailing_lines in
          let own : own_lines o p ≡ t =
          own_on o p on ∙ ap (front_of t) (empty_is (quiet_lines_at_end o t) empty) ∙ front_of_none t in
          ap (ends_in_line o) (sym own) ∙ is
      | inr apart ↦
          let none : line_end_after o p ≡ [] =
          no_line_end_on o p on (own_lines o p) refl apart in
          absurd (false≢true
          (sym (ap (λ l. not (is_empty l && is_empty (lines_after o p))) none
          ∙ ap (λ l. not (is_empty l)) lines ∙ ap not empty) ∙ some))
    ]

    at : (t : Text) → t ≢ [] → is_column_one t ≡ true → quiet_lines_at_end o t ≢ [] → ends_in_line o t ≡ true
    at [] some one there = absurd (some refl)
    at (c ∷ t) some one there = lines_end o LinePlace.within c t there one
