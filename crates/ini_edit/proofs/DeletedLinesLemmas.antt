-- The lines after a multiline value whose pair is taken out: the quiet ones at their end stay, and where
-- what follows would notice it, the line end before these.
use Rattle.std.proofs.Common.{◌≡◌, ◌≢◌, ◌∙◌, ◌==◌, ◌&&◌, ℕ, Bool, true, false, not, [], ◌∷◌}
use Rattle.std.proofs.Common.{◌++◌, ap, append-nil, eqb-true, if◌then◌else◌, inl, inr, refl, subst, sym}
use Rattle.std.proofs.lemmas.Bool.{and_from, and_parts, both_ways, cond-true, false≢true}
use Rattle.std.proofs.lemmas.Bool.{not_from_true, not-false, or_cases, or_parts}
use Rattle.ini_text.specs.Grammar.CharacterKinds.{BeginsWith, BeginsWithNo, carriage_return, is_comment_mark}
use Rattle.ini_text.specs.Grammar.CharacterKinds.{is_line_end, is_line_feed, line_feed, space}
use Rattle.ini_text.specs.Grammar.Elements.{Element, Gap}
use Rattle.ini_text.specs.Grammar.Places.{TrailingLines}
use Rattle.ini_text.specs.Grammar.Positions.{last_or}
use Rattle.ini_text.specs.Grammar.Values.{MoreLines}
use Rattle.ini_text.specs.Grammar.CharacterKinds.{begins}
use Rattle.ini_text.specs.Parsing.Fronts.{front_of}
use Rattle.ini_text.specs.declared.option.ParseOption.{ParseOption}
use Rattle.ini_text.proofs.LawLemmas.PieceLemmas.{last_or-append}
use Rattle.ini.specs.Texts.{Text, is_text}
use Rattle.ini_edit.specs.Inside.Spans.{IsGap}
use Rattle.ini_edit.specs.Places.{Follows}
use Rattle.ini_edit.specs.SourceEditsDelete.{goes_after, left_after}
use Rattle.ini_edit.specs.SourceLines.{ends_alike, LinePlace, after_line_end, after_line_feed, are_quiet}
use Rattle.ini_edit.specs.SourceLines.{ends_in_line, is_blank_or_line_end, is_empty, is_one_line_end}
use Rattle.ini_edit.specs.SourceLines.{line_end_at_end, next_place, quiet_lines_at_end}
use Rattle.ini_edit.proofs.AheadLemmas.{more_follows}
use Rattle.ini_edit.proofs.BlankLineLemmas.{AreBlank, line_last, lines_end, no_lines, own_ends, quiet_all}
use Rattle.ini_edit.proofs.BlankLineLemmas.{trailing_blank, trailing_ends}
use Rattle.ini_edit.proofs.BlankValueLemmas.{are_blank as blank_lines_are}
use Rattle.ini_edit.proofs.GapLemmas.{EndsThere, gap_join, gap_more, no_gap}
use Rattle.ini_edit.proofs.MarkLemmas.{mark_apart}
use Rattle.ini_edit.proofs.QuietGapLemmas.{line_end_more, quiet_gap}
use Rattle.ini_edit.proofs.SourceLineLemmas.{quiet_lines_at_end-rest}

-- one line end, or none
pub data IsLineEnd : Text → Type 0 where
  none : IsLineEnd []
  lf : IsLineEnd (line_feed ∷ [])
  cr_lf : IsLineEnd (carriage_return ∷ line_feed ∷ [])
  cr : IsLineEnd (carriage_return ∷ [])

one_feed : (cs : Text) → is_empty cs ≡ true → IsLineEnd (line_feed ∷ cs)
one_feed [] h = IsLineEnd.lf
one_feed (c ∷ cs) h = absurd (false≢true h)

one_return : (cs : Text) → is_empty (after_line_feed cs) ≡ true → IsLineEnd (carriage_return ∷ cs)
one_return [] h = IsLineEnd.cr
one_return (c ∷ cs) h = at (is_line_feed c) refl h
  where
    at : (b : Bool) → is_line_feed c ≡ b → is_empty (if b then cs else c ∷ cs) ≡ true
        → IsLineEnd (carriage_return ∷ c ∷ cs)
    at true is h = two cs h
      where
        two : (cs : Text) → is_empty cs ≡ true → IsLineEnd (carriage_return ∷ c ∷ cs)
        two [] h =
            subst (λ d. IsLineEnd (carriage_return ∷ d ∷ [])) (sym (eqb-true c line_feed is)) IsLineEnd.cr_lf
        two (d ∷ cs) h = absurd (false≢true h)
    at false is h = absurd (false≢true h)

one_end : (c : ℕ) (cs : Text) → is_one_line_end (c ∷ cs) ≡ true → IsLineEnd (c ∷ cs)
one_end c cs h =
    let parts = and_parts (is_line_end c) (is_empty (after_line_end (c ∷ cs))) h in
    elim (or_cases (is_line_feed c) (c == carriage_return) parts.0) [
      | inl q ↦
          let same = eqb-true c line_feed q in
          subst (λ d. IsLineEnd (d ∷ cs)) (sym same)
          (one_feed cs (subst (λ d. is_empty (after_line_end (d ∷ cs)) ≡ true) same parts.1))
      | inr q ↦
          let same = eqb-true c carriage_return q in
          subst (λ d. IsLineEnd (d ∷ cs)) (sym same)
          (one_return cs (subst (λ d. is_empty (after_line_end (d ∷ cs)) ≡ true) same parts.1))
    ]

pub end_is : (t : Text) → IsLineEnd (line_end_at_end t)
end_is [] = IsLineEnd.none
end_is (c ∷ cs) = at (is_one_line_end (c ∷ cs)) refl (end_is cs)
  where
    at : (b : Bool) → is_one_line_end (c ∷ cs) ≡ b → IsLineEnd (line_end_at_end cs)
        → IsLineEnd (if b then c ∷ cs else line_end_at_end cs)
    at true is more = one_end c cs is
    at false is more = more

-- where a line end ends a text, its last character is that of the line end at its end
pub end_last : (c d : ℕ) (t : Text) → t ≢ [] → is_line_end (last_or d t) ≡ true
    → last_or c (line_end_at_end t) ≡ last_or d t
end_last c d [] some h = absurd (some refl)
end_last c d (e ∷ []) some h = ap (last_or c) (cond-true (is_one_line_end (e ∷ [])) (e ∷ []) [] (one e h))
  where
    one : (e : ℕ) → is_line_end e ≡ true → is_one_line_end (e ∷ []) ≡ true
    one e h = elim (or_cases (is_line_feed e) (e == carriage_return) h) [
      | inl q ↦ rw (eqb-true e line_feed q) refl
      | inr q ↦ rw (eqb-true e carriage_return q) refl
    ]
end_last c d (e ∷ f ∷ t) some h =
    at (is_one_line_end (e ∷ f ∷ t)) (end_last c e (f ∷ t) (λ is_none. cc) h)
  where
    at : (b : Bool) → last_or c (line_end_at_end (f ∷ t)) ≡ last_or f t
        → last_or c (if b then e ∷ f ∷ t else line_end_at_end (f ∷ t)) ≡ last_or f t
    at true more = refl
    at false more = more

-- of the lines t after a value its own, and the line end after them; and what stays of t, before the gap b,
-- after a text of this last character
abbrev pub own_of : (o : ParseOption) → Text → Text
own_of o t = front_of t (quiet_lines_at_end o t)

abbrev pub end_of : (o : ParseOption) → (own : Text) → Text
end_of o own = if not (ends_in_line o own) then [] else line_end_at_end own

abbrev pub staying : (o : ParseOption) (last : ℕ) → (t b : Text) → Text
staying o last t b =
    left_after true last (end_of o (own_of o t)) (quiet_lines_at_end o t) b ++ quiet_lines_at_end o t

pub end_gap : {o : ParseOption} {c : ℕ} {e x : Text} → IsLineEnd e → IsGap o c e x
end_gap IsLineEnd.none = no_gap
end_gap IsLineEnd.lf = line_end_more line_feed refl no_gap
end_gap IsLineEnd.cr_lf = line_end_more carriage_return refl (line_end_more line_feed refl no_gap)
end_gap IsLineEnd.cr = line_end_more carriage_return refl no_gap

-- a blank and a CR, where a line starts
blank_return_gap : {o : ParseOption} {c : ℕ} {t x : Text} → is_line_end c ≡ true
    → IsGap o carriage_return t x → IsGap o c (space ∷ carriage_return ∷ t) x
blank_return_gap starts g =
    gap_more (Element.gap (Gap.blank_line {w = space ∷ []} carriage_return
    (record { at_line_start = starts; some = refl; blank = refl }) refl)) g

pub return_is : {e : Text} → IsLineEnd e → is_text e (carriage_return ∷ []) ≡ true → e ≡ carriage_return ∷ []
return_is IsLineEnd.none h = absurd (false≢true h)
return_is IsLineEnd.lf h = absurd (false≢true h)
return_is IsLineEnd.cr_lf h = absurd (false≢true h)
return_is IsLineEnd.cr h = refl

pub alike_is : (c d : ℕ) → ends_alike c d ≡ true → is_line_feed d ≡ is_line_feed c
alike_is c d h = at (is_line_feed c) (is_line_feed d) h
  where
    at : (x y : Bool) → (if x then y else not y) ≡ true → y ≡ x
    at true true h = refl
    at true false h = h
    at false true h = sym h
    at false false h = refl

begins_some : (test : ℕ → Bool) (x : Text) → BeginsWith test x → x ≢ []
begins_some test x h is = false≢true (sym (subst (BeginsWith test) is h))

pub begins_here : (b r : Text) → BeginsWithNo is_comment_mark r → BeginsWith is_comment_mark (b ++ r)
    → begins is_comment_mark b ≡ true
begins_here [] [] unmarked h = absurd (false≢true (sym h))
begins_here [] (c ∷ r) unmarked h = absurd (both_ways (is_comment_mark c) unmarked h)
begins_here (c ∷ b) r unmarked h = h

quiet_no_mark : (o : ParseOption) (r b : Text) → are_quiet o LinePlace.line r ≡ true
    → begins is_comment_mark (r ++ b) ≡ true
    → (r ≡ []) × (begins is_comment_mark b ≡ true)
quiet_no_mark o [] b all h = (refl, h)
quiet_no_mark o (c ∷ r) b all h =
    absurd (both_ways (is_blank_or_line_end c) (mark_apart c h)
    (and_parts (is_blank_or_line_end c) (are_quiet o (next_place o LinePlace.line c r) r) all).0)

-- after a line end another one is lines of a value, but for a CR alone, before which a blank goes
pub end_blank : {o : ParseOption} {x : Text} (last : ℕ) → o.enabled_indented_mutiline_value ≡ true
    → Follows o x → is_line_end last ≡ true → {e : Text} → IsLineEnd e → (blank : Bool)
    → (is_line_end last && is_text e (carriage_return ∷ [])) ≡ blank
    → AreBlank o (if blank then space ∷ e else e) x
end_blank {o} {x} last on follows starts end true is =
    let parts = and_parts (is_line_end last) _ is in
    subst (λ t. AreBlank o (space ∷ t) x) (sym (return_is end parts.1))
    (blank_lines_are (space ∷ carriage_return ∷ []) x refl refl
    (inr (refl, follows.no_blank on, follows.no_line_end on)))
end_blank last on follows starts IsLineEnd.none false is = no_lines (follows.no_blank on)
    (follows.no_line_end on)
end_blank last on follows starts IsLineEnd.lf false is = record {
  value = line_feed ∷ [];
  are = MoreLines.empty_lf (MoreLines.done (follows.no_blank on) (follows.no_line_end on));
  all = refl;
}
end_blank last on follows starts IsLineEnd.cr_lf false is = record {
  value = line_feed ∷ [];
  are = MoreLines.empty_cr_lf (MoreLines.done (follows.no_blank on) (follows.no_line_end on));
  all = refl;
}
end_blank last on follows starts IsLineEnd.cr false is =
    absurd (both_ways (is_line_end last && true) is (and_from (is_line_end last) true starts refl))

-- the lines t after a multiline value, before the gap b and r
module _ {o : ParseOption} (on : o.enabled_indented_mutiline_value ≡ true) {t : Text} (b r : Text)
    (trailing : TrailingLines o t (b ++ r)) (last : ℕ) where
  own_whole : own_of o t ++ quiet_lines_at_end o t ≡ t
  own_whole = quiet_lines_at_end-rest o t

  are_blank : AreBlank o (quiet_lines_at_end o t) (b ++ r)
  are_blank = trailing_blank on trailing

  quiet_ends : EndsThere (b ++ r) (last_or line_feed (quiet_lines_at_end o t))
  quiet_ends = at (b ++ r) refl
    where
      at : (x : Text) → b ++ r ≡ x → EndsThere (b ++ r) (last_or line_feed (quiet_lines_at_end o t))
      at [] is = EndsThere.text is
      at (c ∷ x) is =
          let some : b ++ r ≢ [] = λ is_none. (let other : c ∷ x ≡ [] = sym is ∙ is_none in cc) in
          EndsThere.line (line_last o LinePlace.line line_feed (quiet_lines_at_end o t) (λ _. refl)
          (lines_end some are_blank.are are_blank.all))

  -- where a line starts the quiet lines are a gap
  pub quiet_after : {c : ℕ} → is_line_end c ≡ true → IsGap o c (quiet_lines_at_end o t) (b ++ r)
  quiet_after starts = quiet_gap (quiet_lines_at_end o t) starts (quiet_all o LinePlace.within t) quiet_ends

  -- where no line end ends the lines before them there are none
  pub none_unended : ends_in_line o (own_of o t) ≡ false → quiet_lines_at_end o t ≡ []
  none_unended off = at (quiet_lines_at_end o t) refl
    where
      at : (x : Text) → quiet_lines_at_end o t ≡ x → quiet_lines_at_end o t ≡ []
      at [] is = is
      at (c ∷ x) is =
          absurd (both_ways (ends_in_line o (own_of o t)) off
          (own_ends o LinePlace.within t (own_of o t)
          (λ h. let other : c ∷ x ≡ [] = sym is ∙ h in cc) own_whole))

  own_some : ends_in_line o (own_of o t) ≡ true → own_of o t ≢ []
  own_some ends is_none = false≢true (subst (λ z. ends_in_line o z ≡ true) is_none ends)

  own_end : (c : ℕ) → ends_in_line o (own_of o t) ≡ true
      → is_line_end (last_or c (line_end_at_end (own_of o t))) ≡ true
  own_end c ends =
      let is_end = line_last o LinePlace.within line_feed (own_of o t) (λ inner. absurd (false≢true inner))
      ends in
      subst (λ z. is_line_end z ≡ true)
      (sym (end_last c line_feed (own_of o t) (own_some ends) is_end)) is_end

  -- what stays is a gap
  pub staying_gap : IsGap o last (staying o last t b) (b ++ r)
  staying_gap = at (ends_in_line o (own_of o t)) refl
    where
      q : Text
      q = quiet_lines_at_end o t

      Left : (e : Text) → Type 0
      Left e = IsGap o last (left_after true last e q b ++ q) (b ++ r)

      by : (e : Text) (goes blank : Bool) → goes_after last e q b ≡ goes
          → (is_line_end last && is_text e (carriage_return ∷ [])) ≡ blank → IsLineEnd e
          → ((c : ℕ) → is_line_end (last_or c e) ≡ true)
          → IsGap o last ((if goes then [] else (if blank then space ∷ e else e)) ++ q) (b ++ r)
      by e true blank goes is end ended = quiet_after (and_parts (is_line_end last) _ goes).0
      by e false true goes is end ended =
          let parts = and_parts (is_line_end last) (is_text e (carriage_return ∷ [])) is in
          subst (λ x. IsGap o last ((space ∷ x) ++ q) (b ++ r)) (sym (return_is end parts.1))
          (blank_return_gap parts.0 (quiet_after refl))
      by e false false goes is end ended = gap_join (end_gap end) (quiet_after (ended last))

      none : (x : Text) → (goes blank : Bool) → (is_line_end last && false) ≡ blank
          → x ≡ [] → IsGap o last ((if goes then [] else (if blank then space ∷ [] else [])) ++ x) (b ++ r)
      none x true blank is empty = subst (λ z. IsGap o last z (b ++ r)) (sym empty) no_gap
      none x false true is empty = absurd (false≢true (and_parts (is_line_end last) false is).1)
      none x false false is empty = subst (λ z. IsGap o last z (b ++ r)) (sym empty) no_gap

      at : (ended : Bool) → ends_in_line o (own_of o t) ≡ ended
          → Left (if not ended then [] else line_end_at_end (own_of o t))
      at true is =
          by (line_end_at_end (own_of o t)) (goes_after last (line_end_at_end (own_of o t)) q b)
          (is_line_end last && is_text (line_end_at_end (own_of o t)) (carriage_return ∷ [])) refl refl
          (end_is (own_of o t)) (λ c. own_end c is)
      at false is = none q (goes_after last [] q b) (is_line_end last && false) refl (none_unended is)

  -- before a comment what stays ends a line as the lines did
  pub staying_last : (d : ℕ) → BeginsWithNo is_comment_mark r → BeginsWith is_comment_mark (b ++ r)
      → (is_line_end (last_or d t) ≡ true)
      × (is_line_feed (last_or last (staying o last t b)) ≡ is_line_feed (last_or d t))
      × (is_line_end (last_or last (staying o last t b)) ≡ true)
  staying_last d unmarked mark = let stays = at q refl in (is_end, stays.0, stays.1)
    where
      q : Text
      q = quiet_lines_at_end o t

      ends : ends_in_line o t ≡ true
      ends = trailing_ends (begins_some is_comment_mark (b ++ r) mark) on trailing

      is_end : is_line_end (last_or d t) ≡ true
      is_end = line_last o LinePlace.within d t (λ inner. absurd (false≢true inner)) ends

      Ends : Text → Type 0
      Ends s = (is_line_feed (last_or last s) ≡ is_line_feed (last_or d t))
          × (is_line_end (last_or last s) ≡ true)

      same : (s : Text) → last_or last s ≡ last_or d t → Ends s
      same s is = (ap is_line_feed is, ap is_line_end is ∙ is_end)

      by : (goes blank : Bool) → goes_after last (line_end_at_end t) [] b ≡ goes
          → Ends ((if goes then [] else (if blank then space ∷ line_end_at_end t else line_end_at_end t)))
      by true blank goes =
          let parts = and_parts (is_line_end last) _ goes in
          let some : t ≢ [] = λ is_none. false≢true (subst (λ z. ends_in_line o z ≡ true) is_none ends) in
          let alike : ends_alike last (last_or last (line_end_at_end t)) ≡ true =
          elim (or_cases (ends_alike last (last_or last (line_end_at_end t)))
          (not (begins is_comment_mark b)) parts.1) [
            | inl is ↦ is
            | inr other ↦
                absurd (both_ways (not (begins is_comment_mark b))
                (not_from_true (begins is_comment_mark b) (begins_here b r unmarked mark)) other)
          ] in (
            sym (alike_is last (last_or last (line_end_at_end t)) alike)
                ∙ ap is_line_feed (end_last last d t some is_end),
            parts.0,
          )
      by false blank goes =
          let some : t ≢ [] = λ is_none. false≢true (subst (λ z. ends_in_line o z ≡ true) is_none ends) in
          kept blank some
        where
          kept : (blank : Bool) → t ≢ []
              → Ends (if blank then space ∷ line_end_at_end t else line_end_at_end t)
          kept true some = same (space ∷ line_end_at_end t) (end_last space d t some is_end)
          kept false some = same (line_end_at_end t) (end_last last d t some is_end)

      at : (x : Text) → q ≡ x → Ends (staying o last t b)
      at (c ∷ x) is =
          let left = left_after true last (end_of o (own_of o t)) q b in
          same (left ++ q) (ap (λ z. last_or last (left ++ z)) is
          ∙ last_or-append last left (c ∷ x)
          ∙ sym (last_or-append d (own_of o t) (c ∷ x)) ∙ ap (λ z. last_or d (own_of o t ++ z)) (sym is)
          ∙ ap (last_or d) own_whole)
      at [] is =
          let whole : own_of o t ≡ t =
          sym (append-nil (own_of o t)) ∙ ap (λ x. own_of o t ++ x) (sym is) ∙ own_whole in
          let left : Text → Text → Text = λ own x. left_after true last (end_of o own) x b ++ x in
          let so : staying o last t b ≡ left_after true last (line_end_at_end t) [] b =
          ap (λ own. left own q) whole ∙ ap (left t) is ∙ append-nil (left_after true last (end_of o t) [] b)
          ∙ ap (λ z. left_after true last (if not z then [] else line_end_at_end t) [] b) ends in
          subst Ends (sym so)
          (by (goes_after last (line_end_at_end t) [] b)
          (is_line_end last && is_text (line_end_at_end t) (carriage_return ∷ [])) refl)

  -- after a line end they are lines of a value
  pub staying_lines : is_line_end last ≡ true → AreBlank o (staying o last t b) (b ++ r)
  staying_lines starts = at (goes_after last (end_of o (own_of o t)) (quiet_lines_at_end o t) b) refl
    where
      e : Text
      e = end_of o (own_of o t)

      end_kind : (z : Bool) → IsLineEnd (if not z then [] else line_end_at_end (own_of o t))
      end_kind true = end_is (own_of o t)
      end_kind false = IsLineEnd.none

      follows : Follows o (b ++ r)
      follows = more_follows are_blank.are

      second : (x y : Bool) → (x && y) ≡ false → x ≡ true → y ≡ false
      second true y h q = h
      second false y h q = absurd (false≢true q)

      at : (goes : Bool) → goes_after last e (quiet_lines_at_end o t) b ≡ goes
          → AreBlank o ((if goes then []
          else (if is_line_end last && is_text e (carriage_return ∷ []) then space ∷ e else e))
          ++ quiet_lines_at_end o t) (b ++ r)
      at true is = are_blank
      at false is =
          let marked = not-false (begins is_comment_mark (quiet_lines_at_end o t ++ b))
          (or_parts (ends_alike last (last_or last e)) _ (second (is_line_end last) _ is starts)).1 in
          let parts = quiet_no_mark o (quiet_lines_at_end o t) b (quiet_all o LinePlace.within t) marked in
          let kept = if is_line_end last && is_text e (carriage_return ∷ []) then space ∷ e else e in
          subst (λ x. AreBlank o (kept ++ x) (b ++ r)) (sym parts.0)
          (subst (λ x. AreBlank o x (b ++ r)) (sym (append-nil kept))
          (end_blank last on follows starts (end_kind (ends_in_line o (own_of o t)))
          (is_line_end last && is_text e (carriage_return ∷ [])) refl))
