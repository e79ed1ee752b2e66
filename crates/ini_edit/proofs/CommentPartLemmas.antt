-- Comments put above a pair, as the code makes them: the last parts of what stands before the pair.
use Rattle.std.proofs.Common.{◌≡◌, ◌∙◌, ◌<◌, ◌≤◌, ◌&&◌, ◌||◌, ℕ, Bool, true, false, not, List, [], ◌∷◌}
use Rattle.std.proofs.Common.{◌++◌, None, Some, ap, append-nil, arith, if◌then◌else◌, length, refl}
use Rattle.std.proofs.Common.{suc, sym, take, ◌-◌, append_assoc, drop}
use Rattle.std.proofs.lemmas.Bool.{and_right, cond-false, cond-true, false≢true, or_from, or_right}
use Rattle.std.specs.List.{remove}
use Rattle.std.specs.Str.{chars}
use Rattle.ini_text.specs.Grammar.CharacterKinds.{carriage_return, is_line_feed, line_feed, semicolon, space}
use Rattle.ini_text.specs.Grammar.Positions.{last_or}
use Rattle.ini_text.specs.Parsing.Fronts.{IsRest, front_of}
use Rattle.ini_text.specs.Parsing.Items.{string_text}
use Rattle.ini_text.specs.declared.option.ParseOption.{ParseOption}
use Rattle.ini.specs.Texts.{Text, is_text}
use Rattle.ini_edit.specs.Inside.SourceEnds.{IsPlaceAt, end_put, end_put_at, put_over_kept, trailing_of}
use Rattle.ini_edit.specs.Inside.SourceEnds.{takes_lines, with_new_end, word_of}
use Rattle.ini_edit.specs.SourceEdits.{with_pairs}
use Rattle.ini_edit.specs.SourceEditsAdd.{would_go_on}
use Rattle.ini_edit.specs.SourceEditsComments.{comment_put, comments_over, lines_of_comment, marked}
use Rattle.ini_edit.specs.SourceEditsComments.{pair_commented_out, pair_lines}
use Rattle.ini_edit.specs.SourceEditsDelete.{gap_after, line_end_after, lines_after, own_lines, rest_put}
use Rattle.ini_edit.specs.SourceEditsDelete.{with_rest}
use Rattle.ini_edit.specs.SourceLines.{ends_in_line, is_empty, line_end_at_end}
use Rattle.ini_edit.specs.SourcePlaces.{Place, exchanged, gap_of, is_nil, last_before_gap, last_before_pair}
use Rattle.ini_edit.specs.SourcePlaces.{last_word, with_end, with_last_word}
use Rattle.ini_edit.specs.Sources.{PairPiece, SectionPiece, is_multiline}
use Rattle.ini_edit.specs.declared.source.pair.ends.NewEnd.{NewEnd}
use Rattle.ini_edit.proofs.CommentSectionLemmas.{Ended, ended, put_over-end}
use Rattle.ini_edit.proofs.SourcePlaceLemmas.{end_put-end, place_drop_put, place_remove, place_take}
use Rattle.ini_edit.proofs.SourcePlaceLemmas.{place_take_put, same_word}
use Rattle.ini_edit.proofs.SourceEndLemmas.{takes_last}
use Rattle.ini_edit.proofs.SourceLineLemmas.{line_end_at_end-rest, none_rest}
use Rattle.ini_edit.proofs.SourcePlaceLemmas.{trailing_of-end}

-- what the definition is, once the parts that it names are known
module _ (o : ParseOption) (e comment : Text) (front : ℕ) (s : SectionPiece) (p : Place PairPiece) where
  abbrev kept_there : Text
  kept_there = front_of (gap_of s.after p.before) (comments_over front s p)

  abbrev goes_on : Text → Bool
  goes_on kept = is_empty comment && (is_empty kept && (not (is_nil p.before) && would_go_on o p.here))

  abbrev glue : Text → Text
  glue kept =
      if is_empty comment || is_line_feed (last_or (last_before_gap front s p.before) kept) then [] else e

  abbrev put : (kept lines : Text) → SectionPiece
  put kept lines = put_over_kept o kept lines (lines_of_comment e comment) s p.before (p.here ∷ p.after)

  pub comment_is : {kept lines : Text} → kept ≡ kept_there → lines ≡ glue kept → goes_on kept ≡ false
      → comment_put o e comment front s p ≡ Some (put kept lines)
  comment_is {kept} {lines} is_kept is_lines apart =
      let first : comment_put o e comment front s p ≡ Some (put kept_there (glue kept_there)) =
      cond-false (goes_on kept_there) None (Some (put kept_there (glue kept_there)))
      (ap goes_on (sym is_kept) ∙ apart) in
      first ∙ ap (λ k. Some (put k (glue k))) (sym is_kept) ∙ ap (λ l. Some (put kept l)) (sym is_lines)

  pub comment_none : {kept : Text} → kept ≡ kept_there → goes_on kept ≡ true
      → comment_put o e comment front s p ≡ None
  comment_none {kept} is_kept on =
      cond-true (goes_on kept_there) None (Some (put kept_there (glue kept_there)))
      (ap goes_on (sym is_kept) ∙ on)

-- where something stands before an index
pub taken_some : {A : Type 0} (xs : List A) (i : ℕ) → i ≤ length xs → 0 < i → is_nil (take i xs) ≡ false
taken_some [] i within some = absurd (omega arith)
taken_some (x ∷ xs) i within some = let one : i ≡ suc (i - 1) = omega arith in rw one refl

-- the new last parts: a line end goes to the lines of a multiline value before the gap
pub put_is : (o : ParseOption) (kept lines rest : Text) (s : SectionPiece) (before : List PairPiece)
    (new : NewEnd)
    (taken : Bool) → taken ≡ takes_lines o kept before
    → new.last_word ≡ None
    → string_text new.trailing_lines ≡ trailing_of before ++ (if taken then lines else [])
    → string_text new.after ≡ kept ++ ((if taken then [] else lines) ++ rest)
    → (after : List PairPiece) → end_put new s before after ≡ put_over_kept o kept lines rest s before after
put_is o kept lines rest s before new taken is none trailing last after =
    at (ended before) taken is trailing last
  where
    at : {before : List PairPiece} → Ended before → (taken : Bool)
        → taken ≡ takes_lines o kept before
        → string_text new.trailing_lines ≡ trailing_of before ++ (if taken then lines else [])
        → string_text new.after ≡ kept ++ ((if taken then [] else lines) ++ rest)
        → end_put new s before after ≡ put_over_kept o kept lines rest s before after
    at Ended.nothing false is trailing last =
        ap (λ t. record { name = s.name; header = s.header; after = t; pairs = after }) last
    at Ended.nothing true is trailing last =
        absurd (false≢true (sym (is ∙ and_right (is_empty kept) false refl)))
    at (Ended.one_last ps p) taken is trailing last =
        end_put-end s ps p after new
        ∙ ap (λ q. with_pairs s (ps ++ q ∷ after)) (one taken
        (is ∙ takes_last o kept ps p)
        (trailing ∙ ap (λ t. t ++ (if taken then lines else [])) (trailing_of-end ps p)) last)
        ∙ sym (put_over-end o lines rest kept s after ps p)
      where
        one : (taken : Bool) → taken ≡ (is_multiline o p && is_empty kept)
            → string_text new.trailing_lines ≡ p.stretches.trailing_lines ++ (if taken then lines else [])
            → string_text new.after ≡ kept ++ ((if taken then [] else lines) ++ rest)
            → with_new_end new p ≡ with_rest o lines rest (record p { after = kept })
        one taken is trailing last =
            ap (λ r. with_end (string_text new.trailing_lines) (string_text new.after)
            (with_last_word (word_of (last_word p) r) p)) none
            ∙ ap (with_end (string_text new.trailing_lines) (string_text new.after)) (same_word p)
            ∙ ap (λ t. with_end t (string_text new.after) p) trailing
            ∙ ap (λ t. with_end (p.stretches.trailing_lines ++ (if taken then lines else [])) t p) last
            ∙ by taken
            ∙ ap (λ b. if b then with_end (p.stretches.trailing_lines ++ lines) (kept ++ rest) p
            else with_end p.stretches.trailing_lines (kept ++ (lines ++ rest)) p) is
          where
            by : (taken : Bool)
                → with_end (p.stretches.trailing_lines ++ (if taken then lines else []))
                (kept ++ ((if taken then [] else lines) ++ rest)) p
                ≡ (if taken then with_end (p.stretches.trailing_lines ++ lines) (kept ++ rest) p
                else with_end p.stretches.trailing_lines (kept ++ (lines ++ rest)) p)
            by true = refl
            by false = ap (λ t. with_end t (kept ++ (lines ++ rest)) p)
                (append-nil p.stretches.trailing_lines)

-- the line end that the last comment lacks
pub none_lacking : (e comment : Text) → is_line_feed (last_or line_feed comment) ≡ true
    → comment ++ [] ≡ lines_of_comment e comment
none_lacking e [] one = refl
none_lacking e (c ∷ cs) one =
    ap (λ t. (c ∷ cs) ++ t) (sym (cond-true (is_line_feed (last_or line_feed (c ∷ cs))) [] e one))

pub one_lacking : (e comment : Text) → is_line_feed (last_or line_feed comment) ≡ false
    → comment ++ e ≡ lines_of_comment e comment
one_lacking e [] one = absurd (false≢true (sym one))
one_lacking e (c ∷ cs) one =
    ap (λ t. (c ∷ cs) ++ t) (sym (cond-false (is_line_feed (last_or line_feed (c ∷ cs))) [] e one))

-- one character more after a mark
pub marked_more : (so_far : Text) {whole : Text} (c : ℕ) (rest : Text) → so_far ++ marked (c ∷ rest) ≡ whole
    → is_line_feed c ≡ false → (so_far ++ c ∷ []) ++ marked rest ≡ whole
marked_more so_far c rest is inner =
    append_assoc so_far (c ∷ []) (marked rest)
    ∙ ap (λ t. so_far ++ t) (sym (cond-false (is_line_feed c) _ _ inner)) ∙ is

pub marked_line : (so_far : Text) {whole : Text} (c : ℕ) (rest : Text) → so_far ++ marked (c ∷ rest) ≡ whole
    → is_line_feed c ≡ true → ((so_far ++ c ∷ []) ++ semicolon ∷ space ∷ []) ++ marked rest ≡ whole
marked_line so_far c rest is feed =
    append_assoc (so_far ++ c ∷ []) (semicolon ∷ space ∷ []) (marked rest)
    ∙ append_assoc so_far (c ∷ []) (semicolon ∷ space ∷ marked rest)
    ∙ ap (λ t. so_far ++ t) (sym (cond-true (is_line_feed c) _ _ feed)) ∙ is

-- new last parts before a place whose pair is out
end_put_bare : (e : NewEnd) (s : SectionPiece) (ps before after : List PairPiece)
    → end_put e (with_pairs s ps) before after ≡ end_put e s before after
end_put_bare e s ps [] after = refl
end_put_bare e s ps (x ∷ xs) after = refl

pub end_put_out : (e : NewEnd) (s : SectionPiece) {p : Place PairPiece} {i : ℕ} (at : IsPlaceAt s.pairs p i)
    (left : List PairPiece) → left ≡ remove s.pairs i
    → end_put_at e i (with_pairs s left) ≡ end_put e s (take i s.pairs) p.after
end_put_out e s {p} {i} at left is =
    let bare = with_pairs s left in
    ap (λ ps. end_put e bare (take i ps) (drop i ps)) (is ∙ place_remove at)
    ∙ ap (λ ps. end_put e bare ps (drop i (exchanged p []))) (place_take_put at [])
    ∙ ap (end_put e bare p.before) (place_drop_put at [])
    ∙ end_put_bare e s left p.before p.after
    ∙ ap (λ ps. end_put e s ps p.after) (sym (place_take at))

-- a line end is what its lines end with
pub line_end_rest : (o : ParseOption) (p : PairPiece) → IsRest (own_lines o p) (line_end_after o p)
line_end_rest o p = by (is_multiline o p && not (ends_in_line o (own_lines o p)))
  where
    by : (b : Bool) → IsRest (own_lines o p) (if b then [] else line_end_at_end (own_lines o p))
    by true = none_rest (own_lines o p)
    by false = line_end_at_end-rest (own_lines o p)

-- where no comment may stand, and where one may
module _ (o : ParseOption) (front : ℕ) (s : SectionPiece) (p : Place PairPiece) where
  abbrev not_first : Bool
  not_first = not (is_line_feed (last_before_pair front s p))

  abbrev is_return : Bool
  is_return = is_text (line_end_after o p.here) (carriage_return ∷ [])

  abbrev pub pair_out : SectionPiece
  pair_out =
      rest_put o [] (semicolon ∷ (space ∷ (marked (pair_lines o p.here) ++ (line_end_after o p.here
      ++ (lines_after o p.here ++ gap_after o p.here))))) s p.before p.after

  pub not_out : is_text (line_end_after o p.here) (carriage_return ∷ []) ≡ true
      → pair_commented_out o front s p ≡ None
  not_out return = cond-true (not_first || is_return) None (Some pair_out)
      (or_right not_first is_return return)

  pub out_is : is_line_feed (last_before_pair front s p) ≡ true
      → is_text (line_end_after o p.here) (carriage_return ∷ []) ≡ false
      → pair_commented_out o front s p ≡ Some pair_out
  out_is one apart = cond-false (not_first || is_return) None (Some pair_out)
      (or_from not_first is_return (ap not one) apart)

-- the code's texts
pub chars-mark : chars (59 ∷ (32 ∷ [])) ≡ semicolon ∷ (space ∷ [])
unfolding chars
chars-mark = refl

pub chars-return : chars (13 ∷ []) ≡ carriage_return ∷ []
unfolding chars
chars-return = refl

pub chars-blank_return : chars (32 ∷ (13 ∷ [])) ≡ space ∷ (carriage_return ∷ [])
unfolding chars
chars-blank_return = refl
