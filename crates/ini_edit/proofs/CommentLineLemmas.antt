-- Comment lines in the places where they are put: after a gap, and after a multiline value that takes a line
-- end first.
use Rattle.std.proofs.Common.{◌≡◌, ◌≢◌, ◌∙◌, ℕ, Bool, true, false, List, [], ◌∷◌, ◌++◌, ap, append_assoc}
use Rattle.std.proofs.Common.{Option, Some, append-nil, is_some, if◌then◌else◌, inl, refl, subst, sym}
use Rattle.std.specs.List.{list_all}
use Rattle.ini_text.specs.Grammar.CharacterKinds.{BeginsWithNo, carriage_return, is_blank}
use Rattle.ini_text.specs.Grammar.CharacterKinds.{is_comment_mark, is_line_end, is_line_feed, line_feed}
use Rattle.ini_text.specs.Grammar.Elements.{Element}
use Rattle.ini_text.specs.Grammar.Lines.{LineTail}
use Rattle.ini_text.specs.Grammar.Pieces.{ArePieces}
use Rattle.ini_text.specs.Grammar.Places.{OwnLines, Stretches, after_key_source, pair_source}
use Rattle.ini_text.specs.Grammar.Places.{separator_text, value_source}
use Rattle.ini_text.specs.Grammar.Positions.{last_or}
use Rattle.ini_text.specs.Grammar.Values.{MoreLines, Value}
use Rattle.ini_text.specs.Laws.PieceLaws.{Agree, BeginAlike}
use Rattle.ini_text.specs.declared.option.ParseOption.{ParseOption}
use Rattle.ini_text.proofs.GrammarLemmas.KindLemmas.{comment_mark-apart}
use Rattle.ini_text.proofs.LawLemmas.PieceLemmas.{last_or-append}
use Rattle.ini_text.proofs.PlainLemmas.PlainLineLemmas.{line_end_gap}
use Rattle.ini.specs.Texts.{Text}
use Rattle.ini_edit.specs.Inside.InPlace.{AreInPlace}
use Rattle.ini_edit.specs.Inside.Spans.{AreSpans, IsGap, IsPair, IsSpan, IsValuePair, Span, gap, pair}
use Rattle.ini_edit.specs.Inside.Spans.{span_source}
use Rattle.ini_edit.specs.Places.{Follows}
use Rattle.ini_edit.specs.SourceLines.{are_comments}
use Rattle.ini_edit.specs.Sources.{joined}
use Rattle.ini_edit.proofs.AheadLemmas.{FollowsFront, lone_no_line}
use Rattle.ini_edit.proofs.CommentPutLemmas.{mark_no_end, pair_agrees, pair_follows, pair_some, pair_then}
use Rattle.ini_edit.proofs.CommentPutLemmas.{pair_unmarked}
use Rattle.ini_edit.proofs.CommentRowLemmas.{IsNewLine, comments_begin, comments_column, comments_gap}
use Rattle.ini_edit.proofs.InPlaceLemmas.{in_place-exchanged, in_place-split}
use Rattle.ini_edit.proofs.GapLemmas.{gap_join}
use Rattle.ini_edit.proofs.OwnBeforeLemmas.{note_stays, own_ahead}
use Rattle.ini_edit.proofs.SpanLemmas.{spans_local}
use Rattle.ini_edit.proofs.TrailingLemmas.{trailing_lengthened, value_lengthened}

new_line_gap : {o : ParseOption} {c : ℕ} {e r : Text} → IsNewLine e → IsGap o c e r
new_line_gap IsNewLine.lf = record {
  pieces = record { source = line_feed ∷ []; gives = [] } ∷ [];
  whole = refl;
  nothing = refl;
  are = ArePieces.more (Element.gap (line_end_gap line_feed refl)) ArePieces.none;
}
new_line_gap IsNewLine.cr_lf = record {
  pieces = record { source = carriage_return ∷ []; gives = [] } ∷ record
      { source = line_feed ∷ []; gives = [] } ∷ [];
  whole = refl;
  nothing = refl;
  are = ArePieces.more (Element.gap (line_end_gap carriage_return refl))
      (ArePieces.more (Element.gap (line_end_gap line_feed refl)) ArePieces.none);
}

pub new_line_column : {e : Text} (c : ℕ) → IsNewLine e → is_line_feed (last_or c e) ≡ true
new_line_column c IsNewLine.lf = refl
new_line_column c IsNewLine.cr_lf = refl

-- comment lines, after a line end where none starts there
pub record AreLines (o : ParseOption) (c : ℕ) (lines r : Text) : Type 0 where
  pub is : IsGap o c lines r
  pub column : is_line_feed (last_or c lines) ≡ true

pub lines_made : {o : ParseOption} {c : ℕ} {e r : Text} (lines : Text) → IsNewLine e
    → are_comments false lines ≡ true → AreLines o c ((if is_line_feed c then [] else e) ++ lines) r
lines_made {o} {c} {e} {r} lines end are = at (is_line_feed c) refl
  where
    at : (b : Bool) → is_line_feed c ≡ b → AreLines o c ((if b then [] else e) ++ lines) r
    at true one = record { is = comments_gap lines one are; column = comments_column c lines one are }
    at false inner =
        let ended = new_line_column c end in
        record {
          is = gap_join (new_line_gap end) (comments_gap lines ended are);
          column = ap is_line_feed (last_or-append c e lines) ∙ comments_column (last_or c e) lines ended are;
        }

-- what begins a comment may follow a value
pub mark_may_follow : {o : ParseOption} (m : ℕ) (x : Text) → is_comment_mark m ≡ true → Follows o (m ∷ x)
mark_may_follow m x mark = record {
  no_blank = λ _. (comment_mark-apart m mark).0;
  no_line_end = λ _. mark_no_end m mark;
}

pub lines_may_follow : {o : ParseOption} (lines x : Text) → lines ≢ [] → are_comments false lines ≡ true
    → Follows o (lines ++ x)
lines_may_follow [] x some are = absurd (some refl)
lines_may_follow (m ∷ lines) x some are =
    mark_may_follow m (lines ++ x) (comments_begin (m ∷ lines) x some are)

-- a pair with more lines after its value
abbrev pub with_lines : Text → Stretches → Stretches
with_lines e p = record p { trailing_lines = p.trailing_lines ++ e }

longer_value : (e : Text) (p : Stretches) → value_source p ++ e ≡ value_source (with_lines e p)
longer_value e p = simp append_assoc

pub longer_pair : (e : Text) (p : Stretches) → pair_source p ++ e ≡ pair_source (with_lines e p)
longer_pair e p =
    pair_then p e ∙ ap (λ t. p.key ++ t) (append_assoc (separator_text p.separator) (value_source p) e
    ∙ ap (λ t. separator_text p.separator ++ t) (longer_value e p))

keys_alike : (k : Text) (m : ℕ) (v w a b r : Text) → BeginAlike (((k ++ m ∷ v) ++ a) ++ r)
    (((k ++ m ∷ w) ++ b) ++ r)
keys_alike [] m v w a b r = BeginAlike.character
keys_alike (c ∷ k) m v w a b r = BeginAlike.character

sources_alike : (k : Text) {separator : Option ℕ} (v w a b r : Text) {m : ℕ} → separator ≡ Some m
    → BeginAlike (((k ++ (separator_text separator ++ v)) ++ a) ++ r)
    (((k ++ (separator_text separator ++ w)) ++ b) ++ r)
sources_alike k v w a b r {m} is =
    subst (λ s. BeginAlike (((k ++ (separator_text s ++ v)) ++ a) ++ r)
    (((k ++ (separator_text s ++ w)) ++ b) ++ r)) (sym is) (keys_alike k m v w a b r)

record IsEmptyLine (o : ParseOption) (e x : Text) : Type 0 where
  value : Text
  are : MoreLines o e x value
  all : list_all is_line_feed value ≡ true

empty_line : {o : ParseOption} {e : Text} (x : Text) → IsNewLine e → BeginsWithNo is_blank x
    → BeginsWithNo is_line_end x → IsEmptyLine o e x
empty_line x IsNewLine.lf blank ends = record {
  value = line_feed ∷ [];
  are = MoreLines.empty_lf (MoreLines.done blank ends);
  all = refl;
}
empty_line x IsNewLine.cr_lf blank ends = record {
  value = line_feed ∷ [];
  are = MoreLines.empty_cr_lf (MoreLines.done blank ends);
  all = refl;
}

-- A multiline value directly before another pair takes a line end, and comment lines stand between the two.
module _ (o : ParseOption) (on : o.enabled_indented_mutiline_value ≡ true) (ys zs : List Span)
    (p q : Stretches) (key value other second : Text) (m : ℕ) (lines : Text) {e : Text} (end : IsNewLine e)
    (are : are_comments false (m ∷ lines) ≡ true) where
  abbrev rest : List Span
  rest = pair q other second ∷ zs

  abbrev following : Text
  following = joined span_source rest ++ []

  abbrev last : ℕ
  last = last_or line_feed (joined span_source ys)

  longer : {c : Text} → FollowsFront c following → following ≢ []
      → IsValuePair o last p key value (joined span_source rest ++ [])
      → IsValuePair o last (with_lines e p) key value (((m ∷ lines) ++ []) ++ following)
  longer f some is =
      let mark = comments_begin (m ∷ lines) [] (λ h. let no : m ∷ lines ≡ [] = h in cc) are in
      let line = empty_line (m ∷ ((lines ++ []) ++ following)) end (comment_mark-apart m mark).0
      (mark_no_end m mark) in
      let seam = sym (append_assoc p.trailing_lines e (m ∷ ((lines ++ []) ++ following))) in
      record {
        separator = is.separator;
        separator_is = is.separator_is;
        key_front = is.key_front;
        some = is.some;
        separates = is.separates;
        gives = subst (λ t. Value o t (m ∷ ((lines ++ []) ++ following)) value) (longer_value e p)
            (value_lengthened on line.are line.all some is.gives);
        white_before = is.white_before;
        starts = is.starts;
        white_after = is.white_after;
        are_trailing = trailing_lengthened on line.are line.all some is.are_trailing;
        own_lines = subst (λ t. OwnLines o (p.raw_value ++ p.space_after) (p.note ++ t)) seam
            (own_ahead p.note (e ++ (m ∷ ((lines ++ []) ++ following))) f is.are_trailing is.own_lines);
        note = subst (LineTail p.note) seam
            (note_stays (e ++ (m ∷ ((lines ++ []) ++ following))) f is.are_trailing is.note);
        closed = is.closed;
        unnoted = is.unnoted;
      }

  text : following ≡ q.key ++ (after_key_source q ++ (joined span_source zs ++ []))
  text = append_assoc (pair_source q) (joined span_source zs) []
      ∙ pair_then q (joined span_source zs ++ [])

  -- before the other pair stands a pair with a separator
  pub value_there : AreSpans o line_feed (ys ++ (pair p key value ∷ (gap [] ∷ rest))) []
      → is_some p.separator ≡ true
  value_there h = at (in_place-split span_source ys (pair p key value ∷ (gap [] ∷ rest)) h).1
    where
      at : AreSpans o last (pair p key value ∷ (gap [] ∷ rest)) [] → is_some p.separator ≡ true
      at (AreInPlace.more (IsSpan.is_pair (IsPair.has_value is)) later) = ap is_some is.separator_is
      at (AreInPlace.more (IsSpan.is_pair (IsPair.is_lone is))
          (AreInPlace.more g (AreInPlace.more (IsSpan.is_pair next) later))) =
          let f = subst (FollowsFront (last_or last (pair_source p) ∷ [])) (sym text) (pair_follows next) in
          lone_no_line (last ∷ []) following f.some
          (inl (subst (BeginsWithNo is_comment_mark) (sym text) (pair_unmarked next))) is.key_front is.lone.next

  pub line_taken : AreSpans o line_feed (ys ++ (pair p key value ∷ (gap [] ∷ rest))) []
      → AreSpans o line_feed (ys ++ (pair (with_lines e p) key value ∷ (gap (m ∷ lines) ∷ rest))) []
  line_taken h = at (in_place-split span_source ys (pair p key value ∷ (gap [] ∷ rest)) h).1
    where
      at : AreSpans o last (pair p key value ∷ (gap [] ∷ rest)) []
          → AreSpans o line_feed (ys ++ (pair (with_lines e p) key value ∷ (gap (m ∷ lines) ∷ rest))) []
      at (AreInPlace.more (IsSpan.is_pair (IsPair.is_lone is))
          (AreInPlace.more g (AreInPlace.more (IsSpan.is_pair next) later))) =
          let f = subst (FollowsFront (last_or last (pair_source p) ∷ [])) (sym text) (pair_follows next) in
          lone_no_line (last ∷ []) following f.some
          (inl (subst (BeginsWithNo is_comment_mark) (sym text) (pair_unmarked next))) is.key_front is.lone.next
      at (AreInPlace.more (IsSpan.is_pair (IsPair.has_value is))
          (AreInPlace.more g (AreInPlace.more (IsSpan.is_pair next) later))) =
          let new = with_lines e p in
          let column : is_line_feed (last_or last (pair_source new)) ≡ true =
          ap is_line_feed (ap (last_or last) (sym (longer_pair e p)) ∙ last_or-append last (pair_source p) e)
          ∙ new_line_column (last_or last (pair_source p)) end in
          let ends : is_line_feed (last_or last (pair_source new ++ ((m ∷ lines) ++ []))) ≡ true =
          ap is_line_feed (last_or-append last (pair_source new) ((m ∷ lines) ++ [])
          ∙ ap (last_or (last_or last (pair_source new))) (append-nil (m ∷ lines)))
          ∙ comments_column (last_or last (pair_source new)) (m ∷ lines) column are in
          let some : following ≢ [] = λ none. pair_some next
          (sym (append_assoc (pair_source q) (joined span_source zs) []) ∙ none) in
          let f = subst (FollowsFront (last_or last (pair_source p) ∷ [])) (sym text) (pair_follows next) in
          in_place-exchanged span_source spans_local ys (pair p key value ∷ (gap [] ∷ []))
          (pair new key value ∷ (gap (m ∷ lines) ∷ [])) rest h
          (AreInPlace.more (IsSpan.is_pair (IsPair.has_value (longer f some is)))
          (AreInPlace.more (IsSpan.is_gap (comments_gap (m ∷ lines) column are)) AreInPlace.none))
          (sources_alike p.key (value_source p) (value_source new) [] ((m ∷ lines) ++ []) following
          is.separator_is)
          (subst (λ t. Agree o (last_or last t ∷ [])
          (last_or last (pair_source new ++ ((m ∷ lines) ++ [])) ∷ [])
          (joined span_source rest)) (sym (append-nil (pair_source p)))
          (pair_agrees (joined span_source zs) next ends))
