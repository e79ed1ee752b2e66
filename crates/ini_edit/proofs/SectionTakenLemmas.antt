-- A section taken out of spans: what stays of its last gap goes to the last gap before it.
use Rattle.std.proofs.Common.{◌≡◌, ◌≢◌, ◌∙◌, ℕ, true, List, [], ◌∷◌, ◌++◌, ap}
use Rattle.std.proofs.Common.{append_assoc, append-nil, inl, inr, refl, subst, sym}
use Rattle.std.specs.List.{list_all}
use Rattle.std.specs.Prelude.{◌⊎◌, ⊤, is_some}
use Rattle.std.proofs.lemmas.Bool.{and_from, both_ways, false≢true, or_left}
use Rattle.ini_text.specs.Grammar.CharacterKinds.{BeginsWith, BeginsWithNo, is_blank, is_comment_mark}
use Rattle.ini_text.specs.Grammar.CharacterKinds.{is_line_end, is_line_feed, line_feed}
use Rattle.ini_text.specs.Grammar.Places.{Stretches, TrailingLines, after_key_source, pair_source}
use Rattle.ini_text.specs.Grammar.Places.{value_source}
use Rattle.ini_text.specs.Grammar.Positions.{last_or}
use Rattle.ini_text.specs.Grammar.Values.{MoreLines, Value}
use Rattle.ini_text.specs.Laws.PieceLaws.{Agree, BeginAlike}
use Rattle.ini_text.specs.declared.option.ParseOption.{ParseOption}
use Rattle.ini_text.proofs.LawLemmas.PieceLemmas.{last_or-append}
use Rattle.ini.specs.Texts.{Text}
use Rattle.ini_edit.specs.Inside.InPlace.{AreInPlace}
use Rattle.ini_edit.specs.Inside.Spans.{AreSpans, IsGap, IsPair, IsSpan, IsValuePair, Span, gap, opening}
use Rattle.ini_edit.specs.Inside.Spans.{pair, span_source}
use Rattle.ini_edit.specs.Places.{Follows}
use Rattle.ini_edit.specs.SourceLines.{indentation_at_end}
use Rattle.ini_edit.specs.Sources.{joined}
use Rattle.ini_edit.proofs.AheadLemmas.{FollowsFront, closes_no_line, header_before, tail_before}
use Rattle.ini_edit.proofs.AheadLemmas.{value_before}
use Rattle.ini_edit.proofs.DeletedLinesLemmas.{IsLineEnd, end_gap}
use Rattle.ini_edit.proofs.DeletedPairLemmas.{keys_begin, pair_key_some, source_lines}
use Rattle.ini_edit.proofs.EndedLemmas.{line_end-some-after}
use Rattle.ini_edit.proofs.GapPartLemmas.{LineStarts, gap_any, gap_parts, some_before}
use Rattle.ini_edit.proofs.InPlaceLemmas.{in_place-before, in_place-join, in_place-like, in_place-split}
use Rattle.ini_edit.proofs.LineCutLemmas.{text_closes}
use Rattle.ini_edit.proofs.OwnBeforeLemmas.{note_stays, own_ahead}
use Rattle.ini_edit.proofs.HeaderLemmas.{EmptyOrHeader}
use Rattle.ini_edit.proofs.PairViewLemmas.{goes_on, lone_ends}
use Rattle.ini_edit.proofs.QuietLemmas.{as_header}
use Rattle.ini_edit.proofs.SectionRestLemmas.{Rest, Unindented, blanks_no_feed}
use Rattle.ini_edit.proofs.GapLemmas.{gap_join, gap_like}
use Rattle.ini_edit.proofs.SpanLemmas.{spans_local}
use Rattle.ini_edit.proofs.TrailingLemmas.{note_lengthened, own_lengthened, trailing_lengthened}
use Rattle.ini_edit.proofs.TrailingLemmas.{value_lengthened}

-- a header or nothing is read alike after all fronts
pub header_alike : {o : ParseOption} {b c x : Text} → EmptyOrHeader x → Agree o b c x
header_alike EmptyOrHeader.empty = record {
  line = λ h. absurd (false≢true (sym h));
  column = λ h. absurd (false≢true (sym h));
  comment = λ on h. absurd (false≢true (sym h));
}
header_alike (EmptyOrHeader.header r) = record {
  line = λ h. absurd (false≢true h);
  column = λ h. absurd (false≢true h);
  comment = λ on h. absurd (false≢true h);
}

-- a text that stands before what begins no line may stand before this one
abbrev pub MayPrecede : ParseOption → Span → Text → Type 0
MayPrecede o (pair p key value) x = Follows o x
MayPrecede o (opening name source) x = ⊤
MayPrecede o (gap source) x = ⊥

pub same_start : (s y x : Text) → s ≢ [] → BeginAlike ((s ++ []) ++ y) ((s ++ []) ++ x)
same_start [] y x some = absurd (some refl)
same_start (c ∷ s) y x some = BeginAlike.character

module _ {o : ParseOption} where
  pub value_pair_before : {c : ℕ} {p : Stretches} {key value x y : Text} → FollowsFront [] y → Follows o x
      → IsValuePair o c p key value y → IsPair o c p key value x
  value_pair_before {p = p} {x = x} f follows h = IsPair.has_value (record {
    separator = h.separator;
    separator_is = h.separator_is;
    key_front = h.key_front;
    some = h.some;
    separates = h.separates;
    gives = value_before follows f h.gives;
    white_before = h.white_before;
    starts = h.starts;
    white_after = h.white_after;
    are_trailing = tail_before follows f h.are_trailing;
    own_lines = own_ahead p.note x f h.are_trailing h.own_lines;
    note = note_stays x f h.are_trailing h.note;
    unnoted = h.unnoted;
    closed = h.closed;
  })

  pub pair_before : {c : ℕ} {p : Stretches} {key value x y : Text} → FollowsFront [] y
      → BeginsWithNo is_comment_mark y → Follows o x → IsPair o c p key value y → IsPair o c p key value x
  pair_before f unmarked follows (IsPair.has_value h) = value_pair_before f follows h
  pair_before {y = y} f unmarked follows (IsPair.is_lone h) =
      closes_no_line y f.some (text_closes o y (lone_ends h) unmarked)

  item_before : {c : ℕ} {s : Span} {x y : Text} → FollowsFront [] y → BeginsWithNo is_comment_mark y
      → MayPrecede o s x → IsSpan o c s y → IsSpan o c s x
  item_before f unmarked may IsSpan.general = IsSpan.general
  item_before {x = x} f unmarked may (IsSpan.header e) =
      IsSpan.header (header_before [] x f.some (inl unmarked) (as_header e))
  item_before f unmarked may (IsSpan.is_pair h) = IsSpan.is_pair (pair_before f unmarked may h)
  item_before f unmarked may (IsSpan.is_gap h) = absurd may

  -- spans before a gap of which a front is kept
  pub spans_before_kept : {c : ℕ} (xs : List Span) (s : Span) (k w R x : Text)
      → (span_source s ≡ [] → xs ≡ []) → FollowsFront [] (w ++ R) → BeginsWithNo is_comment_mark (w ++ R)
      → (k ≡ [] → MayPrecede o s x)
      → AreSpans o c (xs ++ s ∷ []) ((k ++ w) ++ R) → AreSpans o c (xs ++ s ∷ []) (k ++ x)
  spans_before_kept xs s (d ∷ k) w R x first f unmarked may h =
      in_place-before span_source spans_local BeginAlike.character h
  spans_before_kept {c} xs s [] w R x first f unmarked may h =
      let split = in_place-split span_source xs (s ∷ []) h in
      in_place-join span_source xs (s ∷ []) (front (span_source s) refl split.0) (last split.1)
    where
      front : (t : Text) → span_source s ≡ t → AreSpans o c xs ((span_source s ++ []) ++ (w ++ R))
          → AreSpans o c xs ((span_source s ++ []) ++ x)
      front [] is h =
          subst (λ xs. AreSpans o c xs ((span_source s ++ []) ++ x)) (sym (first is)) AreInPlace.none
      front (d ∷ t) is h =
          in_place-before span_source spans_local
          (same_start (span_source s) (w ++ R) x (λ none. let no : d ∷ t ≡ [] = sym is ∙ none in cc)) h

      last : AreSpans o (last_or c (joined span_source xs)) (s ∷ []) (w ++ R)
          → AreSpans o (last_or c (joined span_source xs)) (s ∷ []) x
      last (AreInPlace.more one AreInPlace.none) =
          AreInPlace.more (item_before f unmarked (may refl) one) AreInPlace.none

-- the front after which what stays is put
pub record AreLike (rest : Text) (new : ℕ) : Type 0 where
  pub line : BeginsWith is_blank rest → is_line_end new ≡ true
  pub column : BeginsWith is_comment_mark rest → is_line_feed new ≡ true

-- Spans up to a span s and a gap, of which blanks w at the end indent what follows; the spans of a section,
-- and a gap; and those after that.
module _ (o : ParseOption) (xs : List Span) (s : Span) (k w : Text) (ys : List Span) (z : Text)
    (zs : List Span) where
  abbrev pub fore : List Span
  fore = xs ++ s ∷ []

  abbrev pub fore_end : ℕ
  fore_end = last_or line_feed (joined span_source fore)

  abbrev pub between : Text
  between = joined span_source (ys ++ gap z ∷ zs) ++ []

  abbrev pub section_end : ℕ
  section_end = last_or (last_or fore_end (k ++ w)) (joined span_source ys)

  abbrev pub following : Text
  following = joined span_source zs ++ []

  pub record IsSplit : Type 0 where
    pub before : AreSpans o line_feed fore ((k ++ w) ++ between)
    pub kept : IsGap o fore_end (k ++ w) between
    pub last : IsGap o section_end z following
    pub after : AreSpans o (last_or section_end z) zs []

  pub split : AreSpans o line_feed (fore ++ (gap (k ++ w) ∷ (ys ++ gap z ∷ zs))) [] → IsSplit
  split h =
      let parts = in_place-split span_source fore (gap (k ++ w) ∷ (ys ++ gap z ∷ zs)) h in
      at (subst (AreSpans o line_feed fore)
      (append_assoc (k ++ w) (joined span_source (ys ++ gap z ∷ zs)) []) parts.0) parts.1
    where
      last_of : AreSpans o section_end (gap z ∷ zs) []
          → IsGap o section_end z following × AreSpans o (last_or section_end z) zs []
      last_of (AreInPlace.more (IsSpan.is_gap g) after) = (g, after)

      at : AreSpans o line_feed fore ((k ++ w) ++ between)
          → AreSpans o fore_end (gap (k ++ w) ∷ (ys ++ gap z ∷ zs)) [] → IsSplit
      at before (AreInPlace.more (IsSpan.is_gap g) later) =
          let more = last_of (in_place-split span_source ys (gap z ∷ zs) later).1 in
          record { before = before; kept = g; last = more.0; after = more.1 }

-- How the gap before ends: the blanks that indent what follows begin a line, and none are left.
pub record IsKept (b : ℕ) (k w : Text) : Type 0 where
  pub bare : indentation_at_end b k ≡ []
  pub blank : list_all is_blank w ≡ true
  pub line : (w ≡ []) ⊎ (is_line_end (last_or b k) ≡ true)

pub kept_of : {b : ℕ} {t : Text} (u : Unindented b t) → IsKept b u.front (indentation_at_end b t)
kept_of u = record { bare = u.bare; blank = u.blank; line = u.line }

module _ {o : ParseOption} where
  -- before any other text
  pub kept_any : {b : ℕ} {k w R : Text} (x : Text) → IsKept b k w → R ≢ [] → FollowsFront [] (w ++ R)
      → IsGap o b (k ++ w) R → IsGap o b k x
  kept_any {b} {k} {w} {R} x kept some front g =
      gap_any x front.some kept.bare (at kept.line)
    where
      at : (w ≡ []) ⊎ (is_line_end (last_or b k) ≡ true) → IsGap o b k (w ++ R)
      at (inl empty) =
          subst (λ w. IsGap o b k (w ++ R)) (sym empty)
          (subst (λ t. IsGap o b t R) (ap (λ w. k ++ w) empty ∙ append-nil k) g)
      at (inr end) =
          (gap_parts k w some (LineStarts.before_no_feed end (blanks_no_feed w kept.blank)) g).front

  -- what stays, after another front
  pub rest_moved : {b d : ℕ} {z rest R : Text} (r : Rest o b z rest R)
      → AreLike rest d → IsGap o d rest R
  rest_moved r like = gap_like (record {
    line = λ h. r.line h ∙ sym (like.line h);
    column = λ h. r.column h ∙ sym (like.column h);
    comment = λ on h. or_left _ _ (r.column h) ∙ sym (or_left _ _ (like.column h));
  }) r.is

  -- a gap of which a front is kept, a line end, and what stays of the last gap
  pub gap_taken : (xs : List Span) (s : Span) (k w : Text) (ys : List Span) (z : Text) (zs : List Span)
      (l rest : Text)
      → IsSplit o xs s k w ys z zs → IsKept (fore_end o xs s k w ys z zs) k w
      → Rest o (section_end o xs s k w ys z zs) z rest (following o xs s k w ys z zs)
      → AreLike rest (last_or (last_or (fore_end o xs s k w ys z zs) k) l)
      → IsLineEnd l → between o xs s k w ys z zs ≢ []
      → FollowsFront [] (w ++ between o xs s k w ys z zs)
      → BeginsWithNo is_comment_mark (w ++ between o xs s k w ys z zs) → (span_source s ≡ [] → xs ≡ [])
      → (k ≡ [] → MayPrecede o s ((l ++ rest) ++ following o xs s k w ys z zs))
      → EmptyOrHeader (joined span_source zs)
      → AreSpans o line_feed ((xs ++ s ∷ []) ++ (gap (k ++ (l ++ rest)) ∷ zs)) []
  gap_taken xs s k w ys z zs l rest parts kept stays like end some front unmarked first may header =
      let b = fore_end o xs s k w ys z zs in
      let R = between o xs s k w ys z zs in
      let Z = following o xs s k w ys z zs in
      let new = k ++ (l ++ rest) in
      let text : (new ++ joined span_source zs) ++ [] ≡ k ++ ((l ++ rest) ++ Z) =
      append_assoc new (joined span_source zs) [] ∙ append_assoc k (l ++ rest) Z in
      let is : IsGap o b new Z =
      gap_join (kept_any ((l ++ rest) ++ Z) kept some front parts.kept)
      (gap_join (end_gap end) (rest_moved stays like)) in
      in_place-join span_source (xs ++ s ∷ []) (gap new ∷ zs)
      (subst (AreSpans o line_feed (xs ++ s ∷ [])) (sym text)
      (spans_before_kept xs s k w R ((l ++ rest) ++ Z) first front unmarked may parts.before))
      (AreInPlace.more (IsSpan.is_gap is)
      (in_place-like span_source spans_local (header_alike header) parts.after))

-- keys and separators that are the same begin alike
pub key_starts : (k : Text) (m : ℕ) (s t u v x y : Text)
    → BeginAlike (((k ++ m ∷ s) ++ t) ++ u) (((k ++ m ∷ v) ++ x) ++ y)
key_starts [] m s t u v x y = BeginAlike.character
key_starts (c ∷ k) m s t u v x y = BeginAlike.character

-- one line end that ends with LF
pub data IsFeed : Text → Type 0 where
  lf : IsFeed (line_feed ∷ [])
  cr_lf : IsFeed (0x0D ∷ (line_feed ∷ []))

pub feed_last : {l : Text} (c : ℕ) → IsFeed l → last_or c l ≡ line_feed
feed_last c IsFeed.lf = refl
feed_last c IsFeed.cr_lf = refl

-- with other trailing lines
abbrev pub with_trailing : Text → Stretches → Stretches
with_trailing t p = record p { trailing_lines = t }

longer_feed : {l : Text} (p : Stretches) (c : ℕ) → IsFeed l
    → last_or c (pair_source (with_trailing (p.trailing_lines ++ l) p)) ≡ line_feed
longer_feed {l} p c feed =
    ap (last_or c) (source_lines l p) ∙ last_or-append c (pair_source p) l
    ∙ feed_last (last_or c (pair_source p)) feed

pub longer_value : (p : Stretches) (l : Text)
    → value_source p ++ l ≡ value_source (with_trailing (p.trailing_lines ++ l) p)
longer_value p l =
    append_assoc p.space_before (p.raw_value ++ (p.space_after ++ (p.note ++ p.trailing_lines))) l
    ∙ ap (λ z. p.space_before ++ z)
    (append_assoc p.raw_value (p.space_after ++ (p.note ++ p.trailing_lines)) l
    ∙ ap (λ z. p.raw_value ++ z) (append_assoc p.space_after (p.note ++ p.trailing_lines) l
    ∙ ap (λ z. p.space_after ++ z) (append_assoc p.note p.trailing_lines l)))

pub longer_begins : (t y l x : Text) → t ≢ [] → BeginAlike (t ++ y) ((t ++ l) ++ x)
longer_begins [] y l x some = absurd (some refl)
longer_begins (c ∷ t) y l x some = BeginAlike.character

module _ {o : ParseOption} (on : o.enabled_indented_mutiline_value ≡ true) where
  feed_lines : {l x : Text} → IsFeed l → Follows o x → MoreLines o l x (line_feed ∷ [])
  feed_lines IsFeed.lf follows =
      MoreLines.empty_lf (MoreLines.done (follows.no_blank on) (follows.no_line_end on))
  feed_lines IsFeed.cr_lf follows =
      MoreLines.empty_cr_lf (MoreLines.done (follows.no_blank on) (follows.no_line_end on))

  trailing_some : {t y : Text} → y ≢ [] → TrailingLines o t y → t ≢ []
  trailing_some some (TrailingLines.line off closes) =
      absurd (both_ways o.enabled_indented_mutiline_value off on)
  trailing_some some (TrailingLines.end _) = absurd (some refl)
  trailing_some some (TrailingLines.lines {e} {t} {r} _ end more all) =
      line_end-some-after t (t ++ r) end

  -- a multiline value that something follows, with one more line end
  pub pair_longer : {c : ℕ} {p : Stretches} {key value y x l : Text} → IsFeed l → Follows o x → y ≢ []
      → IsValuePair o c p key value y
      → IsPair o c (with_trailing (p.trailing_lines ++ l) p) key value x
  pair_longer {p = p} {value = value} {x = x} {l} feed follows some h = IsPair.has_value (record {
    separator = h.separator;
    separator_is = h.separator_is;
    key_front = h.key_front;
    some = h.some;
    separates = h.separates;
    gives = subst (λ s. Value o s x value) (longer_value p l)
        (value_lengthened on (feed_lines feed follows) refl some h.gives);
    white_before = h.white_before;
    starts = h.starts;
    white_after = h.white_after;
    are_trailing = trailing_lengthened on (feed_lines feed follows) refl some h.are_trailing;
    own_lines = own_lengthened on (feed_lines feed follows) refl p.note some h.are_trailing h.own_lines;
    note = note_lengthened on (feed_lines feed follows) refl some h.are_trailing h.note;
    unnoted = h.unnoted;
    closed = h.closed;
  })

  -- where a multiline value stands there, and comments stay after another line end
  pub lines_taken : (xs : List Span) (p : Stretches) (key value w : Text) (ys : List Span) (z : Text)
      (zs : List Span) (rest : Text) {l : Text} → is_some p.separator ≡ true → IsFeed l
      → IsSplit o xs (pair p key value) [] w ys z zs
      → Rest o (section_end o xs (pair p key value) [] w ys z zs) z rest
      (following o xs (pair p key value) [] w ys z zs)
      → Follows o (rest ++ following o xs (pair p key value) [] w ys z zs)
      → between o xs (pair p key value) [] w ys z zs ≢ []
      → EmptyOrHeader (joined span_source zs)
      → AreSpans o line_feed
      (xs ++ (pair (with_trailing (p.trailing_lines ++ l) p) key value ∷ gap rest ∷ zs)) []
  lines_taken xs p key value w ys z zs rest {l} there feed parts stays follows some header =
      let longer = with_trailing (p.trailing_lines ++ l) p in
      let front = in_place-split span_source xs (pair p key value ∷ []) parts.before in
      in_place-join span_source xs (pair longer key value ∷ gap rest ∷ zs)
      (in_place-before span_source spans_local
      (keys_begin p.key (after_key_source p) (after_key_source longer) []
      (rest ++ joined span_source zs) (w ++ between o xs (pair p key value) [] w ys z zs) []
      (pair_key_some front.1)) front.0)
      (at front.1)
    where
      value_of : {c : ℕ} {y : Text} → IsPair o c p key value y → IsValuePair o c p key value y
      value_of h = goes_on h (and_from o.enabled_indented_mutiline_value (is_some p.separator) on there)

      at : AreSpans o (last_or line_feed (joined span_source xs)) (pair p key value ∷ [])
          (w ++ between o xs (pair p key value) [] w ys z zs)
          → AreSpans o (last_or line_feed (joined span_source xs))
          (pair (with_trailing (p.trailing_lines ++ l) p) key value ∷ gap rest ∷ zs) []
      at (AreInPlace.more (IsSpan.is_pair h) AreInPlace.none) =
          let c = last_or line_feed (joined span_source xs) in
          let longer = with_trailing (p.trailing_lines ++ l) p in
          let more = some_before w (between o xs (pair p key value) [] w ys z zs) some in
          let like : AreLike rest (last_or c (pair_source longer)) = record {
            line = λ h. ap is_line_end (longer_feed p c feed);
            column = λ h. ap is_line_feed (longer_feed p c feed);
          } in
          AreInPlace.more
          (IsSpan.is_pair (subst (IsPair o c longer key value) (sym (append_assoc rest
          (joined span_source zs) [])) (pair_longer feed follows more (value_of h))))
          (AreInPlace.more (IsSpan.is_gap (rest_moved stays like))
          (in_place-like span_source spans_local (header_alike header) parts.after))
