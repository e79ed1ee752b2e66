-- Comment lines put directly above a pair, in place of those there: what stands before them, and what
-- follows, is read as before.
use Rattle.std.proofs.Common.{◌≡◌, ◌≢◌, ◌∙◌, ◌==◌, ℕ, true, false, not, ◌||◌, List, [], ◌∷◌, ◌++◌, ap}
use Rattle.std.proofs.Common.{append_assoc, append-nil, eqb-true, inl, inr, refl, subst, sym}
use Rattle.std.proofs.lemmas.Bool.{both_ways, false_from_ne_true, false≢true, not-true, or_left, or_parts}
use Rattle.std.specs.Char.{is_whitespace}
use Rattle.ini_text.specs.Grammar.CharacterKinds.{BeginsWith, BeginsWithNo, is_blank, is_comment_mark}
use Rattle.ini_text.specs.Grammar.CharacterKinds.{is_line_end, is_line_feed, line_feed, open_bracket}
use Rattle.ini_text.specs.Grammar.Keys.{KeyFront, begins_key}
use Rattle.ini_text.specs.Grammar.Places.{Stretches, after_key_source, pair_source}
use Rattle.ini_text.specs.Grammar.Positions.{is_column_one, last_or, starts_line}
use Rattle.ini_text.specs.Grammar.CharacterKinds.{begins}
use Rattle.ini_text.specs.Laws.PieceLaws.{Agree, BeginAlike}
use Rattle.ini_text.specs.declared.option.ParseOption.{ParseOption}
use Rattle.ini_text.proofs.GrammarLemmas.KindLemmas.{blank_is_white}
use Rattle.ini_text.proofs.LawLemmas.PieceLemmas.{last_or-append}
use Rattle.ini.specs.Texts.{Text}
use Rattle.ini_edit.specs.Inside.InPlace.{AreInPlace}
use Rattle.ini_edit.specs.Inside.Spans.{AreSpans, IsGap, IsPair, IsSpan, Span, gap, pair, span_source}
use Rattle.ini_edit.specs.Places.{Follows}
use Rattle.ini_edit.specs.Sources.{joined}
use Rattle.ini_edit.specs.SourceLines.{are_comments}
use Rattle.ini_edit.proofs.AheadLemmas.{FollowsFront, key_follows}
use Rattle.ini_edit.proofs.CommentLemmas.{no_key}
use Rattle.ini_edit.proofs.CommentRowLemmas.{comments_begin}
use Rattle.ini_edit.proofs.GapPartLemmas.{LineStarts, Parts, gap_nothing, gap_parts}
use Rattle.ini_edit.proofs.InPlaceLemmas.{in_place-before, in_place-put, in_place-split}
use Rattle.ini_edit.proofs.GapLemmas.{gap_join}
use Rattle.ini_edit.proofs.PairViewLemmas.{key_front_of}
use Rattle.ini_edit.proofs.QuietLemmas.{line_end_no_mark}
use Rattle.ini_edit.proofs.SpanFrontLemmas.{gap_free}
use Rattle.ini_edit.proofs.SpanLemmas.{spans_local}

feed_ends_line : (c : ℕ) → is_line_feed c ≡ true → is_line_end c ≡ true
feed_ends_line c h = or_left (is_line_feed c) _ h

-- a key that isn't indented begins with no blank
no_blank_key : (x : Text) → BeginsWith begins_key x → BeginsWith is_blank x → ⊥
no_blank_key [] key blank = false≢true (sym key)
no_blank_key (c ∷ x) key blank =
    let parts = or_parts (is_whitespace c || is_comment_mark c) (c == open_bracket) (not-true _ key) in
    both_ways (is_whitespace c) (or_parts (is_whitespace c) (is_comment_mark c) parts.0).0
    (blank_is_white c blank)

-- a key is read after LF as where it stood
pub key_agrees : {o : ParseOption} {d e : ℕ} {k r key : Text} → KeyFront o (d ∷ []) k r key
    → is_line_feed e ≡ true → Agree o (d ∷ []) (e ∷ []) (k ++ r)
key_agrees {d = d} {e} front one = record {
  line = λ blank. at front blank ∙ sym (feed_ends_line e one);
  column = λ mark. no_key front mark;
  comment = λ _ mark. no_key front mark;
}
  where
    at : {o : ParseOption} {k r key : Text} → KeyFront o (d ∷ []) k r key → BeginsWith is_blank (k ++ r)
        → starts_line (d ∷ []) ≡ true
    at (KeyFront.unindented {s = s} {r = r} begins str) blank = absurd (no_blank_key (s ++ r) begins blank)
    at (KeyFront.indented i begins str) blank = i.at_line_start

pub mark_no_end : (m : ℕ) → is_comment_mark m ≡ true → is_line_end m ≡ false
mark_no_end m mark = false_from_ne_true (is_line_end m)
    (λ end. both_ways (is_comment_mark m) (line_end_no_mark m end) mark)

mark_no_bracket : (m : ℕ) → is_comment_mark m ≡ true → (m == open_bracket) ≡ false
mark_no_bracket m mark = false_from_ne_true (m == open_bracket)
    (λ is. false≢true (subst (λ z. is_comment_mark z ≡ true) (eqb-true m open_bracket is) mark))

mark_follows : {c : Text} (x : Text) → is_column_one c ≡ true → BeginsWith is_comment_mark x
    → FollowsFront c x
mark_follows [] one mark = absurd (false≢true (sym mark))
mark_follows (m ∷ x) one mark = record {
  some = ap not (mark_no_end m mark);
  bracket = inl (mark_no_bracket m mark);
  note = inr one;
}

-- a key that isn't indented, and what follows it; and what begins with no line end
other_begins : (x : Text) → (BeginsWith is_blank x → ⊥) → BeginsWithNo is_blank x
other_begins [] apart = tt
other_begins (c ∷ x) apart = false_from_ne_true (is_blank c) apart

blank_begins : (w s : Text) → BeginsWith is_blank w → begins is_blank (w ++ s) ≡ true
blank_begins [] s blank = absurd (false≢true (sym blank))
blank_begins (c ∷ w) s blank = blank

no_blank_begins : {o : ParseOption} {b k r key : Text} → KeyFront o b k r key → begins is_blank k ≡ false
    → BeginsWithNo is_blank (k ++ r)
no_blank_begins (KeyFront.unindented {s = s} {r = r} key str) none =
    other_begins (s ++ r) (no_blank_key (s ++ r) key)
no_blank_begins (KeyFront.indented {w = w} {s = s} i key str) none =
    absurd (both_ways (begins is_blank (w ++ s)) none (blank_begins w s i.some))

pub no_end_begins : (x : Text) → BeginsWith (λ c. not (is_line_end c)) x → BeginsWithNo is_line_end x
no_end_begins [] h = tt
no_end_begins (c ∷ x) h = not-true (is_line_end c) h

-- a pair, and what follows it
pub pair_then : (q : Stretches) (r : Text) → pair_source q ++ r ≡ q.key ++ (after_key_source q ++ r)
pair_then q r = append_assoc q.key (after_key_source q) r

module _ {o : ParseOption} {c : ℕ} {q : Stretches} {key value r : Text} (is : IsPair o c q key value r) where
  pub pair_follows : FollowsFront (c ∷ []) (q.key ++ (after_key_source q ++ r))
  pair_follows = key_follows (after_key_source q ++ r) (key_front_of is)

  -- no comment mark begins it
  pub pair_unmarked : BeginsWithNo is_comment_mark (q.key ++ (after_key_source q ++ r))
  pair_unmarked = at (q.key ++ (after_key_source q ++ r)) (λ mark. no_key (key_front_of is) mark)
    where
      at : (x : Text) → (BeginsWith is_comment_mark x → ⊥) → BeginsWithNo is_comment_mark x
      at [] apart = tt
      at (d ∷ x) apart = false_from_ne_true (is_comment_mark d) apart

  pub pair_some : pair_source q ++ r ≢ []
  pair_some none =
      false≢true (sym (subst (BeginsWith (λ c. not (is_line_end c))) (sym (pair_then q r) ∙ none)
      pair_follows.some))

-- a pair that nothing but this text follows is read after LF as where it stood
pub pair_agrees : {o : ParseOption} {d e : ℕ} {q : Stretches} {key value : Text} (x : Text)
    → IsPair o d q key value (x ++ []) → is_line_feed e ≡ true
    → Agree o (d ∷ []) (e ∷ []) (pair_source q ++ x)
pair_agrees {o} {d} {e} {q} x is one =
    subst (Agree o (d ∷ []) (e ∷ [])) (sym (pair_then q x))
    (subst (λ t. Agree o (d ∷ []) (e ∷ []) (q.key ++ (after_key_source q ++ t))) (append-nil x)
    (key_agrees (key_front_of is) one))

module _ {o : ParseOption} where
  -- a gap exchanged
  pub gap_exchanged : (xs zs : List Span) (old new : Text)
      → AreSpans o line_feed (xs ++ (gap old ∷ zs)) []
      → AreSpans o line_feed xs (new ++ (joined span_source zs ++ []))
      → IsGap o (last_or line_feed (joined span_source xs)) new (joined span_source zs ++ [])
      → Agree o (last_or (last_or line_feed (joined span_source xs)) old ∷ [])
      (last_or (last_or line_feed (joined span_source xs)) new ∷ []) (joined span_source zs)
      → AreSpans o line_feed (xs ++ (gap new ∷ zs)) []
  gap_exchanged xs zs old new h front made agrees =
      let last = last_or line_feed (joined span_source xs) in
      let following = joined span_source zs in
      in_place-put span_source spans_local xs (gap old ∷ []) (gap new ∷ []) zs h
      (subst (λ t. AreSpans o line_feed xs (t ++ (following ++ []))) (sym (append-nil new)) front)
      (AreInPlace.more (IsSpan.is_gap made) AreInPlace.none)
      (subst (λ t. Agree o (last_or last t ∷ []) (last_or last (new ++ []) ∷ []) following)
      (sym (append-nil old))
      (subst (λ t. Agree o (last_or last old ∷ []) (last_or last t ∷ []) following) (sym (append-nil new))
      agrees))

  -- a gap up to the comment lines at its end, and these
  pub comments_parted : {c : ℕ} {r : Text} (kept comments : Text) → r ≢ []
      → (comments ≢ [] → is_line_feed (last_or c kept) ≡ true) → IsGap o c (kept ++ comments) r
      → Parts o c kept comments r
  comments_parted {c} {r} kept [] some column h =
      record { front = subst (λ t. IsGap o c t r) (append-nil kept) h; rest = gap_nothing }
  comments_parted kept (m ∷ comments) some column h =
      gap_parts kept (m ∷ comments) some
      (LineStarts.by_feed (column (λ is. let no : m ∷ comments ≡ [] = is in cc))) h

-- The last part of the gap before a pair, which is comment lines, exchanged for another gap that ends with
-- LF.
module _ (o : ParseOption) (xs zs : List Span) (q : Stretches) (key value kept comments new : Text) where
  abbrev last : ℕ
  last = last_or line_feed (joined span_source xs)

  abbrev rest : List Span
  rest = pair q key value ∷ zs

  abbrev following : Text
  following = joined span_source rest ++ []

  following_is : following ≡ q.key ++ (after_key_source q ++ (joined span_source zs ++ []))
  following_is =
      append_assoc (pair_source q) (joined span_source zs) [] ∙ pair_then q (joined span_source zs ++ [])

  -- what stands before the old lines sees no line end
  pub sees : (comments : Text) → are_comments false comments ≡ true
      → (comments ≢ [] → is_line_feed (last_or last kept) ≡ true)
      → IsPair o (last_or last (kept ++ comments)) q key value (joined span_source zs ++ [])
      → FollowsFront (last_or last kept ∷ []) (comments ++ following)
  sees [] are column is =
      subst (FollowsFront (last_or last kept ∷ [])) (sym following_is)
      (subst (λ t. FollowsFront (last_or last t ∷ []) (q.key ++ (after_key_source q
      ++ (joined span_source zs ++ [])))) (append-nil kept) (pair_follows is))
  sees (m ∷ comments) are column is =
      let some : m ∷ comments ≢ [] = λ h. cc in
      mark_follows (m ∷ (comments ++ following)) (column some)
      (comments_begin (m ∷ comments) following some are)

  -- the pair may follow a value where it isn't indented
  pub bare : {c : ℕ} → IsPair o c q key value (joined span_source zs ++ []) → begins is_blank q.key ≡ false
      → Follows o following
  bare {c} is no_blank =
      let f = subst (FollowsFront (c ∷ [])) (sym following_is) (pair_follows is) in
      record {
        no_blank = λ _. subst (BeginsWithNo is_blank) (sym following_is)
            (no_blank_begins (key_front_of is) no_blank);
        no_line_end = λ _. no_end_begins following f.some;
      }

  -- what may stand before the new lines, in the old ones' place
  abbrev pub StandsAhead : Type 0
  StandsAhead = kept ≡ [] → (begins is_blank q.key ≡ false → Follows o following)
      → FollowsFront (last ∷ []) (comments ++ following)
      → AreSpans o line_feed xs (comments ++ following) → AreSpans o line_feed xs (new ++ following)

  pub lines_put : AreSpans o line_feed (xs ++ (gap (kept ++ comments) ∷ rest)) []
      → are_comments false comments ≡ true → (comments ≢ [] → is_line_feed (last_or last kept) ≡ true)
      → StandsAhead
      → IsGap o (last_or last kept) new following
      → is_line_feed (last_or (last_or last kept) new) ≡ true
      → AreSpans o line_feed (xs ++ (gap (kept ++ new) ∷ rest)) []
  lines_put h are column ahead made one =
      let split = in_place-split span_source xs (gap (kept ++ comments) ∷ rest) h in at split.0 split.1
    where
      front : (kept : Text) → FollowsFront (last_or last kept ∷ []) (comments ++ following)
          → (kept ≡ [] → FollowsFront (last ∷ []) (comments ++ following)
          → AreSpans o line_feed xs (comments ++ following) → AreSpans o line_feed xs (new ++ following))
          → AreSpans o line_feed xs (((kept ++ comments) ++ joined span_source rest) ++ [])
          → AreSpans o line_feed xs ((kept ++ new) ++ following)
      front [] f ahead before =
          ahead refl f
          (subst (AreSpans o line_feed xs) (append_assoc comments (joined span_source rest) []) before)
      front (c ∷ kept) f ahead before =
          in_place-before span_source spans_local BeginAlike.character before

      at : AreSpans o line_feed xs (((kept ++ comments) ++ joined span_source rest) ++ [])
          → AreSpans o last (gap (kept ++ comments) ∷ rest) []
          → AreSpans o line_feed (xs ++ (gap (kept ++ new) ∷ rest)) []
      at before (AreInPlace.more (IsSpan.is_gap g) (AreInPlace.more (IsSpan.is_pair is) later)) =
          let f = sees comments are column is in
          let some : following ≢ [] = λ none. pair_some is
          (sym (append_assoc (pair_source q) (joined span_source zs) []) ∙ none) in
          let parts = comments_parted kept comments some column g in
          let agrees : Agree o (last_or last (kept ++ comments) ∷ []) (last_or last (kept ++ new) ∷ [])
          (joined span_source rest) =
          pair_agrees (joined span_source zs) is (ap is_line_feed (last_or-append last kept new) ∙ one) in
          gap_exchanged xs rest (kept ++ comments) (kept ++ new) h
          (front kept f (λ none. ahead none (bare is)) before)
          (gap_join (gap_free (new ++ following) f parts.front) made) agrees
