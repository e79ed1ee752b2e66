-- A pair put directly after a key alone in a text in pieces where values may be multiline: an empty comment
-- keeps what would go on with the new value apart from it.
use Rattle.std.proofs.Common.{◌≡◌, ◌==◌, ◌∙◌, ◌&&◌, ℕ, Bool, true, false, not, List, [], ◌∷◌, ◌++◌, ap}
use Rattle.std.proofs.Common.{append_assoc, append-nil, if◌then◌else◌, inl, inr, refl, subst, sym}
use Rattle.std.proofs.lemmas.Bool.{and_right, both_ways, cases_Bool, cond-false, cond-true}
use Rattle.std.proofs.lemmas.Bool.{false_from_ne_true, false≢true, or_left}
use Rattle.ini_text.specs.Grammar.CharacterKinds.{BeginsWith, BeginsWithNo, carriage_return, is_blank}
use Rattle.ini_text.specs.Grammar.CharacterKinds.{is_comment_mark, is_line_end, is_line_feed, line_feed}
use Rattle.ini_text.specs.Grammar.CharacterKinds.{semicolon}
use Rattle.ini_text.specs.Grammar.Places.{Stretches, TrailingLines, pair_source, separator_text}
use Rattle.ini_text.specs.Grammar.Positions.{is_column_one, last_or, starts_line}
use Rattle.ini_text.specs.Grammar.Strings.{Closes, plain_ends}
use Rattle.ini_text.specs.Grammar.Values.{LineEnd, MoreLines}
use Rattle.ini_text.specs.Inside.LineReader.{past_note}
use Rattle.ini_text.specs.Laws.PieceLaws.{Agree}
use Rattle.ini_text.specs.Laws.Plain.{IsPlainKey}
use Rattle.ini_text.specs.Options.WriteOptions.{line_end}
use Rattle.ini_text.specs.Parsing.Fronts.{front_of}
use Rattle.ini_text.specs.declared.option.ParseOption.{ParseOption}
use Rattle.ini_text.specs.declared.write.option.LineSeparator.{LineSeparator}
use Rattle.ini_text.specs.declared.write.option.LineSeparator.TheVariants.{SystemDefault, CR, CRLF}
use Rattle.ini_text.specs.declared.write.policy.EscapePolicy.{EscapePolicy}
use Rattle.ini_text.proofs.GrammarLemmas.KindLemmas.{line_end_no_blank}
use Rattle.ini_text.proofs.LawLemmas.PieceLemmas.{last_or-append}
use Rattle.ini_text.proofs.PlainLemmas.PlainPairLemmas.{line_end-is}
use Rattle.ini_text.proofs.ReaderLemmas.LineReaderLemmas.{TextEnds}
use Rattle.ini_text.proofs.StringLemmas.FrontLemmas.{front_is}
use Rattle.ini.specs.Texts.{Text}
use Rattle.ini_edit.specs.Inside.InPlace.{AreInPlace}
use Rattle.ini_edit.specs.Inside.Spans.{AreSpans, IsGap, IsPair, IsSpan, Span, gap, pair, pairs_spans}
use Rattle.ini_edit.specs.Inside.Spans.{span_source}
use Rattle.ini_edit.specs.Places.{Follows}
use Rattle.ini_edit.specs.SourceEditsAdd.{Maker, closed, ended_lines, made_after, notes_behind_return}
use Rattle.ini_edit.specs.SourceEditsAdd.{with_line_ended}
use Rattle.ini_edit.specs.SourceEditsDelete.{empty_comment, gap_after, line_end_after, lines_after, own_lines}
use Rattle.ini_edit.specs.SourceEditsDelete.{would_be_taken}
use Rattle.ini_edit.specs.SourceLines.{after_line_end, are_comments, is_empty}
use Rattle.ini_edit.specs.SourcePlaces.{with_end}
use Rattle.ini_edit.specs.SourceWritten.{Style, new_pair}
use Rattle.ini_edit.specs.Sources.{PairPiece, has_separator, is_multiline, joined}
use Rattle.ini_edit.proofs.AheadLemmas.{no_line_feed}
use Rattle.ini_edit.proofs.ClosedPairLemmas.{closed_is, closed_stretches, closed_tail, stays_open}
use Rattle.ini_edit.proofs.CommentRowLemmas.{comments_column, comments_gap}
use Rattle.ini_edit.proofs.GapLemmas.{gaps_joined, no_gap}
use Rattle.ini_edit.proofs.GapPartLemmas.{all_last}
use Rattle.ini_edit.proofs.InPlaceLemmas.{in_place-before, in_place-join, in_place-put, in_place-split}
use Rattle.ini_edit.proofs.InPlaceLemmas.{joined-append}
use Rattle.ini_edit.proofs.NewPairLemmas.{IsPlainStyle, IsReadKey, IsSourceFor, new_pair_is}
use Rattle.ini_edit.proofs.NextPairLemmas.{IsNext, apart_follows, taken, taken_begins, taken_is}
use Rattle.ini_edit.proofs.NextPairLemmas.{taken_unmarked}
use Rattle.ini_edit.proofs.PairEndLemmas.{ended_with, ended_without, gap_lone, line_end_off, lines_lone}
use Rattle.ini_edit.proofs.PairEndLemmas.{own_off}
use Rattle.ini_edit.proofs.PairViewLemmas.{one_line}
use Rattle.ini_edit.proofs.PutAfterLemmas.{EndPut, end_for, end_front, end_put, end_some, note_ended}
use Rattle.ini_edit.proofs.PutAfterLemmas.{pair_last, put_like, some_front}
use Rattle.ini_edit.proofs.SourceAddLemmas.{feed_end, gap_parted, left, line_ended, return_end, right}
use Rattle.ini_edit.proofs.SourceAddLemmas.{spans_column_off}
use Rattle.ini_edit.proofs.SourcePartLemmas.{source_last}
use Rattle.ini_edit.proofs.SpanLemmas.{spans_local}
use Rattle.ini_edit.proofs.LineCutLemmas.{LineHead, OwnCut, end_head, own_cut, past_nothing, text_closes}
use Rattle.ini_edit.proofs.ValueLemmas.{closes_line_end}

-- Two spans put in after a gap's first line, before the rest of the gap.
module _ (vs zs : List Span) (e r g : Text) (q : Stretches) (key value : Text) where
  abbrev z : Text
  z = joined span_source zs

  put_behind : {o : ParseOption} → LineHead o (last_or line_feed (joined span_source vs)) e r
      → AreSpans o line_feed (vs ++ (gap (e ++ r) ∷ zs)) []
      → ((c : ℕ) → starts_line (c ∷ []) ≡ true → IsPair o c q key value ((g ++ r) ++ (z ++ [])))
      → ((c : ℕ) → IsGap o (last_or c (pair_source q)) g (r ++ (z ++ [])))
      → ((c d : ℕ) → AreSpans o (last_or d e) (gap r ∷ zs) []
      → Agree o (last_or d e ∷ []) (last_or (last_or c (pair_source q)) g ∷ []) (r ++ z))
      → AreSpans o line_feed (vs ++ (gap e ∷ pair q key value ∷ gap (g ++ r) ∷ zs)) []
  put_behind {o} head h is glue agrees =
      let ws = vs ++ gap e ∷ [] in
      let c = last_or line_feed (joined span_source ws) in
      let d = last_or line_feed (joined span_source vs) in
      let parted = gap_parted vs e r zs head h in
      let text = joined span_source
      (pair q key value ∷ gap g ∷ []) ++ (joined span_source (gap r ∷ zs) ++ [])
      in
      let front : AreSpans o line_feed ws text =
      in_place-join span_source vs (gap e ∷ [])
      (in_place-before span_source spans_local (head.alike (r ++ z) [] [] text)
      (in_place-split span_source vs (gap e ∷ gap r ∷ zs) parted).0)
      (AreInPlace.more (IsSpan.is_gap (head.is text)) AreInPlace.none) in
      let last : c ≡ last_or d e =
      ap (last_or line_feed) (joined-append span_source vs (gap e ∷ []))
      ∙ last_or-append line_feed (joined span_source vs) (e ++ []) ∙ ap (last_or d) (append-nil e) in
      let starts : starts_line (c ∷ []) ≡ true =
      ap (λ c. starts_line (c ∷ [])) last ∙ head.starts d in
      let there = left vs (gap e ∷ []) (gap r ∷ zs) parted in
      let rest : AreSpans o (last_or d e) (gap r ∷ zs) [] =
      subst (λ c. AreSpans o c (gap r ∷ zs) []) last (in_place-split span_source ws (gap r ∷ zs) there).1 in
      let pair_text : (g ++ r) ++ (z ++ []) ≡ (g ++ []) ++ ((r ++ z) ++ []) =
      append_assoc g r (z ++ []) ∙ ap (λ t. g ++ t) (sym (append_assoc r z []))
      ∙ ap (λ t. t ++ ((r ++ z) ++ [])) (sym (append-nil g)) in
      let cq = last_or c (pair_source q) in
      let agree : Agree o (c ∷ []) (last_or c (pair_source q ++ (g ++ [])) ∷ []) (r ++ z) =
      subst (λ a. Agree o (a ∷ []) (last_or c (pair_source q ++ (g ++ [])) ∷ []) (r ++ z)) (sym last)
      (subst (λ b. Agree o (last_or d e ∷ []) (b ∷ []) (r ++ z))
      (sym (last_or-append c (pair_source q) (g ++ []) ∙ ap (last_or cq) (append-nil g)))
      (agrees c d rest)) in
      let put = in_place-put span_source spans_local ws [] (pair q key value ∷ gap g ∷ []) (gap r ∷ zs)
      there front
      (AreInPlace.more (IsSpan.is_pair (subst (IsPair o c q key value) pair_text (is c starts)))
      (AreInPlace.more (IsSpan.is_gap (subst (IsGap o cq g) (sym (append_assoc r z [])) (glue c)))
      AreInPlace.none)) agree in
      right vs (gap e ∷ []) (pair q key value ∷ gap (g ++ r) ∷ zs)
      (right ws (pair q key value ∷ []) (gap (g ++ r) ∷ zs)
      (gaps_joined (ws ++ pair q key value ∷ []) g r zs
      (left ws (pair q key value ∷ []) (gap g ∷ gap r ∷ zs) put)))

-- line ends as they are written
end_column : (sep : LineSeparator) (d : ℕ) → is_line_feed (last_or d (line_end sep)) ≡ true
end_column SystemDefault d = refl
end_column CR d = refl
end_column CRLF d = refl

no_return : (sep : LineSeparator) → (last_or line_feed (line_end sep) == carriage_return) ≡ false
no_return SystemDefault = refl
no_return CR = refl
no_return CRLF = refl

comment_rows : (sep : LineSeparator) → are_comments false (empty_comment (line_end sep)) ≡ true
comment_rows SystemDefault = refl
comment_rows CR = refl
comment_rows CRLF = refl

sep_put : (o : ParseOption) (sep : LineSeparator) {e r : Text} → LineEnd e r
    → EndPut o e (end_for o (line_end sep) e)
sep_put o SystemDefault le = end_put o feed_end le
sep_put o CR le = end_put o feed_end le
sep_put o CRLF le = end_put o return_end le

-- such a line end before what may follow a value
end_for_is : (o : ParseOption) (sep : LineSeparator) (e x : Text) → BeginsWithNo is_line_end x
    → LineEnd (end_for o (line_end sep) e) x
end_for_is o sep e x apart =
    elim (cases_Bool (notes_behind_return o && last_or line_feed e == carriage_return)) [
      | inl h ↦ subst (λ t. LineEnd t x) (sym (cond-true _ _ _ h)) (LineEnd.cr (no_line_feed x apart))
      | inr h ↦ subst (λ t. LineEnd t x) (sym (cond-false _ _ _ h)) (line_end-is sep x)
    ]

end_for_feed : (o : ParseOption) (end old : Text) → (last_or line_feed old == carriage_return) ≡ false
    → end_for o end old ≡ end
end_for_feed o end old h =
    cond-false (notes_behind_return o && _) _ _ (and_right (notes_behind_return o) _ h)

-- the same line end after nothing and after itself
same_end : (o : ParseOption) (sep : LineSeparator)
    → end_for o (line_end sep) [] ≡ end_for o (line_end sep) (line_end sep)
same_end o sep = end_for_feed o (line_end sep) [] refl
    ∙ sym (end_for_feed o (line_end sep) (line_end sep) (no_return sep))

sep_last : (sep : LineSeparator) (d c : ℕ) → last_or d (line_end sep) ≡ last_or c (line_end sep)
sep_last SystemDefault d c = refl
sep_last CR d c = refl
sep_last CRLF d c = refl

ended_sep : {o : ParseOption} (sep : LineSeparator) (xs zs : List Span) (p : PairPiece)
    → is_multiline o p ≡ false → BeginsWithNo is_comment_mark (joined span_source zs ++ [])
    → AreSpans o line_feed (xs ++ (pair p.stretches p.key p.value ∷ gap [] ∷ zs)) []
    → AreSpans o line_feed
    (xs ++ (pair (closed_stretches o p.stretches) p.key p.value ∷ gap (line_end sep) ∷ zs)) []
ended_sep SystemDefault xs zs p one none h = line_ended feed_end xs zs p one none h
ended_sep CR xs zs p one none h = line_ended feed_end xs zs p one none h
ended_sep CRLF xs zs p one none h = line_ended return_end xs zs p one none h

no_such : (test : ℕ → Bool) (x : Text) → BeginsWith test x → ¬ BeginsWithNo test x
no_such test [] h none = false≢true (sym h)
no_such test (c ∷ x) h none = both_ways (test c) none h

-- nothing that closes a line begins with a blank
closes_unblank : {X : Type 0} (x : Text) → Closes plain_ends x → BeginsWith is_blank x → X
closes_unblank [] closes blank = absurd (false≢true (sym blank))
closes_unblank (c ∷ x) closes blank =
    absurd (both_ways (is_blank c) (line_end_no_blank c (closes_line_end c closes)) blank)

module _ {o : ParseOption} where
  -- after both line ends the text is read alike
  starts_agree : {a b : ℕ} (t : Text) → is_line_end a ≡ true → is_line_end b ≡ true
      → (BeginsWith is_comment_mark t → ⊥) → Agree o (a ∷ []) (b ∷ []) t
  starts_agree t one other unmarked = record {
    line = λ _. one ∙ sym other;
    column = λ m. absurd (unmarked m);
    comment = λ _ m. absurd (unmarked m);
  }

  ends_agree : {e l : Text} (t : Text) (f y : ℕ) → starts_line (last_or f e ∷ []) ≡ true → EndPut o e l
      → (BeginsWith is_blank t → ⊥)
      → (notes_behind_return o ≡ false → BeginsWith is_comment_mark t
      → is_line_feed (last_or f e) ≡ true)
      → Agree o (last_or f e ∷ []) (last_or y l ∷ []) t
  ends_agree t f y starts (EndPut.stands_so {d} {ds} end) unblank place = record {
    line = λ b. absurd (unblank b);
    column = λ m. elim (cases_Bool (notes_behind_return o)) [
      | inl on ↦ end.same on f
      | inr off ↦ place off m ∙ sym (end.feed off)
    ];
    comment = λ _ m. starts ∙ sym (all_last is_line_end d ds end.all);
  }

-- the options with values that may be multiline
abbrev many : ParseOption → ParseOption
many o = record o { enabled_indented_mutiline_value = true }

module _ (o₀ : ParseOption) (sep : LineSeparator) {policy : EscapePolicy} {key value source : Text}
    {style : Style} (plain : IsPlainKey (many o₀) policy key) (read_back : IsReadKey (many o₀) policy key)
    (is : IsPlainStyle (many o₀) style) (given : IsSourceFor (many o₀) source value) where
  abbrev make : Maker
  make indented lines rest = new_pair (many o₀) policy style indented key value source lines rest

  abbrev o : ParseOption
  o = many o₀

  abbrev end : Text
  end = line_end sep

  abbrev before_lines : ℕ → Stretches → ℕ
  before_lines c q =
      last_or (last_or (last_or (last_or (last_or c (q.key ++ separator_text q.separator)) q.space_before)
      q.raw_value) q.space_after) q.note

  module _ (zs : List Span) (ps : List PairPiece) (next : IsNext o ps (joined span_source zs ++ [])) where
    abbrev x : Text
    x = joined span_source zs ++ []

    whole_text : (r : Text) → r ++ x ≡ r ++ joined span_source zs
    whole_text r = ap (λ t. r ++ t) (append-nil (joined span_source zs))

    -- before what a multiline value would take
    put_taken : (vs : List Span) (e r : Text) → LineHead o (last_or line_feed (joined span_source vs)) e r
        → taken r ps ≡ true
        → AreSpans o line_feed (vs ++ (gap (e ++ r) ∷ zs)) []
        → AreSpans o line_feed
        (vs ++ (gap e ∷ (pairs_spans (make false end (empty_comment end ++ r) ∷ []) ++ zs))) []
    put_taken vs e r head takes h =
        let made = (make false end (empty_comment end ++ r)).stretches in
        let column : (c : ℕ) → is_line_feed (last_or c (pair_source made)) ≡ true =
        λ c. ap is_line_feed (sym (source_last c made)) ∙ end_column sep (before_lines c made) in
        let begins = subst (BeginsWith _) (whole_text r) (taken_begins next r takes) in
        put_behind vs zs e r (empty_comment end) made key value head h
        (λ c starts. new_pair_is plain read_back is given false end (empty_comment end ++ r) starts
        (subst (λ t. TrailingLines o t ((empty_comment end ++ r) ++ x)) (append-nil end)
        (TrailingLines.lines {t = []} refl (line_end-is sep ((empty_comment end ++ r) ++ x))
        (MoreLines.done refl refl) refl)))
        (λ c. comments_gap (empty_comment end) (column c) (comment_rows sep))
        (λ c d rest. starts_agree (r ++ joined span_source zs) (head.starts d)
        (or_left (is_line_feed (last_or (last_or c (pair_source made)) (empty_comment end))) _
        (comments_column (last_or c (pair_source made)) (empty_comment end) (column c) (comment_rows sep)))
        (λ m. taken_unmarked (r ++ joined span_source zs) begins m))

    -- and before what it leaves
    put_apart : (vs : List Span) (f e r : Text) → LineHead o (last_or line_feed (joined span_source vs)) f r
        → EndPut o f (end_for o end e) → taken r ps ≡ false
        → AreSpans o line_feed (vs ++ (gap (f ++ r) ∷ zs)) []
        → AreSpans o line_feed
        (vs ++ (gap f ∷ (pairs_spans (make false (end_for o end e ++ []) r ∷ []) ++ zs))) []
    put_apart vs f e r head is_end leaves h =
        let new_end = end_for o end e in
        let made = (make false (new_end ++ []) r).stretches in
        let follows = apart_follows next r leaves in
        let t = r ++ joined span_source zs in
        let unblank : BeginsWith is_blank t → ⊥ =
        λ b. no_such is_blank t b (subst (BeginsWithNo is_blank) (whole_text r) (follows.no_blank refl)) in
        put_behind vs zs f r [] made key value head h
        (λ c starts. new_pair_is plain read_back is given false (new_end ++ []) r starts
        (TrailingLines.lines {t = []} refl (end_for_is o sep e (r ++ x) (follows.no_line_end refl))
        (MoreLines.done (follows.no_blank refl) (follows.no_line_end refl)) refl))
        (λ c. no_gap)
        (λ c d rest. subst (λ b. Agree o (last_or d f ∷ []) (b ∷ []) t)
        (ap (last_or (before_lines c made)) (sym (append-nil new_end)) ∙ source_last c made)
        (ends_agree t d (before_lines c made) (head.starts d) is_end unblank
        (λ off m. spans_column_off off (gap r ∷ zs) rest m)))

    module _ (xs : List Span) (p : PairPiece) (lone : has_separator p ≡ false) where
      abbrev the_pair : Span
      the_pair = pair p.stretches p.key p.value

      abbrev with_both : PairPiece → PairPiece → List Span
      with_both a b = xs ++ (pairs_spans (a ∷ b ∷ []) ++ zs)

      -- the new pair in both cases
      made_taken : (r : Text) → gap_after o p ≡ r → taken r ps ≡ true
          → made_after o end make p ps ≡ make false end (empty_comment end ++ r)
      made_taken r gap_is takes =
          cond-true (would_be_taken o p ps) _ _ (taken_is o p ps refl lone gap_is ∙ takes)
          ∙ ap (λ g. make false end (empty_comment end ++ g)) gap_is

      made_apart : (e r : Text) → line_end_after o p ≡ e → gap_after o p ≡ r → taken r ps ≡ false
          → made_after o end make p ps ≡ make false (end_for o end e ++ []) r
      made_apart e r end_is gap_is leaves =
          cond-false (would_be_taken o p ps) _ _ (taken_is o p ps refl lone gap_is ∙ leaves)
          ∙ ap (λ l. make false (end_for o end l ++ lines_after o p) (gap_after o p)) end_is
          ∙ ap (λ l. make false (end_for o end e ++ l) (gap_after o p)) (lines_lone o p lone refl)
          ∙ ap (make false (end_for o end e ++ [])) gap_is

      -- the key alone with its line ended
      ended_is : (lines : Text) {q : PairPiece} → ended_lines o end p ≡ lines → closed o p ≡ q
          → with_line_ended o end p ≡ with_end [] lines q
      ended_is lines {q} lines_is closed_so =
          cond-false (is_multiline o p) _ _ lone
          ∙ ap (λ l. with_end [] l (closed o p)) lines_is ∙ ap (with_end [] lines) closed_so

      both_are : {a b : PairPiece} → with_line_ended o end p ≡ a → made_after o end make p ps ≡ b
          → AreSpans o line_feed (with_both a b) []
          → AreSpans o line_feed (with_both (with_line_ended o end p) (made_after o end make p ps)) []
      both_are {a} a_is b_is h =
          subst (λ a. AreSpans o line_feed (with_both a (made_after o end make p ps)) []) (sym a_is)
          (subst (λ b. AreSpans o line_feed (with_both a b) []) (sym b_is) h)

      pub put_after_lone : AreSpans o line_feed (xs ++ (the_pair ∷ gap p.after ∷ zs)) []
          → AreSpans o line_feed (with_both (with_line_ended o end p) (made_after o end make p ps)) []
      put_after_lone h =
          parts (in_place-split span_source xs (the_pair ∷ gap p.after ∷ zs) h).1
        where
          b : ℕ
          b = last_or line_feed (joined span_source xs)

          following : Text
          following = joined span_source zs

          bare_of : p.stretches.trailing_lines ≡ [] → (e : Text) → p.stretches ≡ (with_end [] e p).stretches
          bare_of none e = ap (λ t. record p.stretches { trailing_lines = t }) none

          put : (f : Text) (new : PairPiece) → p.stretches.trailing_lines ≡ []
              → AreSpans o line_feed ((xs ++ the_pair ∷ []) ++ (gap f ∷ (pairs_spans (new ∷ []) ++ zs))) []
              → AreSpans o line_feed (with_both (with_end [] f p) new) []
          put f new none h =
              subst (λ s. AreSpans o line_feed
              (xs ++ (pair s p.key p.value ∷ gap f ∷ (pairs_spans (new ∷ []) ++ zs))) []) (bare_of none f)
              (right xs (the_pair ∷ []) (gap f ∷ (pairs_spans (new ∷ []) ++ zs)) h)

          head_at : {f r : Text} → LineHead o (last_or b (pair_source p.stretches)) f r
              → LineHead o (last_or line_feed (joined span_source (xs ++ the_pair ∷ []))) f r
          head_at {f} {r} head = subst (λ z. LineHead o z f r) (sym (pair_last xs p)) head

          stays_by : is_empty p.after ≡ false → closed o p ≡ p
          stays_by some = stays_open o p
              (and_right (is_empty p.stretches.trailing_lines) (is_empty p.after) some)

          at : IsPair o b p.stretches p.key p.value (p.after ++ (following ++ []))
              → OwnCut o (last_or b (pair_source p.stretches)) p.after (following ++ [])
              → AreSpans o line_feed (with_both (with_line_ended o end p) (made_after o end make p ps)) []
          at was (OwnCut.cut f e r same head le one last is_rest) =
              let none = (one_line was lone).0 in
              let some = end_some le in
              let own : own_lines o p ≡ f =
              own_off o p lone ∙ ap (front_of p.after) is_rest ∙ front_is f r p.after (sym same) in
              let end_is : line_end_after o p ≡ e = line_end_off o p lone f (sym own) ∙ one in
              let lines_is : ended_lines o end p ≡ f =
              sym (ended_with o p end (ap is_empty end_is ∙ some)) ∙ append-nil (own_lines o p) ∙ own in
              let stays = stays_by (ap is_empty same ∙ some_front f r (end_front f one some)) in
              let gap_is : gap_after o p ≡ r = gap_lone o p lone refl ∙ is_rest in
              let cut : AreSpans o line_feed ((xs ++ the_pair ∷ []) ++ (gap (f ++ r) ∷ zs)) [] =
              left xs (the_pair ∷ []) (gap (f ++ r) ∷ zs)
              (subst (λ g. AreSpans o line_feed (xs ++ (the_pair ∷ gap g ∷ zs)) []) same h) in
              elim (cases_Bool (taken r ps)) [
                | inl takes ↦
                    both_are (ended_is f lines_is stays) (made_taken r gap_is takes)
                    (put f (make false end (empty_comment end ++ r)) none
                    (put_taken (xs ++ the_pair ∷ []) f r (head_at head) takes cut))
                | inr leaves ↦
                    both_are (ended_is f lines_is stays) (made_apart e r end_is gap_is leaves)
                    (put f (make false (end_for o end e ++ []) r) none
                    (put_apart (xs ++ the_pair ∷ []) f e r (head_at head) (put_like last (sep_put o sep le))
                    leaves cut))
              ]
          at was (OwnCut.noted some closes one is_rest head) =
              let none = (one_line was lone).0 in
              let leaves : taken [] ps ≡ false =
              false_from_ne_true (taken [] ps) (λ takes. closes_unblank x closes (next.blank takes)) in
              let own : own_lines o p ≡ p.after =
              own_off o p lone ∙ ap (front_of p.after) is_rest
              ∙ front_is p.after [] p.after (append-nil p.after)
              in
              let end_is : line_end_after o p ≡ [] = line_end_off o p lone p.after (sym own) ∙ one in
              let lines_is : ended_lines o end p ≡ p.after ++ end =
              sym (ended_without o p end (ap is_empty end_is)) ∙ ap (λ t. t ++ end) own in
              let gap_is : gap_after o p ≡ [] = gap_lone o p lone refl ∙ is_rest in
              let there = head end (line_end-is sep []) in
              let ended = note_ended end xs zs p some closes there h in
              let made = make false (end_for o end end ++ []) [] in
              let f = p.after ++ end in
              both_are (ended_is f lines_is (stays_by some))
              (made_apart [] [] end_is gap_is leaves ∙ ap (λ l. make false (l ++ []) []) (same_end o sep))
              (put f made none
              (put_apart (xs ++ the_pair ∷ []) f end [] (head_at there)
              (put_like (λ d c. last_or-append d p.after end ∙ sep_last sep (last_or d p.after) c)
              (sep_put o sep (line_end-is sep [])))
              leaves
              (left xs (the_pair ∷ []) (gap (f ++ []) ∷ zs)
              (subst (λ g. AreSpans o line_feed (xs ++ (the_pair ∷ gap g ∷ zs)) [])
              (sym (append-nil f)) ended))))
          at was (OwnCut.nothing nothing) =
              let line = one_line was lone in
              let closes : Closes plain_ends x =
              text_closes o x (subst (λ g. TextEnds o (g ++ x)) nothing line.1) next.unmarked in
              let leaves : taken [] ps ≡ false =
              false_from_ne_true (taken [] ps) (λ takes. closes_unblank x closes (next.blank takes)) in
              let after : after_line_end (past_note o p.after) ≡ [] =
              ap (λ t. after_line_end (past_note o t)) nothing ∙ ap after_line_end (past_nothing o) in
              let own : own_lines o p ≡ [] =
              own_off o p lone ∙ ap (front_of p.after) after ∙ ap (λ t. front_of t []) nothing in
              let end_is : line_end_after o p ≡ [] = line_end_off o p lone [] (sym own) in
              let lines_is : ended_lines o end p ≡ end =
              sym (ended_without o p end (ap is_empty end_is)) ∙ ap (λ t. t ++ end) own in
              let gap_is : gap_after o p ≡ [] = gap_lone o p lone refl ∙ after in
              let shut = closed_stretches o p.stretches in
              let bare : shut ≡ record shut { trailing_lines = [] } =
              ap (λ t. record shut { trailing_lines = t }) (closed_tail o p.stretches ∙ line.0) in
              let new = pair shut p.key p.value in
              let ended = ended_sep sep xs zs p lone next.unmarked
              (subst (λ g. AreSpans o line_feed (xs ++ (the_pair ∷ gap g ∷ zs)) []) nothing h) in
              let made = make false (end_for o end end ++ []) [] in
              let ws = xs ++ new ∷ [] in
              let put = right xs (new ∷ []) (gap end ∷ (pairs_spans (made ∷ []) ++ zs))
              (put_apart ws end end []
              (end_head (last_or line_feed (joined span_source ws)) (line_end-is sep []))
              (sep_put o sep (line_end-is sep [])) leaves
              (left xs (new ∷ []) (gap (end ++ []) ∷ zs)
              (subst (λ g. AreSpans o line_feed (xs ++ (new ∷ gap g ∷ zs)) [])
              (sym (append-nil end)) ended)))
              in
              both_are (ended_is end lines_is (closed_is o p line.0 nothing))
              (made_apart [] [] end_is gap_is leaves ∙ ap (λ l. make false (l ++ []) []) (same_end o sep))
              (subst (λ s. AreSpans o line_feed
              (xs ++ (pair s p.key p.value ∷ gap end ∷ (pairs_spans (made ∷ []) ++ zs))) []) bare put)

          parts : AreSpans o b (the_pair ∷ gap p.after ∷ zs) []
              → AreSpans o line_feed (with_both (with_line_ended o end p) (made_after o end make p ps)) []
          parts (AreInPlace.more (IsSpan.is_pair was) (AreInPlace.more (IsSpan.is_gap g) rest)) =
              let is = subst (IsPair o b p.stretches p.key p.value)
              (append_assoc p.after following []) was in
              at is (own_cut is lone g)
