-- A pair put directly after another in a text in pieces where values are in one line: before what followed
-- that pair's line.
use Rattle.std.proofs.Common.{◌≡◌, ◌==◌, ◌∙◌, ◌&&◌, ℕ, Bool, true, false, List, [], ◌∷◌, ◌++◌, ap}
use Rattle.std.proofs.Common.{append_assoc, append-nil, if◌then◌else◌, inl, inr, refl, subst, subst₂, sym}
use Rattle.std.proofs.lemmas.Bool.{and_from, and_left, and_right, both_ways, cases_Bool, cond-false}
use Rattle.std.proofs.lemmas.Bool.{cond-true, false≢true}
use Rattle.ini_text.specs.Grammar.CharacterKinds.{BeginsWithNo, carriage_return, is_comment_mark}
use Rattle.ini_text.specs.Grammar.CharacterKinds.{is_line_feed, line_feed}
use Rattle.ini_text.specs.Grammar.Places.{Stretches, TrailingLines, pair_source}
use Rattle.ini_text.specs.Grammar.Positions.{last_or, starts_line}
use Rattle.ini_text.specs.Grammar.Strings.{Closes, plain_ends}
use Rattle.ini_text.specs.Grammar.Values.{LineEnd}
use Rattle.ini_text.specs.Inside.LineReader.{past_note}
use Rattle.ini_text.specs.Laws.PieceLaws.{BeginAlike}
use Rattle.ini_text.specs.Laws.Plain.{IsPlainKey}
use Rattle.ini_text.specs.Parsing.Fronts.{front_of}
use Rattle.ini_text.specs.declared.option.ParseOption.{ParseOption}
use Rattle.ini_text.specs.declared.write.policy.EscapePolicy.{EscapePolicy}
use Rattle.ini_text.proofs.LawLemmas.PieceLemmas.{last_or-append}
use Rattle.ini_text.proofs.StringLemmas.FrontLemmas.{front_is}
use Rattle.ini.specs.Texts.{Text}
use Rattle.ini_edit.specs.Inside.InPlace.{AreInPlace}
use Rattle.ini_edit.specs.Inside.SourceEnds.{IsPlaceAt}
use Rattle.ini_edit.specs.Inside.Spans.{AreSections, AreSpans, IsGap, IsPair, IsSpan, Span, gap, pair}
use Rattle.ini_edit.specs.Inside.Spans.{span_source}
use Rattle.ini_edit.specs.SourceEditsAdd.{Maker, closed, end_after, notes_behind_return, pair_put_after}
use Rattle.ini_edit.specs.SourceEditsAdd.{with_line_ended}
use Rattle.ini_edit.specs.SourceEditsDelete.{lines_after}
use Rattle.ini_edit.specs.SourceLines.{after_line_end, is_empty, line_end_at_end}
use Rattle.ini_edit.specs.SourcePlaces.{Place, exchanged}
use Rattle.ini_edit.specs.SourceWritten.{Style, new_pair}
use Rattle.ini_edit.specs.Sources.{PairPiece, SectionPiece, joined}
use Rattle.ini_edit.proofs.InPlaceLemmas.{in_place-exchanged, in_place-split, joined-append}
use Rattle.ini_edit.proofs.NewPairLemmas.{IsPlainStyle, IsReadKey, IsSourceFor, new_pair_is}
use Rattle.ini_edit.proofs.NextPairLemmas.{next_pairs}
use Rattle.ini_edit.proofs.ClosedPairLemmas.{closed_is, closed_same, closed_stretches, closed_tail}
use Rattle.ini_edit.proofs.ClosedPairLemmas.{stays_open}
use Rattle.ini_edit.proofs.PairViewLemmas.{one_line as in_one_line}
use Rattle.ini_edit.proofs.SourceAddLemmas.{IsNewEnd, IsPutEnd, added_line, left, line_ended}
use Rattle.ini_edit.proofs.SourceAddLemmas.{new_put_end, right}
use Rattle.ini_edit.proofs.SourceSetLemmas.{closed_agrees}
use Rattle.ini_edit.proofs.SourceSpanLemmas.{pairs_put_in, spans_after_pairs, spans_before_pairs}
use Rattle.ini_edit.proofs.SpanLemmas.{spans_local}
use Rattle.ini_edit.proofs.LineCutLemmas.{LineHead, OwnCut, end_head, own_cut, past_nothing}

-- the options with values in one line
abbrev pub one_line : ParseOption → ParseOption
one_line o = record o { enabled_indented_mutiline_value = false }

-- the line end after a pair where one of this text ends its line
abbrev pub end_for : ParseOption → (end old : Text) → Text
end_for o end old =
    if notes_behind_return o && last_or line_feed old == carriage_return then carriage_return ∷ []
    else end

pub data EndPut (o : ParseOption) (e : Text) : Text → Type 0 where
  stands_so : {d : ℕ} {ds : Text} → IsPutEnd o e d ds → EndPut o e (d ∷ ds)

pub end_put : (o : ParseOption) {d : ℕ} {ds e r : Text} → IsNewEnd d ds → LineEnd e r
    → EndPut o e (end_for o (d ∷ ds) e)
end_put o {d} {ds} {e} {r} end le = elim (cases_Bool (notes_behind_return o)) [
  | inl on ↦ at on le
  | inr off ↦
      subst (EndPut o e) (sym (cond-false (notes_behind_return o && _) _ _ (and_left _ _ off)))
      (EndPut.stands_so (record {
        all = end.all;
        feed = λ _. end.feed;
        same = λ on. absurd (both_ways (notes_behind_return o) off on);
      }))
]
  where
    feeds : {e : Text} → ((c : ℕ) → is_line_feed (last_or c e) ≡ true)
        → (last_or line_feed e == carriage_return) ≡ false → EndPut o e (end_for o (d ∷ ds) e)
    feeds {e} feed other =
        subst (EndPut o e) (sym (cond-false (notes_behind_return o && _) _ _ (and_right
        (notes_behind_return o) _ other)))
        (EndPut.stands_so (record {
          all = end.all;
          feed = λ _. end.feed;
          same = λ _ c. feed c ∙ sym end.feed;
        }))

    at : {e r : Text} → notes_behind_return o ≡ true → LineEnd e r
        → EndPut o e (end_for o (d ∷ ds) e)
    at on LineEnd.lf = feeds (λ c. refl) refl
    at on LineEnd.cr_lf = feeds (λ c. refl) refl
    at on (LineEnd.cr n) =
        subst (EndPut o (carriage_return ∷ [])) (sym (cond-true (notes_behind_return o && true) _ _
        (and_from (notes_behind_return o) true on refl)))
        (EndPut.stands_so (record {
          all = refl;
          feed = λ off. absurd (both_ways (notes_behind_return o) off on);
          same = λ _ c. refl;
        }))

-- the same after a line that ends so
pub put_like : {o : ParseOption} {f e l : Text} → ((d b : ℕ) → last_or d f ≡ last_or b e) → EndPut o e l
    → EndPut o f l
put_like {o} last (EndPut.stands_so end) = EndPut.stands_so (record {
  all = end.all;
  feed = end.feed;
  same = λ on c. ap is_line_feed (last c c) ∙ end.same on c;
})

pub noted_put_end : {o : ParseOption} {d : ℕ} {ds : Text} (t : Text) → IsNewEnd d ds
    → IsPutEnd o (t ++ d ∷ ds) d ds
noted_put_end {d = d} {ds} t end = record {
  all = end.all;
  feed = λ _. end.feed;
  same = λ _ c. ap is_line_feed (last_or-append c t (d ∷ ds));
}

pub end_for_none : (o : ParseOption) (end : Text) → end_for o end [] ≡ end
end_for_none o end = cond-false (notes_behind_return o && false) _ _
    (and_right (notes_behind_return o) false refl)

pub end_some : {e r : Text} → LineEnd e r → is_empty e ≡ false
end_some LineEnd.lf = refl
end_some LineEnd.cr_lf = refl
end_some (LineEnd.cr n) = refl

pub some_front : (f r : Text) → is_empty f ≡ false → is_empty (f ++ r) ≡ false
some_front [] r some = absurd (false≢true (sym some))
some_front (c ∷ f) r some = refl

pub end_front : (f : Text) {e : Text} → line_end_at_end f ≡ e → is_empty e ≡ false → is_empty f ≡ false
end_front [] is some = absurd (false≢true (sym some ∙ ap is_empty (sym is)))
end_front (c ∷ f) is some = refl

-- after a pair
pub pair_last : (xs : List Span) (p : PairPiece)
    → last_or line_feed (joined span_source (xs ++ pair p.stretches p.key p.value ∷ []))
    ≡ last_or (last_or line_feed (joined span_source xs)) (pair_source p.stretches)
pair_last xs p =
    let b = last_or line_feed (joined span_source xs) in
    ap (last_or line_feed) (joined-append span_source xs (pair p.stretches p.key p.value ∷ []))
    ∙ last_or-append line_feed (joined span_source xs) (pair_source p.stretches ++ [])
    ∙ ap (last_or b) (append-nil (pair_source p.stretches))

begin_both : (t e x : Text) → is_empty t ≡ false → BeginAlike ((t ++ []) ++ x) (((t ++ e) ++ []) ++ x)
begin_both [] e x some = absurd (false≢true (sym some))
begin_both (c ∷ t) e x some = BeginAlike.character

-- a note behind a pair with its line ended
pub note_ended : {o : ParseOption} (e : Text) (xs zs : List Span) (p : PairPiece) → is_empty p.after ≡ false
    → Closes plain_ends (joined span_source zs ++ [])
    → LineHead o (last_or (last_or line_feed (joined span_source xs)) (pair_source p.stretches))
    (p.after ++ e) []
    → AreSpans o line_feed (xs ++ (pair p.stretches p.key p.value ∷ gap p.after ∷ zs)) []
    → AreSpans o line_feed (xs ++ (pair p.stretches p.key p.value ∷ gap (p.after ++ e) ∷ zs)) []
note_ended {o} e xs zs p some closes head h =
    let the_pair = pair p.stretches p.key p.value in
    let following = joined span_source zs in
    right xs (the_pair ∷ []) (gap (p.after ++ e) ∷ zs)
    (in_place-exchanged span_source spans_local (xs ++ the_pair ∷ []) (gap p.after ∷ [])
    (gap (p.after ++ e) ∷ []) zs (left xs (the_pair ∷ []) (gap p.after ∷ zs) h)
    (AreInPlace.more (IsSpan.is_gap (subst (λ z. IsGap o z (p.after ++ e) (following ++ []))
    (sym (pair_last xs p)) (head.is (following ++ [])))) AreInPlace.none)
    (begin_both p.after e (following ++ []) some)
    (closed_agrees following (subst (Closes plain_ends) (append-nil following) closes)))

module _ (o₀ : ParseOption) where
  abbrev o : ParseOption
  o = one_line o₀

  module _ (d : ℕ) (ds : Text) (p : PairPiece) where
    -- the pair with its line ended, where its line ends, and where nothing follows it
    abbrev the_ended : PairPiece
    the_ended = with_line_ended o (d ∷ ds) p

    module _ (f e r : Text) (same : p.after ≡ f ++ r) (one : line_end_at_end f ≡ e)
        (some : is_empty e ≡ false)
        (is : after_line_end (past_note o p.after) ≡ r) where
      own_is : front_of p.after (after_line_end (past_note o p.after)) ≡ f
      own_is = ap (front_of p.after) is ∙ front_is f r p.after (sym same)

      cut_after : the_ended.after ≡ f
      cut_after =
          ap (λ f. f ++ (if is_empty (line_end_at_end f) then d ∷ ds else [])) own_is
          ∙ ap (λ l. f ++ (if is_empty l then d ∷ ds else [])) one
          ∙ ap (λ b. f ++ (if b then d ∷ ds else [])) some ∙ append-nil f

      cut_closed : closed o p ≡ p
      cut_closed = stays_open o p
          (and_right (is_empty p.stretches.trailing_lines) (is_empty p.after)
          (ap is_empty same ∙ some_front f r (end_front f one some)))

    -- a note that the text's end closes
    module _ (some : is_empty p.after ≡ false) (one : line_end_at_end p.after ≡ [])
        (is : after_line_end (past_note o p.after) ≡ []) where
      noted_own : front_of p.after (after_line_end (past_note o p.after)) ≡ p.after
      noted_own = ap (front_of p.after) is ∙ front_is p.after [] p.after (append-nil p.after)

      noted_after : the_ended.after ≡ p.after ++ d ∷ ds
      noted_after =
          ap (λ f. f ++ (if is_empty (line_end_at_end f) then d ∷ ds else [])) noted_own
          ∙ ap (λ l. p.after ++ (if is_empty l then d ∷ ds else [])) one

      noted_closed : closed o p ≡ p
      noted_closed = stays_open o p (and_right (is_empty p.stretches.trailing_lines) (is_empty p.after) some)

    empty_after : p.after ≡ [] → the_ended.after ≡ d ∷ ds
    empty_after none =
        ap (λ t. front_of t (after_line_end (past_note o t))
        ++ (if is_empty (line_end_at_end (front_of t (after_line_end (past_note o t)))) then d ∷ ds
        else [])) none
        ∙ ap (λ u. front_of [] (after_line_end u)
        ++ (if is_empty (line_end_at_end (front_of [] (after_line_end u))) then d ∷ ds else []))
        (past_nothing o)

  module _ {policy : EscapePolicy} {key value source : Text} {style : Style}
      (plain : IsPlainKey o policy key) (read_back : IsReadKey o policy key) (is : IsPlainStyle o style)
      (given : IsSourceFor o source value) where
    abbrev make : Maker
    make indented lines rest = new_pair o policy style indented key value source lines rest

    abbrev made : Stretches
    made = (make true [] []).stretches

    fits : (c : ℕ) (r : Text) → starts_line (c ∷ []) ≡ true → Closes plain_ends r
        → IsPair o c made key value r
    fits c r starts closes =
        new_pair_is plain read_back is given true [] [] starts (TrailingLines.line refl closes)

    module _ {d : ℕ} {ds : Text} (end : IsNewEnd d ds) (xs zs : List Span) (p : PairPiece) where
      -- the spans once it is put in
      abbrev spans_with : Stretches → (after lines : Text) → List Span
      spans_with s after lines =
          xs ++ (pair s p.key p.value ∷ gap after ∷ pair made key value ∷ gap lines ∷ zs)

      abbrev lines_put : Text
      lines_put = end_after o (d ∷ ds) p ++ lines_after o p

      abbrev the_pair : Span
      the_pair = pair p.stretches p.key p.value

      spans_put_after : ((c : ℕ) → AreSpans o c zs []
          → BeginsWithNo is_comment_mark (joined span_source zs ++ []))
          → AreSpans o line_feed (xs ++ (pair p.stretches p.key p.value ∷ gap p.after ∷ zs)) []
          → AreSpans o line_feed
          (spans_with (the_ended d ds p).stretches (the_ended d ds p).after lines_put) []
      spans_put_after unmarked h =
          parts (in_place-split span_source xs (pair p.stretches p.key p.value ∷ gap p.after ∷ zs) h).1
        where
          b : ℕ
          b = last_or line_feed (joined span_source xs)

          following : Text
          following = joined span_source zs

          put_line : {f l r : Text} → LineHead o (last_or b (pair_source p.stretches)) f r → EndPut o f l
              → AreSpans o line_feed (xs ++ (the_pair ∷ gap (f ++ r) ∷ zs)) []
              → AreSpans o line_feed (spans_with p.stretches f (l ++ r)) []
          put_line {f} {r = r} head (EndPut.stands_so {d} {ds} is_end) cut =
              right xs (the_pair ∷ []) (gap f ∷ pair made key value ∷ gap ((d ∷ ds) ++ r) ∷ zs)
              (added_line refl made key value fits (xs ++ the_pair ∷ []) zs f r
              (subst (λ z. LineHead o z f r) (sym (pair_last xs p)) head) is_end
              (left xs (the_pair ∷ []) (gap (f ++ r) ∷ zs) cut))

          stays_with : closed o p ≡ p → p.stretches.trailing_lines ≡ []
              → p.stretches ≡ (the_ended d ds p).stretches
          stays_with stays tail =
              ap (λ t. record p.stretches { trailing_lines = t }) tail
              ∙ ap (λ (q : PairPiece). record q.stretches { trailing_lines = [] }) (sym stays)

          whole : {s : Stretches} {a l : Text} → s ≡ (the_ended d ds p).stretches
              → (the_ended d ds p).after ≡ a → lines_put ≡ l → AreSpans o line_feed (spans_with s a l) []
              → AreSpans o line_feed
              (spans_with (the_ended d ds p).stretches (the_ended d ds p).after lines_put) []
          whole {s} {a} {l} s_is a_is l_is put =
              subst (λ x. AreSpans o line_feed x [])
              (ap (λ s. spans_with s a l) s_is
              ∙ ap (λ a. spans_with (the_ended d ds p).stretches a l) (sym a_is)
              ∙ ap (spans_with (the_ended d ds p).stretches (the_ended d ds p).after) (sym l_is))
              put

          at : IsPair o b p.stretches p.key p.value (p.after ++ (following ++ []))
              → OwnCut o (last_or b (pair_source p.stretches)) p.after (following ++ [])
              → BeginsWithNo is_comment_mark (following ++ [])
              → AreSpans o line_feed
              (spans_with (the_ended d ds p).stretches (the_ended d ds p).after lines_put) []
          at was (OwnCut.cut f e r same head le one last is) none =
              let some = end_some le in
              let cut = subst (λ g. AreSpans o line_feed (xs ++ (the_pair ∷ gap g ∷ zs)) []) same h in
              let line_end_is : end_after o (d ∷ ds) p ≡ end_for o (d ∷ ds) e =
              ap (λ t. end_for o (d ∷ ds) (line_end_at_end t)) (own_is d ds p f e r same one some is)
              ∙ ap (end_for o (d ∷ ds)) one in
              whole (stays_with (cut_closed d ds p f e r same one some is) (in_one_line was refl).0)
              (cut_after d ds p f e r same one some is)
              (ap (λ l. l ++ lines_after o p) line_end_is ∙ ap (λ l. end_for o (d ∷ ds) e ++ l) is)
              (put_line head (put_like last (end_put o end le)) cut)
          at was (OwnCut.noted some closes one is head) none =
              let ended = note_ended (d ∷ ds) xs zs p some closes (head (d ∷ ds) (end.is_end [])) h in
              let again = subst (λ g. AreSpans o line_feed (xs ++ (the_pair ∷ gap g ∷ zs)) [])
              (sym (append-nil (p.after ++ d ∷ ds))) ended in
              let line_end_is : end_after o (d ∷ ds) p ≡ d ∷ ds =
              ap (λ t. end_for o (d ∷ ds) (line_end_at_end t)) (noted_own d ds p some one is)
              ∙ ap (end_for o (d ∷ ds)) one ∙ end_for_none o (d ∷ ds) in
              whole (stays_with (noted_closed d ds p some one is) (in_one_line was refl).0)
              (noted_after d ds p some one is)
              (ap (λ l. l ++ lines_after o p) line_end_is ∙ ap (λ l. (d ∷ ds) ++ l) is)
              (put_line (head (d ∷ ds) (end.is_end [])) (EndPut.stands_so (noted_put_end p.after end)) again)
          at was (OwnCut.nothing nothing) none =
              let tail = (in_one_line was refl).0 in
              let value_is : closed_stretches o p.stretches ≡ (the_ended d ds p).stretches =
              ap (λ t. record (closed_stretches o p.stretches) { trailing_lines = t })
              (closed_tail o p.stretches ∙ tail)
              ∙ ap (λ (q : PairPiece). record q.stretches { trailing_lines = [] })
              (sym (closed_is o p tail nothing)) in
              let new = pair (closed_stretches o p.stretches) p.key p.value in
              let empty = subst (λ g. AreSpans o line_feed (xs ++ (the_pair ∷ gap g ∷ zs)) []) nothing h in
              let ended = subst (λ g. AreSpans o line_feed (xs ++ (new ∷ gap g ∷ zs)) [])
              (sym (append-nil (d ∷ ds))) (line_ended end xs zs p refl none empty) in
              let line_end_is : end_after o (d ∷ ds) p ≡ d ∷ ds =
              ap (λ t. end_for o (d ∷ ds) (line_end_at_end (front_of t (after_line_end (past_note o t)))))
              nothing
              ∙ ap (λ u. end_for o (d ∷ ds) (line_end_at_end (front_of [] (after_line_end u))))
              (past_nothing o)
              ∙ end_for_none o (d ∷ ds) in
              let lines_are : lines_after o p ≡ [] =
              ap (λ t. after_line_end (past_note o t)) nothing ∙ ap after_line_end (past_nothing o) in
              let put = right xs (new ∷ []) (gap (d ∷ ds) ∷ pair made key value ∷ gap ((d ∷ ds) ++ []) ∷ zs)
              (added_line refl made key value fits (xs ++ new ∷ []) zs (d ∷ ds) []
              (end_head (last_or line_feed (joined span_source (xs ++ new ∷ []))) (end.is_end []))
              (new_put_end end)
              (left xs (new ∷ []) (gap ((d ∷ ds) ++ []) ∷ zs) ended)) in
              whole value_is (empty_after d ds p nothing)
              (ap (λ l. l ++ lines_after o p) line_end_is ∙ ap (λ l. (d ∷ ds) ++ l) lines_are) put

          parts : AreSpans o b (the_pair ∷ gap p.after ∷ zs) []
              → AreSpans o line_feed
              (spans_with (the_ended d ds p).stretches (the_ended d ds p).after lines_put) []
          parts (AreInPlace.more (IsSpan.is_pair was) (AreInPlace.more (IsSpan.is_gap g) rest)) =
              let is = subst (IsPair o b p.stretches p.key p.value)
              (append_assoc p.after following []) was in
              at is (own_cut is refl g) (unmarked _ rest)

    -- and the sections
    pub put_after : {d : ℕ} {ds : Text} {ss : List SectionPiece} {s : Place SectionPiece} {i : ℕ}
        → IsNewEnd d ds → IsPlaceAt ss s i → (p : Place PairPiece)
        → s.here.pairs ≡ p.before ++ p.here ∷ p.after → AreSections o ss
        → AreSections o (exchanged s (pair_put_after o (d ∷ ds) make s.here p ∷ []))
    put_after {d} {ds} {s = s} end at p whole are =
        let lines = end_after o (d ∷ ds) p.here ++ lines_after o p.here in
        let xs = spans_before_pairs s p.before in
        let zs = spans_after_pairs s p.after in
        pairs_put_in o at p.before (p.here ∷ []) (the_ended d ds p.here ∷ make true lines [] ∷ []) p.after
        whole
        (λ h. subst₂ (λ k v. AreSpans o line_feed
        (xs ++ (pair (the_ended d ds p.here).stretches k v ∷ gap (the_ended d ds p.here).after
        ∷ pair made key value ∷ gap (lines ++ []) ∷ zs)) [])
        (sym (closed_same o p.here).0) (sym (closed_same o p.here).1)
        (subst (λ t. AreSpans o line_feed
        (xs ++ (pair (the_ended d ds p.here).stretches p.here.key p.here.value
        ∷ gap (the_ended d ds p.here).after
        ∷ pair made key value ∷ gap t ∷ zs)) []) (sym (append-nil lines))
        (spans_put_after end xs zs p.here (λ c rest. (next_pairs {c = c} at are p.after rest).unmarked) h)))
        are
