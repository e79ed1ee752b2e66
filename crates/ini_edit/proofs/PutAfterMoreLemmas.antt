-- A pair put directly after another in a text in pieces where values may be multiline: the blank lines after
-- that pair's own lines are the new pair's then.
use Rattle.std.proofs.Common.{◌≡◌, ◌≢◌, ◌==◌, ◌∙◌, ◌&&◌, ℕ, Bool, true, false, not, List, [], ◌∷◌, ◌++◌, ap}
use Rattle.std.proofs.Common.{append_assoc, append-nil, if◌then◌else◌, inl, inr, refl, subst, sym}
use Rattle.std.proofs.lemmas.Bool.{both_ways, cases_Bool, cond-false, cond-true, false≢true, or_left}
use Rattle.ini_text.specs.Grammar.CharacterKinds.{BeginsWith, BeginsWithNo, carriage_return, is_blank}
use Rattle.ini_text.specs.Grammar.CharacterKinds.{is_comment_mark, is_line_end, is_line_feed, line_feed}
use Rattle.ini_text.specs.Grammar.Places.{Stretches, TrailingLines, pair_source}
use Rattle.ini_text.specs.Grammar.Positions.{last_or, starts_line}
use Rattle.ini_text.specs.Grammar.Values.{MoreLines}
use Rattle.ini_text.specs.Laws.PieceLaws.{Agree}
use Rattle.ini_text.specs.Laws.Plain.{IsPlainKey}
use Rattle.ini_text.specs.Options.WriteOptions.{line_end}
use Rattle.ini_text.specs.Parsing.Fronts.{front_of}
use Rattle.ini_text.specs.declared.option.ParseOption.{ParseOption}
use Rattle.ini_text.specs.declared.write.option.LineSeparator.{LineSeparator}
use Rattle.ini_text.specs.declared.write.option.LineSeparator.TheVariants.{SystemDefault, CR, CRLF}
use Rattle.ini_text.specs.declared.write.policy.EscapePolicy.{EscapePolicy}
use Rattle.ini_text.proofs.LawLemmas.LocalLemmas.{Agree-front}
use Rattle.ini_text.proofs.LawLemmas.PieceLemmas.{last_or-append}
use Rattle.ini_text.proofs.StringLemmas.FrontLemmas.{front_is}
use Rattle.ini.specs.Texts.{Text}
use Rattle.ini_edit.specs.Inside.InPlace.{AreInPlace}
use Rattle.ini_edit.specs.Inside.SourceEnds.{IsPlaceAt}
use Rattle.ini_edit.specs.Inside.Spans.{AreSections, AreSpans, IsPair, IsSpan, IsValuePair, Span, gap, pair}
use Rattle.ini_edit.specs.Inside.Spans.{pairs_spans, span_source}
use Rattle.ini_edit.specs.Places.{Follows}
use Rattle.ini_edit.specs.SourceEditsAdd.{Maker, closed, end_after, ended_lines, made_after, pair_put_after}
use Rattle.ini_edit.specs.SourceEditsAdd.{with_line_ended}
use Rattle.ini_edit.specs.SourceEditsDelete.{gap_after, line_end_after, lines_after, own_lines}
use Rattle.ini_edit.specs.SourceEditsDelete.{would_be_taken}
use Rattle.ini_edit.specs.SourceLines.{LinePlace, ends_in_line, is_empty, line_end_at_end, quiet_lines_at_end}
use Rattle.ini_edit.specs.SourcePlaces.{Place, exchanged, with_end}
use Rattle.ini_edit.specs.SourceWritten.{Style, new_pair}
use Rattle.ini_edit.specs.Sources.{PairPiece, SectionPiece, has_separator, is_multiline, joined}
use Rattle.ini_edit.proofs.AheadLemmas.{value_follows}
use Rattle.ini_edit.proofs.BlankLineLemmas.{line_last, trailing_blank}
use Rattle.ini_edit.proofs.ClosedPairLemmas.{closed_is, closed_key, closed_stretches, key_closing, pair_ended}
use Rattle.ini_edit.proofs.ClosedPairLemmas.{stays_open}
use Rattle.ini_edit.proofs.DeletedLinesLemmas.{end_last, end_of, own_of}
use Rattle.ini_edit.proofs.GapLemmas.{gap_like, no_gap}
use Rattle.ini_edit.proofs.InPlaceLemmas.{Agree-after, in_place-exchanged, in_place-split}
use Rattle.ini_edit.proofs.NewEndLemmas.{IsEndMore, more_end, trailing_last, trailing_line_end, written_more}
use Rattle.ini_edit.proofs.NewPairLemmas.{IsPlainStyle, IsReadKey, IsSourceFor, new_pair_follows, new_pair_is}
use Rattle.ini_edit.proofs.NextPairLemmas.{next_pairs, taken}
use Rattle.ini_edit.proofs.PairEndLemmas.{gap_on, line_end_on, lines_on, no_line_end_on, own_on}
use Rattle.ini_edit.proofs.PairTailLemmas.{pair_retailed}
use Rattle.ini_edit.proofs.PairViewLemmas.{goes_on}
use Rattle.ini_edit.proofs.PutAfterLemmas.{end_for}
use Rattle.ini_edit.proofs.PutAfterLoneLemmas.{put_after_lone}
use Rattle.ini_edit.proofs.SourceAddLemmas.{left, sources_alike, spans_column_off}
use Rattle.ini_edit.proofs.SourceLineLemmas.{quiet_lines_at_end-rest}
use Rattle.ini_edit.proofs.SourcePartLemmas.{source_last}
use Rattle.ini_edit.proofs.SourceSpanLemmas.{pairs_put_in, spans_after_pairs, spans_before_pairs}
use Rattle.ini_edit.proofs.SpanLemmas.{spans_local}
use Rattle.ini_edit.proofs.ValueCutLemmas.{TrailingCut, trailing_cut}

-- the options with values that may be multiline
abbrev pub many_lines : ParseOption → ParseOption
many_lines o = record o { enabled_indented_mutiline_value = true }

end_feed : (sep : LineSeparator) (d : ℕ) → is_line_feed (last_or d (line_end sep)) ≡ true
end_feed SystemDefault d = refl
end_feed CR d = refl
end_feed CRLF d = refl

ends_same : (sep : LineSeparator) (d e : ℕ) → last_or d (line_end sep) ≡ last_or e (line_end sep)
ends_same SystemDefault d e = refl
ends_same CR d e = refl
ends_same CRLF d e = refl

feed_ends : (c : ℕ) → is_line_feed c ≡ true → is_line_end c ≡ true
feed_ends c h = or_left (is_line_feed c) (c == carriage_return) h

front_nothing : (s r : Text) → s ++ r ≡ [] → s ≡ []
front_nothing [] r h = refl
front_nothing (c ∷ s) r h = absurd (let no : c ∷ (s ++ r) ≡ [] = h in cc)

no_both : (test : ℕ → Bool) (x : Text) → BeginsWith test x → ¬ BeginsWithNo test x
no_both test [] h none = false≢true (sym h)
no_both test (c ∷ x) h none = both_ways (test c) none h

-- lines that end have a line end at their end
end_some : (o : ParseOption) (t : Text) → t ≢ [] → ends_in_line o t ≡ true
    → is_empty (line_end_at_end t) ≡ false
end_some o t some ends = at (line_end_at_end t) (end_last 0 0 t some last)
  where
    last : is_line_end (last_or 0 t) ≡ true
    last = line_last o LinePlace.within 0 t (λ h. absurd (false≢true h)) ends

    at : (e : Text) → last_or 0 e ≡ last_or 0 t → is_empty e ≡ false
    at [] same = absurd (false≢true (ap is_line_end same ∙ last))
    at (c ∷ e) same = refl

some_more : (t r : Text) → t ≢ [] → t ++ r ≢ []
some_more [] r some h = some refl
some_more (c ∷ t) r some h = cc

not_empty : (t : Text) → t ≢ [] → is_empty t ≡ false
not_empty [] some = absurd (some refl)
not_empty (c ∷ t) some = refl

module _ (o₀ : ParseOption) (sep : LineSeparator) where
  abbrev o : ParseOption
  o = many_lines o₀

  abbrev end : Text
  end = line_end sep

  -- the ended lines of a pair that goes on over lines, in each case
  module _ (p : PairPiece) (has : has_separator p ≡ true) where
    abbrev t : Text
    t = p.stretches.trailing_lines

    ended_with_lines : (own : Text) {line : Text} → own_lines o p ≡ own → line_end_after o p ≡ line
        → ended_lines o end p ≡ own ++ (if is_empty line then end else [])
    ended_with_lines own own_is line_is =
        ap (λ w. w ++ (if is_empty (line_end_after o p) then end else [])) own_is
        ∙ ap (λ l. own ++ (if is_empty l then end else [])) line_is

    stays_so : t ≢ [] → closed o p ≡ p
    stays_so some = stays_open o p (ap (λ b. b && is_empty p.after) (not_empty t some))

    cut_lines : (front : Text) → front ≢ [] → t ≡ front ++ quiet_lines_at_end o t
        → ends_in_line o front ≡ true
        → ended_lines o end p ≡ front
    cut_lines front some whole ends =
        let own : own_lines o p ≡ front =
        own_on o p has ∙ front_is front (quiet_lines_at_end o t) t (sym whole) in
        ended_with_lines front own (line_end_on o p has front (sym own) ends)
        ∙ ap (λ b. front ++ (if b then end else [])) (end_some o front some ends)
        ∙ append-nil front

    glued_lines : quiet_lines_at_end o t ≡ [] → ends_in_line o t ≡ false → ended_lines o end p ≡ t ++ end
    glued_lines none inside =
        let own : own_lines o p ≡ t =
        own_on o p has ∙ front_is t (quiet_lines_at_end o t) t (ap (λ b. t ++ b) none ∙ append-nil t) in
        ended_with_lines t own (no_line_end_on o p has t (sym own) inside)

    no_lines : t ≡ [] → ended_lines o end p ≡ end
    no_lines none =
        let own : own_lines o p ≡ [] =
        own_on o p has ∙ ap (λ z. front_of z (quiet_lines_at_end o z)) none in
        ended_with_lines [] own (no_line_end_on o p has [] (sym own) refl)

    -- the pair with its line ended, before what may follow it
    module _ {c : ℕ} {r : Text} (is : IsPair o c p.stretches p.key p.value r) (x : Text)
        (follows : Follows o x) where
      -- in each case a line starts after it
      pub record IsEnded : Type 0 where
        pub stretches : Stretches
        pub same : with_line_ended o end p
            ≡ record { stretches = stretches; key = p.key; value = p.value; after = [] }
        pub more : Text
        pub key : stretches.key ≡ p.stretches.key ++ more
        pub is_pair : IsPair o c stretches p.key p.value x
        pub starts : (d : ℕ) → is_line_end (last_or d stretches.trailing_lines) ≡ true

      ended_so : (s : Stretches) (lines more : Text) → closed o p ≡ record p { stretches = s }
          → ended_lines o end p ≡ lines → s.key ≡ p.stretches.key ++ more
          → IsPair o c (record s { trailing_lines = lines }) p.key p.value x
          → ((d : ℕ) → is_line_end (last_or d lines) ≡ true) → IsEnded
      ended_so s lines more closed_so lines_is key_is h starts = record {
        stretches = record s { trailing_lines = lines };
        same = cond-true (is_multiline o p) _ _ has
            ∙ ap (λ l. with_end l [] (closed o p)) lines_is ∙ ap (with_end lines []) closed_so;
        more = more;
        key = key_is;
        is_pair = h;
        starts = starts;
      }

      pub pair_line_ended : (r ≡ [] → p.after ≡ []) → IsEnded
      pair_line_ended nothing_after = at (trailing_cut refl value.are_trailing)
        where
          value : IsValuePair o c p.stretches p.key p.value r
          value = goes_on is has

          same_key : p.stretches.key ≡ p.stretches.key ++ []
          same_key = sym (append-nil p.stretches.key)

          at : TrailingCut o t r → IsEnded
          at (TrailingCut.cut front some whole ends are) =
              let b = quiet_lines_at_end o t in
              let there : t ≢ [] = λ none. some_more front b some (sym whole ∙ none) in
              ended_so p.stretches front [] (stays_so there) (cut_lines front some whole ends) same_key
              (pair_retailed refl there is (are x follows))
              (λ d. line_last o LinePlace.within d front (λ h. absurd (false≢true h)) ends)
          at (TrailingCut.unended some none empty inside are) =
              ended_so p.stretches (t ++ end) [] (stays_so some) (glued_lines none inside) same_key
              (pair_retailed refl some is (are sep x follows))
              (λ d. ap is_line_end (last_or-append d t end)
              ∙ feed_ends (last_or (last_or d t) end) (end_feed sep (last_or d t)))
          at (TrailingCut.nothing none empty) =
              ended_so (closed_stretches o p.stretches) end (key_closing o p.stretches)
              (closed_is o p none (nothing_after empty)) (no_lines none) (closed_key o p.stretches)
              (pair_ended value none sep x refl follows)
              (λ d. feed_ends (last_or d end) (end_feed sep d))

-- the pair that is put in
module _ (o₀ : ParseOption) (sep : LineSeparator) {policy : EscapePolicy} {key value source : Text}
    {style : Style}
    (plain : IsPlainKey (many_lines o₀) policy key) (read_back : IsReadKey (many_lines o₀) policy key)
    (is : IsPlainStyle (many_lines o₀) style) (given : IsSourceFor (many_lines o₀) source value) where
  abbrev make : Maker
  make indented lines rest =
      new_pair (many_lines o₀) policy style indented key value source lines rest

  abbrev o₁ : ParseOption
  o₁ = many_lines o₀

  module _ (xs zs : List Span) (p : PairPiece) (has : has_separator p ≡ true) where
    abbrev blank : Text
    blank = quiet_lines_at_end o₁ p.stretches.trailing_lines

    abbrev new_end : Text
    new_end = more_end o₁ (line_end sep) p.stretches.trailing_lines

    abbrev lines : Text
    lines = new_end ++ blank

    abbrev new : PairPiece
    new = make false lines p.after

    abbrev made : Stretches
    made = new.stretches

    abbrev shut : PairPiece
    shut = with_line_ended o₁ (line_end sep) p

    -- the last characters of both pairs
    last_made : {r : Text} → IsEndMore o₁ p.stretches.trailing_lines r new_end → (d : ℕ)
        → last_or d (pair_source made) ≡ last_or (last_or d new_end) blank
    last_made is_end d =
        sym (source_last d made) ∙ last_or-append _ new_end blank ∙ ap (λ e. last_or e blank)
        (is_end.same _ d)

    -- a line ends with the new pair's lines, where one does with the old pair's
    made_ends : {r : Text} → IsEndMore o₁ p.stretches.trailing_lines r new_end → (d e : ℕ) (b f : Text)
        → p.stretches.trailing_lines ≡ f ++ b → is_line_end (last_or d p.stretches.trailing_lines) ≡ true
        → is_line_end (last_or (last_or e new_end) b) ≡ true
    made_ends is_end d e [] f whole h = is_end.ends e
    made_ends is_end d e (x ∷ b) f whole h =
        sym (ap is_line_end (ap (last_or d) whole ∙ last_or-append d f (x ∷ b))) ∙ h

    spans_put_more : AreSpans o₁ line_feed (xs ++ (pair p.stretches p.key p.value ∷ gap p.after ∷ zs)) []
        → AreSpans o₁ line_feed (xs ++ (pairs_spans (shut ∷ new ∷ []) ++ zs)) []
    spans_put_more h =
        at (in_place-split span_source xs (pair p.stretches p.key p.value ∷ gap p.after ∷ zs) h).1
      where
        c : ℕ
        c = last_or line_feed (joined span_source xs)

        at : AreSpans o₁ c (pair p.stretches p.key p.value ∷ gap p.after ∷ zs) []
            → AreSpans o₁ line_feed (xs ++ (pairs_spans (shut ∷ new ∷ []) ++ zs)) []
        at (AreInPlace.more (IsSpan.is_pair was) (AreInPlace.more (IsSpan.is_gap g) rest)) =
            let z = joined span_source zs in
            let gap_text = p.after in
            let r = (gap_text ++ []) ++ (z ++ []) in
            let x = (pair_source made ++ (gap_text ++ [])) ++ (z ++ []) in
            let follows : Follows o₁ x =
            subst (Follows o₁) (sym (append_assoc (pair_source made) (gap_text ++ []) (z ++ [])))
            (new_pair_follows plain read_back is given lines gap_text r refl) in
            let value_pair = goes_on was has in
            let ended = pair_line_ended o₀ sep p has was x follows
            (λ e. front_nothing gap_text z (front_nothing (gap_text ++ z) [] e)) in
            let cs = last_or c (pair_source ended.stretches) in
            let cp = last_or c (pair_source p.stretches) in
            let cq = last_or cs (pair_source made) in
            let starts : starts_line (cs ∷ []) ≡ true =
            ap is_line_end (sym (source_last c ended.stretches)) ∙ ended.starts _ in
            let there = trailing_blank refl value_pair.are_trailing in
            let same : (gap_text ++ z) ++ [] ≡ r =
            append_assoc gap_text z [] ∙ ap (λ t. t ++ (z ++ [])) (sym (append-nil gap_text)) in
            let follow = value_follows refl value_pair.gives in
            let trailed : TrailingLines o₁ p.stretches.trailing_lines r =
            subst (TrailingLines o₁ p.stretches.trailing_lines) same value_pair.are_trailing in
            let is_end : IsEndMore o₁ p.stretches.trailing_lines r new_end =
            written_more refl trailed (subst (Follows o₁) same follow) sep (λ off mark d.
            ap is_line_feed (trailing_last refl trailed mark d _ ∙ source_last c p.stretches)
            ∙ spans_column_off off (gap gap_text ∷ zs) (AreInPlace.more (IsSpan.is_gap g) rest)
            (subst (BeginsWith is_comment_mark) (append-nil (gap_text ++ z))
            (subst (BeginsWith is_comment_mark) (sym same) mark))) in
            let trailing : TrailingLines o₁ lines r =
            TrailingLines.lines refl is_end.is_end
            (subst (λ y. MoreLines o₁ blank y there.value) same there.are) there.all in
            let made_is : IsPair o₁ cs made key value r =
            new_pair_is plain read_back is given false lines gap_text starts trailing in
            let mark_later : BeginsWith is_comment_mark (gap_text ++ z) → BeginsWith is_comment_mark r =
            λ m. subst (BeginsWith is_comment_mark) (sym (append-nil (gap_text ++ z)) ∙ same) m in
            let agree : Agree o₁ (cp ∷ []) (cq ∷ []) (gap_text ++ z) = record {
              line = λ b. absurd (no_both is_blank ((gap_text ++ z) ++ [])
                  (subst (BeginsWith is_blank) (sym (append-nil (gap_text ++ z))) b)
                  ((value_follows refl value_pair.gives).no_blank refl));
              column = λ m.
                  ap is_line_feed (sym (source_last c p.stretches))
                  ∙ sym (is_end.column (mark_later m) cs _) ∙ sym (ap is_line_feed (last_made is_end cs));
              comment = λ _ m.
                  let ends = trailing_line_end refl trailed (mark_later m) _ in
                  ap is_line_end (sym (source_last c p.stretches)) ∙ ends
                  ∙ sym (ap is_line_end (last_made is_end cs) ∙ made_ends is_end _ cs blank
                  (front_of p.stretches.trailing_lines blank)
                  (sym (quiet_lines_at_end-rest o₁ p.stretches.trailing_lines)) ends);
            } in
            subst (λ (a : PairPiece). AreSpans o₁ line_feed (xs ++ (pairs_spans (a ∷ new ∷ []) ++ zs)) [])
            (sym ended.same)
            (in_place-exchanged span_source spans_local xs
            (pair p.stretches p.key p.value ∷ gap gap_text ∷ [])
            (pair ended.stretches p.key p.value ∷ gap [] ∷ pair made key value ∷ gap gap_text ∷ []) zs h
            (AreInPlace.more (IsSpan.is_pair ended.is_pair)
            (AreInPlace.more (IsSpan.is_gap no_gap)
            (AreInPlace.more (IsSpan.is_pair made_is)
            (AreInPlace.more (IsSpan.is_gap (gap_like (Agree-front z agree) g)) AreInPlace.none))))
            (sources_alike was ended.stretches ended.more ended.key (gap_text ++ [])
            (pair_source made ++ (gap_text ++ [])) (z ++ []) (z ++ []))
            (subst (λ d. Agree o₁ (d ∷ []) (last_or c (pair_source ended.stretches
            ++ (pair_source made ++ (gap_text ++ []))) ∷ []) z)
            (sym (last_or-append c (pair_source p.stretches) (gap_text ++ [])
            ∙ ap (last_or cp) (append-nil gap_text)))
            (subst (λ d. Agree o₁ (last_or cp gap_text ∷ []) (d ∷ []) z)
            (sym (last_or-append c (pair_source ended.stretches) (pair_source made ++ (gap_text ++ []))
            ∙ last_or-append cs (pair_source made) (gap_text ++ [])
            ∙ ap (last_or cq) (append-nil gap_text)))
            (Agree-after gap_text z agree))))

    -- which are those of the pair that the new one is directly after
    made_is : (ps : List PairPiece) → made_after o₁ (line_end sep) make p ps ≡ new
    made_is ps =
        let t = p.stretches.trailing_lines in
        let end_is : line_end_after o₁ p ≡ end_of o₁ (own_of o₁ t) =
        ap (λ b. if b && not (ends_in_line o₁ (own_lines o₁ p)) then []
        else line_end_at_end (own_lines o₁ p)) has
        ∙ ap (end_of o₁) (own_on o₁ p has) in
        cond-false (would_be_taken o₁ p ps) _ _ (ap (λ b. not b && taken (gap_after o₁ p) ps) has)
        ∙ ap (λ l. make false (end_for o₁ (line_end sep) l ++ lines_after o₁ p) (gap_after o₁ p)) end_is
        ∙ ap (λ l. make false (new_end ++ l) (gap_after o₁ p)) (lines_on o₁ p has)
        ∙ ap (make false lines) (gap_on o₁ p has)

  -- and the sections
  pub put_after_more : {ss : List SectionPiece} {s : Place SectionPiece} {i : ℕ} → IsPlaceAt ss s i
      → (p : Place PairPiece) → s.here.pairs ≡ p.before ++ p.here ∷ p.after → AreSections (many_lines o₀) ss
      → AreSections (many_lines o₀)
      (exchanged s (pair_put_after (many_lines o₀) (line_end sep) make s.here p ∷ []))
  put_after_more {s = s} at p whole are =
      pairs_put_in (many_lines o₀) at p.before (p.here ∷ [])
      (with_line_ended o₁ (line_end sep) p.here ∷ made_after o₁ (line_end sep) make p.here p.after ∷ [])
      p.after whole put are
    where
      xs : List Span
      xs = spans_before_pairs s p.before

      zs : List Span
      zs = spans_after_pairs s p.after

      here : Span
      here = pair p.here.stretches p.here.key p.here.value

      put : AreSpans o₁ line_feed (spans_before_pairs s p.before
          ++ (pairs_spans (p.here ∷ []) ++ spans_after_pairs s p.after)) []
          → AreSpans o₁ line_feed (spans_before_pairs s p.before
          ++ (pairs_spans (with_line_ended o₁ (line_end sep) p.here
          ∷ made_after o₁ (line_end sep) make p.here p.after ∷ []) ++ spans_after_pairs s p.after)) []
      put h = elim (cases_Bool (has_separator p.here)) [
        | inl has ↦
            subst (λ (b : PairPiece). AreSpans o₁ line_feed (spans_before_pairs s p.before
            ++ (pairs_spans (with_line_ended o₁ (line_end sep) p.here ∷ b ∷ [])
            ++ spans_after_pairs s p.after)) [])
            (sym (made_is xs zs p.here has p.after)) (spans_put_more xs zs p.here has h)
        | inr lone ↦
            let later = in_place-split span_source (xs ++ (here ∷ gap p.here.after ∷ [])) zs
            (left xs (here ∷ gap p.here.after ∷ []) zs h) in
            put_after_lone o₀ sep plain read_back is given zs p.after (next_pairs at are p.after later.1) xs
            p.here lone h
      ]
