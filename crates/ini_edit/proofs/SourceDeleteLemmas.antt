-- A pair taken out of a text in pieces: what stays of the gap after it goes to the gap before it.
use Rattle.std.proofs.Common.{◌≡◌, ◌∙◌, ◌&&◌, ℕ, true, false, List, [], ◌∷◌, ◌++◌, ap, append_assoc}
use Rattle.std.proofs.Common.{append-nil, refl, subst, sym}
use Rattle.std.specs.Prelude.{is_some}
use Rattle.ini_text.specs.Grammar.CharacterKinds.{BeginsWith, BeginsWithNo, carriage_return, is_comment_mark}
use Rattle.ini_text.specs.Grammar.CharacterKinds.{is_line_end, is_line_feed, line_feed, space}
use Rattle.ini_text.specs.Grammar.Elements.{Element, Gap}
use Rattle.ini_text.specs.Grammar.Keys.{KeyFront}
use Rattle.ini_text.specs.Grammar.Places.{Stretches, after_key_source, pair_source}
use Rattle.ini_text.specs.Grammar.Positions.{last_or}
use Rattle.ini_text.specs.Grammar.Strings.{Closes, plain_ends}
use Rattle.ini_text.specs.Grammar.Values.{LineEnd}
use Rattle.ini_text.specs.Laws.PieceLaws.{Agree}
use Rattle.ini_text.specs.declared.option.ParseOption.{ParseOption}
use Rattle.ini_text.proofs.LawLemmas.LocalLemmas.{Agree-front}
use Rattle.ini_text.proofs.LawLemmas.PieceLemmas.{last_or-append}
use Rattle.ini_text.proofs.ReaderLemmas.LineReaderLemmas.{TextEnds}
use Rattle.ini.specs.Texts.{Text}
use Rattle.ini_edit.specs.Inside.InPlace.{AreInPlace}
use Rattle.ini_edit.specs.Inside.Spans.{AreSpans, IsGap, IsPair, IsSpan, Span, gap, pair, span_source}
use Rattle.ini_edit.specs.Sources.{joined}
use Rattle.ini_edit.proofs.GapLemmas.{gap_join, gap_like, gap_more, gaps_joined, no_gap}
use Rattle.ini_edit.proofs.InPlaceLemmas.{Agree-after, in_place-put, in_place-split}
use Rattle.ini_edit.proofs.LineCutLemmas.{LineHead, OwnCut, end_head, own_cut, text_closes}
use Rattle.ini_edit.proofs.PairViewLemmas.{key_front_of, one_line}
use Rattle.ini_edit.proofs.SourceSetLemmas.{closed_agrees, last_agrees}
use Rattle.ini_edit.proofs.SpanLemmas.{spans_local}

-- What stays of the gap b after a pair in one line, before x, where the pair is taken out after a text
-- whose last character is so. A note goes with the pair. Its line end stays; or what follows that does, if
-- a line starts there, and a comment that follows stays in its column; or a blank stands before it, where
-- CR alone is the line end and a line starts there.
pub data StaysOf (o : ParseOption) (last before : ℕ) (b x : Text) : Text → Type 0 where
  nothing : b ≡ [] → BeginsWithNo is_comment_mark x → StaysOf o last before b x []
  noted : Closes plain_ends (x ++ []) → StaysOf o last before b x []
  kept : {f e c : Text} → b ≡ f ++ c → LineHead o before f c → LineEnd e c
      → ((d : ℕ) → last_or d f ≡ last_or last e) → StaysOf o last before b x (e ++ c)
  after : {f c : Text} → b ≡ f ++ c → LineHead o before f c → is_line_end last ≡ true
      → (BeginsWith is_comment_mark (c ++ x) → (d : ℕ) → is_line_feed (last_or d f) ≡ is_line_feed last)
      → StaysOf o last before b x c
  blank : {f c : Text} → b ≡ f ++ c → LineHead o before f c → ((d : ℕ) → last_or d f ≡ carriage_return)
      → is_line_end last ≡ true → StaysOf o last before b x (space ∷ carriage_return ∷ c)

module _ (o : ParseOption) (last : ℕ) (p : Stretches)
    (off : (o.enabled_indented_mutiline_value && is_some p.separator) ≡ false) (key value b : Text)
    (zs : List Span) where
  abbrev following : Text
  following = joined span_source zs

  abbrev after_pair : ℕ
  after_pair = last_or last (pair_source p)

  -- what stays is a gap where the pair was, and what follows agrees
  record Stays (c : Text) : Type 0 where
    is : IsGap o last c (following ++ [])
    agrees : Agree o (last_or after_pair b ∷ []) (last_or last c ∷ []) following

  stays_closed : Closes plain_ends (following ++ []) → Stays []
  stays_closed closes = record {
    is = no_gap;
    agrees = closed_agrees following (subst (Closes plain_ends) (append-nil following) closes);
  }

  last_parted : (f c : Text) → b ≡ f ++ c → last_or after_pair b ≡ last_or (last_or after_pair f) c
  last_parted f c same = ap (last_or after_pair) same ∙ last_or-append after_pair f c

  cut_there : {f c : Text} → b ≡ f ++ c → LineHead o after_pair f c → IsGap o after_pair b (following ++ [])
      → IsGap o (last_or after_pair f) c (following ++ [])
  cut_there same head g =
      head.rest (following ++ []) (subst (λ t. IsGap o after_pair t (following ++ [])) same g)

  stays_after : {f c : Text} → b ≡ f ++ c → LineHead o after_pair f c → is_line_end last ≡ true
      → (BeginsWith is_comment_mark (c ++ following) → (d : ℕ)
      → is_line_feed (last_or d f) ≡ is_line_feed last)
      → IsGap o after_pair b (following ++ []) → Stays c
  stays_after {f} {c} same head line column g =
      let ended = last_or after_pair f in
      let agree : Agree o (ended ∷ []) (last ∷ []) (c ++ following) = record {
        line = λ m. head.starts after_pair ∙ sym line;
        column = λ m. column m after_pair;
        comment = λ _ m. head.starts after_pair ∙ sym line;
      } in
      record {
        is = gap_like (Agree-front following agree) (cut_there same head g);
        agrees = subst (λ z. Agree o (z ∷ []) (last_or last c ∷ []) following) (sym (last_parted f c same))
            (Agree-after c following agree);
      }

  stays_kept : {f e c : Text} → b ≡ f ++ c → LineHead o after_pair f c → LineEnd e c
      → ((d : ℕ) → last_or d f ≡ last_or last e) → IsGap o after_pair b (following ++ []) → Stays (e ++ c)
  stays_kept {f} {e} {c} same head end ends g =
      let there : LineHead o last e c = end_head last end in
      record {
        is = gap_join (there.is (c ++ (following ++ [])))
            (subst (λ z. IsGap o z c (following ++ [])) (ends after_pair) (cut_there same head g));
        agrees = last_agrees (last_parted f c same ∙ ap (λ z. last_or z c) (ends after_pair)
            ∙ sym (last_or-append last e c));
      }

  stays_blank : {f c : Text} → b ≡ f ++ c → LineHead o after_pair f c
      → ((d : ℕ) → last_or d f ≡ carriage_return) → is_line_end last ≡ true
      → IsGap o after_pair b (following ++ []) → Stays (space ∷ carriage_return ∷ c)
  stays_blank {f} {c} same head return line g =
      let cut : IsGap o carriage_return c (following ++ []) =
      subst (λ z. IsGap o z c (following ++ [])) (return after_pair) (cut_there same head g) in
      record {
        is = gap_more (Element.gap (Gap.blank_line {w = space ∷ []} carriage_return
            (record { at_line_start = line; some = refl; blank = refl }) refl)) cut;
        agrees = last_agrees (last_parted f c same ∙ ap (λ z. last_or z c) (return after_pair));
      }

  stays_put : {c : Text} → StaysOf o last after_pair b following c
      → IsPair o last p key value ((b ++ following) ++ []) → IsGap o after_pair b (following ++ []) → Stays c
  stays_put (StaysOf.nothing none unmarked) is g =
      let ends : TextEnds o (following ++ []) =
      subst (λ t. TextEnds o ((t ++ following) ++ [])) none (one_line is off).1 in
      stays_closed (text_closes o (following ++ []) ends
      (subst (BeginsWithNo is_comment_mark) (sym (append-nil following)) unmarked))
  stays_put (StaysOf.noted closes) is g = stays_closed closes
  stays_put (StaysOf.kept same head end ends) is g = stays_kept same head end ends g
  stays_put (StaysOf.after same head line column) is g = stays_after same head line column g
  stays_put (StaysOf.blank same head return line) is g = stays_blank same head return line g

-- what stands before a key stands before any text
abbrev pub StandsBefore : ParseOption → List Span → Type 0
StandsBefore o xs =
    (k r key x : Text) → KeyFront o (last_or line_feed (joined span_source xs) ∷ []) k r key
    → AreSpans o line_feed xs (k ++ r) → AreSpans o line_feed xs x

-- a pair and the gaps around it exchanged for one gap
module _ {o : ParseOption} (xs : List Span) (a b : Text) (p : Stretches) (key value : Text) (zs : List Span)
    (whole : AreSpans o line_feed (xs ++ (gap a ∷ pair p key value ∷ gap b ∷ zs)) []) where
  abbrev pub last_there : ℕ
  last_there = last_or line_feed (joined span_source (xs ++ gap a ∷ []))

  abbrev pub following_text : Text
  following_text = joined span_source zs

  in_two : AreSpans o line_feed ((xs ++ gap a ∷ []) ++ (pair p key value ∷ gap b ∷ zs)) []
  in_two = subst (λ l. AreSpans o line_feed l [])
      (sym (append_assoc xs (gap a ∷ []) (pair p key value ∷ gap b ∷ zs))) whole

  pub pair_and_rest : AreSpans o last_there (pair p key value ∷ gap b ∷ zs) []
  pair_and_rest =
      (in_place-split span_source (xs ++ gap a ∷ []) (pair p key value ∷ gap b ∷ zs) in_two).1

  key_there : AreSpans o last_there (pair p key value ∷ gap b ∷ zs) []
      → KeyFront o (last_there ∷ []) p.key (after_key_source p ++ ((b ++ following_text) ++ [])) key
  key_there (AreInPlace.more (IsSpan.is_pair is) later) = key_front_of is

  pub pair_to_gap : (c : Text) → StandsBefore o (xs ++ gap a ∷ [])
      → IsGap o last_there c (following_text ++ [])
      → Agree o (last_or (last_or last_there (pair_source p)) b ∷ [])
      (last_or last_there c ∷ []) following_text
      → AreSpans o line_feed (xs ++ (gap (a ++ c) ∷ zs)) []
  pair_to_gap c stands is agrees =
      let front = xs ++ gap a ∷ [] in
      let rest = joined span_source zs in
      let text : (pair_source p ++ (b ++ rest)) ++ []
      ≡ p.key ++ (after_key_source p ++ ((b ++ rest) ++ [])) =
      append_assoc (pair_source p) (b ++ rest) []
      ∙ append_assoc p.key (after_key_source p) ((b ++ rest) ++ []) in
      let before = (in_place-split span_source front (pair p key value ∷ gap b ∷ zs) in_two).0 in
      let ahead : AreSpans o line_feed front ((c ++ []) ++ (rest ++ [])) =
      stands p.key (after_key_source p ++ ((b ++ rest) ++ [])) key ((c ++ []) ++ (rest ++ []))
      (key_there pair_and_rest) (subst (AreSpans o line_feed front) text before) in
      let ends : Agree o (last_or last_there (pair_source p ++ (b ++ [])) ∷ [])
      (last_or last_there (c ++ []) ∷ [])
      rest =
      subst (λ z. Agree o (z ∷ []) (last_or last_there (c ++ []) ∷ []) rest)
      (sym (ap (λ t. last_or last_there (pair_source p ++ t)) (append-nil b)
      ∙ last_or-append last_there (pair_source p) b))
      (subst (λ z. Agree o (last_or (last_or last_there (pair_source p)) b ∷ []) (z ∷ []) rest)
      (sym (ap (last_or last_there) (append-nil c))) agrees) in
      gaps_joined xs a c zs
      (subst (λ l. AreSpans o line_feed l []) (append_assoc xs (gap a ∷ []) (gap c ∷ zs))
      (in_place-put span_source spans_local front (pair p key value ∷ gap b ∷ []) (gap c ∷ []) zs in_two
      ahead (AreInPlace.more (IsSpan.is_gap is) AreInPlace.none) ends))

-- where the pair is in one line
pub spans_deleted : {o : ParseOption} (xs : List Span) (a b : Text) (p : Stretches) (key value : Text)
    (zs : List Span) {c : Text}
    → (o.enabled_indented_mutiline_value && is_some p.separator) ≡ false
    → AreSpans o line_feed (xs ++ (gap a ∷ pair p key value ∷ gap b ∷ zs)) []
    → (OwnCut o (last_or (last_or line_feed (joined span_source (xs ++ gap a ∷ []))) (pair_source p)) b
    (joined span_source zs ++ [])
    → StaysOf o (last_or line_feed (joined span_source (xs ++ gap a ∷ [])))
    (last_or (last_or line_feed (joined span_source (xs ++ gap a ∷ []))) (pair_source p)) b
    (joined span_source zs) c)
    → StandsBefore o (xs ++ gap a ∷ []) → AreSpans o line_feed (xs ++ (gap (a ++ c) ∷ zs)) []
spans_deleted {o} xs a b p key value zs {c} off whole stays stands =
    at (pair_and_rest xs a b p key value zs whole)
  where
    at : AreSpans o (last_or line_feed (joined span_source (xs ++ gap a ∷ [])))
        (pair p key value ∷ gap b ∷ zs) []
        → AreSpans o line_feed (xs ++ (gap (a ++ c) ∷ zs)) []
    at (AreInPlace.more (IsSpan.is_pair is) (AreInPlace.more (IsSpan.is_gap g) later)) =
        let last = last_or line_feed (joined span_source (xs ++ gap a ∷ [])) in
        let there : IsPair o last p key value (b ++ (joined span_source zs ++ [])) =
        subst (IsPair o last p key value) (append_assoc b (joined span_source zs) []) is in
        let made = stays_put o last p off key value b zs (stays (own_cut there off g)) is g in
        pair_to_gap xs a b p key value zs whole c stands made.is made.agrees
