-- A pair put into a text in pieces where values are in one line: two spans more, after a line end.
use Rattle.std.proofs.Common.{◌≡◌, ◌≤◌, ◌∙◌, ◌&&◌, ◌||◌, ℕ, Bool, true, false, List, [], ◌∷◌, ◌++◌, ap}
use Rattle.std.proofs.Common.{append_assoc, append-nil, arith, length, refl, subst, sym, inl, inr}
use Rattle.std.proofs.lemmas.Bool.{and_parts, both_ways, cases_Bool, false≢true}
use Rattle.std.specs.List.{list_all}
use Rattle.ini_text.specs.Grammar.CharacterKinds.{BeginsWith, BeginsWithNo, carriage_return, is_blank}
use Rattle.ini_text.specs.Grammar.CharacterKinds.{is_comment_mark, is_line_end, is_line_feed, line_feed}
use Rattle.ini_text.specs.Grammar.Elements.{Element, Gap, may_have_note}
use Rattle.ini_text.specs.Grammar.Pieces.{ArePieces}
use Rattle.ini_text.specs.Grammar.Places.{Stretches, after_key_source, pair_source}
use Rattle.ini_text.specs.Grammar.Positions.{is_column_one, last_or, starts_line}
use Rattle.ini_text.specs.Grammar.Strings.{Closes, plain_ends}
use Rattle.ini_text.specs.Grammar.Values.{LineEnd}
use Rattle.ini_text.specs.Laws.PieceLaws.{BeginAlike}
use Rattle.ini_text.specs.declared.option.ParseOption.{ParseOption}
use Rattle.ini_text.proofs.GrammarLemmas.KindLemmas.{line_end_no_blank}
use Rattle.ini_text.proofs.LawLemmas.PieceLemmas.{last_or-append}
use Rattle.ini_text.proofs.PlainLemmas.PlainPairLemmas.{line_end_closes}
use Rattle.ini_text.proofs.PlainLemmas.PlainTrimLemmas.{line_end_is_white}
use Rattle.ini_text.proofs.ReaderLemmas.KeyReaderLemmas.{KeyFront-some}
use Rattle.ini.specs.Texts.{Text}
use Rattle.ini_edit.specs.Inside.InPlace.{AreInPlace}
use Rattle.ini_edit.specs.Inside.Spans.{AreSpans, IsGap, IsPair, IsSpan, Span, gap, pair, span_source}
use Rattle.ini_edit.specs.SourceEditsAdd.{notes_behind_return}
use Rattle.ini_edit.specs.Sources.{PairPiece, is_multiline, joined}
use Rattle.ini_edit.proofs.GapLemmas.{CommentPlace, gaps_joined, spans_place}
use Rattle.ini_edit.proofs.GapPartLemmas.{all_last}
use Rattle.ini_edit.proofs.InPlaceLemmas.{in_place-before, in_place-exchanged, in_place-join, in_place-put}
use Rattle.ini_edit.proofs.InPlaceLemmas.{in_place-split, joined-append}
use Rattle.ini_edit.proofs.ClosedPairLemmas.{closed_key, closed_stretches, key_closing, pair_closed}
use Rattle.ini_edit.proofs.LineCutLemmas.{LineHead, text_closes}
use Rattle.ini_edit.proofs.PairViewLemmas.{key_front_of, one_line, some_key}
use Rattle.ini_edit.proofs.SourceSetLemmas.{closed_agrees}
use Rattle.ini_edit.proofs.SpanLemmas.{spans_local}

-- A line end of a new line: LF, or CR LF.
pub record IsNewEnd (d : ℕ) (ds : Text) : Type 0 where
  pub all : list_all is_line_end (d ∷ ds) ≡ true
  pub feed : is_line_feed (last_or d ds) ≡ true
  pub is_end : (r : Text) → LineEnd (d ∷ ds) r

pub feed_end : IsNewEnd line_feed []
feed_end = record { all = refl; feed = refl; is_end = λ r. LineEnd.lf }

pub return_end : IsNewEnd carriage_return (line_feed ∷ [])
return_end = record { all = refl; feed = refl; is_end = λ r. LineEnd.cr_lf }

-- A line end of a new line after one that ends with e: as this ends, or with LF where no note can stand
-- behind CR.
pub record IsPutEnd (o : ParseOption) (e : Text) (d : ℕ) (ds : Text) : Type 0 where
  pub all : list_all is_line_end (d ∷ ds) ≡ true
  pub feed : notes_behind_return o ≡ false → is_line_feed (last_or d ds) ≡ true
  pub same : notes_behind_return o ≡ true → (c : ℕ)
      → is_line_feed (last_or c e) ≡ is_line_feed (last_or d ds)

pub new_put_end : {o : ParseOption} {d : ℕ} {ds : Text} → IsNewEnd d ds → IsPutEnd o (d ∷ ds) d ds
new_put_end end = record { all = end.all; feed = λ _. end.feed; same = λ _ c. refl }

-- where notes are off spans that begin with a mark stand in column one
notes_off : (o : ParseOption) (b : Text) → notes_behind_return o ≡ false → may_have_note o b ≡ false
notes_off o b h = at o.enabled_inline_comment o.enabled_indented_comment (starts_line b) h
  where
    at : (n i s : Bool) → (n || i && true) ≡ false → (n || i && s) ≡ false
    at true i s h = h
    at false true s h = absurd (false≢true (sym h))
    at false false s h = refl

pub spans_column_off : {o : ParseOption} {c : ℕ} {r : Text} → notes_behind_return o ≡ false
    → (xs : List Span) → AreSpans o c xs r → BeginsWith is_comment_mark (joined span_source xs)
    → is_column_one (c ∷ []) ≡ true
spans_column_off {o} {c} off xs h m = at (spans_place xs h m)
  where
    at : CommentPlace o (c ∷ []) → is_column_one (c ∷ []) ≡ true
    at (CommentPlace.column one) = one
    at (CommentPlace.alone may late) =
        absurd (both_ways (may_have_note o (c ∷ [])) (notes_off o (c ∷ []) off) may)

module _ {o : ParseOption} where
  -- line ends are a gap wherever they stand
  pub line_ends_gap : {c : ℕ} {r : Text} (e : Text) → list_all is_line_end e ≡ true → IsGap o c e r
  line_ends_gap [] h = record { pieces = []; whole = refl; nothing = refl; are = ArePieces.none }
  line_ends_gap {r = r} (d ∷ e) h =
      let parts = and_parts (is_line_end d) (list_all is_line_end e) h in
      let rest : IsGap o d e r = line_ends_gap e parts.1 in
      record {
        pieces = record { source = d ∷ []; gives = [] } ∷ rest.pieces;
        whole = ap (λ t. d ∷ t) rest.whole;
        nothing = rest.nothing;
        are = ArePieces.more
            (Element.gap (Gap.white (line_end_is_white d parts.0)
            (λ b. absurd (both_ways (is_blank d) (line_end_no_blank d parts.0) b))))
            rest.are;
      }

  -- Two spans put in where a line starts, and where what stands before stands before them.
  pub spans_put_in : (xs : List Span) (p : Stretches) (key value : Text) (d : ℕ) (ds : Text) (zs : List
      Span)
      → list_all is_line_end (d ∷ ds) ≡ true
      → (BeginsWith is_comment_mark (joined span_source zs)
      → is_line_feed (last_or line_feed (joined span_source xs)) ≡ is_line_feed (last_or d ds))
      → AreSpans o line_feed (xs ++ zs) []
      → AreSpans o line_feed xs ((pair_source p ++ ((d ∷ ds) ++ [])) ++ (joined span_source zs ++ []))
      → starts_line (last_or line_feed (joined span_source xs) ∷ []) ≡ true
      → IsPair o (last_or line_feed (joined span_source xs)) p key value
      (((d ∷ ds) ++ []) ++ (joined span_source zs ++ []))
      → AreSpans o line_feed (xs ++ (pair p key value ∷ gap (d ∷ ds) ∷ zs)) []
  spans_put_in xs p key value d ds zs all column h front start is =
      let c = last_or line_feed (joined span_source xs) in
      let last : last_or c (pair_source p ++ ((d ∷ ds) ++ [])) ≡ last_or d ds =
      last_or-append c (pair_source p) ((d ∷ ds) ++ [])
      ∙ ap (last_or (last_or c (pair_source p))) (append-nil (d ∷ ds)) in
      let starts : is_line_end (last_or c (pair_source p ++ ((d ∷ ds) ++ []))) ≡ true =
      ap is_line_end last ∙ all_last is_line_end d ds all in
      in_place-put span_source spans_local xs [] (pair p key value ∷ gap (d ∷ ds) ∷ []) zs h front
      (AreInPlace.more (IsSpan.is_pair is)
      (AreInPlace.more (IsSpan.is_gap (line_ends_gap (d ∷ ds) all)) AreInPlace.none))
      (record {
        line = λ _. start ∙ sym starts;
        column = λ m. column m ∙ sym (ap is_line_feed last);
        comment = λ _ _. start ∙ sym starts;
      })

  -- a gap's first line end, and a note before it, are a gap of their own
  pub gap_parted : (xs : List Span) (e b : Text) (zs : List Span)
      → LineHead o (last_or line_feed (joined span_source xs)) e b
      → AreSpans o line_feed (xs ++ (gap (e ++ b) ∷ zs)) []
      → AreSpans o line_feed (xs ++ (gap e ∷ gap b ∷ zs)) []
  gap_parted xs e b zs head h =
      let split = in_place-split span_source xs (gap (e ++ b) ∷ zs) h in
      at split.0 split.1
    where
      c : ℕ
      c = last_or line_feed (joined span_source xs)

      following : Text
      following = joined span_source zs

      at : AreSpans o line_feed xs (((e ++ b) ++ joined span_source zs) ++ [])
          → AreSpans o c (gap (e ++ b) ∷ zs) []
          → AreSpans o line_feed (xs ++ (gap e ∷ gap b ∷ zs)) []
      at front (AreInPlace.more (IsSpan.is_gap g) rest) =
          in_place-join span_source xs (gap e ∷ gap b ∷ zs)
          (subst (λ t. AreSpans o line_feed xs (t ++ [])) (append_assoc e b following) front)
          (AreInPlace.more (IsSpan.is_gap (head.is ((b ++ following) ++ [])))
          (AreInPlace.more (IsSpan.is_gap (head.rest (following ++ []) g))
          (subst (λ z. AreSpans o z zs []) (last_or-append c e b) rest)))

module _ {o : ParseOption} where
  pub left : {c : ℕ} {r : Text} (xs ys zs : List Span) → AreSpans o c (xs ++ (ys ++ zs)) r
      → AreSpans o c ((xs ++ ys) ++ zs) r
  left {c} {r} xs ys zs h = subst (λ l. AreSpans o c l r) (sym (append_assoc xs ys zs)) h

  pub right : {c : ℕ} {r : Text} (xs ys zs : List Span) → AreSpans o c ((xs ++ ys) ++ zs) r
      → AreSpans o c (xs ++ (ys ++ zs)) r
  right {c} {r} xs ys zs h = subst (λ l. AreSpans o c l r) (append_assoc xs ys zs) h

-- pairs begin alike whose keys do
pub sources_alike : {o : ParseOption} {c : ℕ} {p : Stretches} {key value r : Text}
    → IsPair o c p key value r → (q : Stretches) (k : Text) → q.key ≡ p.key ++ k → (a b x y : Text)
    → BeginAlike ((pair_source p ++ a) ++ x) ((pair_source q ++ b) ++ y)
sources_alike {p = p} is q k same a b x y =
    subst (λ i. BeginAlike ((pair_source p ++ a) ++ x) (((i ++ after_key_source q) ++ b) ++ y)) (sym same)
    (at p.key (KeyFront-some (key_front_of is) (some_key is)))
  where
    at : (j : Text) → 1 ≤ length j
        → BeginAlike (((j ++ after_key_source p) ++ a) ++ x) ((((j ++ k) ++ after_key_source q) ++ b) ++ y)
    at [] some = absurd (omega arith)
    at (c ∷ j) some = BeginAlike.character

pub ends_alike : {e r : Text} (a b x y : Text) → LineEnd e r → BeginAlike ((e ++ a) ++ x) ((e ++ b) ++ y)
ends_alike a b x y LineEnd.lf = BeginAlike.character
ends_alike a b x y LineEnd.cr_lf = BeginAlike.character
ends_alike a b x y (LineEnd.cr n) = BeginAlike.character

pub line_end_all : {e r : Text} → LineEnd e r → list_all is_line_end e ≡ true
line_end_all LineEnd.lf = refl
line_end_all LineEnd.cr_lf = refl
line_end_all (LineEnd.cr n) = refl

pub line_end_starts : {e r : Text} (c : ℕ) → LineEnd e r → starts_line (last_or c e ∷ []) ≡ true
line_end_starts c LineEnd.lf = refl
line_end_starts c LineEnd.cr_lf = refl
line_end_starts c (LineEnd.cr n) = refl

module _ {o : ParseOption} (off : o.enabled_indented_mutiline_value ≡ false) (q : Stretches)
    (key value : Text)
    (fits : (c : ℕ) (r : Text) → starts_line (c ∷ []) ≡ true → Closes plain_ends r
    → IsPair o c q key value r)
  where
    abbrev added : Span
    added = pair q key value

    -- a new line after a gap whose line ends
    pub added_line : {d : ℕ} {ds : Text} (ws : List Span) (zs : List Span) (e r : Text)
        → LineHead o (last_or line_feed (joined span_source ws)) e r → IsPutEnd o e d ds
        → AreSpans o line_feed (ws ++ (gap (e ++ r) ∷ zs)) []
        → AreSpans o line_feed (ws ++ (gap e ∷ added ∷ gap ((d ∷ ds) ++ r) ∷ zs)) []
    added_line {d} {ds} ws zs e r head end h =
        let vs = ws ++ gap e ∷ [] in
        let parted = gap_parted ws e r zs head h in
        let text = (pair_source q ++ ((d ∷ ds) ++ [])) ++ (joined span_source (gap r ∷ zs) ++ []) in
        let front : AreSpans o line_feed vs text =
        in_place-join span_source ws (gap e ∷ [])
        (in_place-before span_source spans_local (head.alike (r ++ joined span_source zs) [] [] text)
        (in_place-split span_source ws (gap e ∷ gap r ∷ zs) parted).0)
        (AreInPlace.more (IsSpan.is_gap (head.is text)) AreInPlace.none) in
        let last : last_or line_feed (joined span_source vs)
        ≡ last_or (last_or line_feed (joined span_source ws)) e =
        ap (last_or line_feed) (joined-append span_source ws (gap e ∷ []))
        ∙ last_or-append line_feed (joined span_source ws) (e ++ [])
        ∙ ap (last_or (last_or line_feed (joined span_source ws))) (append-nil e) in
        let starts : starts_line (last_or line_feed (joined span_source vs) ∷ []) ≡ true =
        ap (λ c. starts_line (c ∷ [])) last
        ∙ head.starts (last_or line_feed (joined span_source ws)) in
        let closes = line_end_closes d (and_parts (is_line_end d) (list_all is_line_end ds) end.all).0 in
        let there = left ws (gap e ∷ []) (gap r ∷ zs) parted in
        let column : BeginsWith is_comment_mark (joined span_source (gap r ∷ zs))
        → is_line_feed (last_or line_feed (joined span_source vs)) ≡ is_line_feed (last_or d ds) =
        λ mark. elim (cases_Bool (notes_behind_return o)) [
          | inl on ↦ ap is_line_feed last ∙ end.same on (last_or line_feed (joined span_source ws))
          | inr none ↦
              spans_column_off none (gap r ∷ zs) (in_place-split span_source vs (gap r ∷ zs) there).1 mark
              ∙ sym (end.feed none)
        ] in
        let put = spans_put_in vs q key value d ds (gap r ∷ zs) end.all column there front
        starts (fits _ _ starts closes) in
        right ws (gap e ∷ []) (added ∷ gap ((d ∷ ds) ++ r) ∷ zs)
        (right vs (added ∷ []) (gap ((d ∷ ds) ++ r) ∷ zs)
        (gaps_joined (vs ++ added ∷ []) (d ∷ ds) r zs
        (left vs (added ∷ []) (gap (d ∷ ds) ∷ gap r ∷ zs) put)))

-- a pair in one line that nothing follows with its line ended
pub line_ended : {o : ParseOption} {d : ℕ} {ds : Text} → IsNewEnd d ds → (xs zs : List Span) (p : PairPiece)
    → is_multiline o p ≡ false → BeginsWithNo is_comment_mark (joined span_source zs ++ [])
    → AreSpans o line_feed (xs ++ (pair p.stretches p.key p.value ∷ gap [] ∷ zs)) []
    → AreSpans o line_feed
    (xs ++ (pair (closed_stretches o p.stretches) p.key p.value ∷ gap (d ∷ ds) ∷ zs)) []
line_ended {o} {d} {ds} end xs zs p one unmarked h =
    at (in_place-split span_source xs (pair p.stretches p.key p.value ∷ gap [] ∷ zs) h).1
  where
    c : ℕ
    c = last_or line_feed (joined span_source xs)

    at : AreSpans o c (pair p.stretches p.key p.value ∷ gap [] ∷ zs) []
        → AreSpans o line_feed
        (xs ++ (pair (closed_stretches o p.stretches) p.key p.value ∷ gap (d ∷ ds) ∷ zs)) []
    at (AreInPlace.more (IsSpan.is_pair is) rest) =
        let following = joined span_source zs in
        let line = one_line is one in
        let closes : Closes plain_ends following =
        subst (Closes plain_ends) (append-nil following) (text_closes o (following ++ []) line.1 unmarked) in
        let first = line_end_closes d (and_parts (is_line_end d) (list_all is_line_end ds) end.all).0 in
        let new = closed_stretches o p.stretches in
        in_place-exchanged span_source spans_local xs (pair p.stretches p.key p.value ∷ gap [] ∷ [])
        (pair new p.key p.value ∷ gap (d ∷ ds) ∷ []) zs h
        (AreInPlace.more (IsSpan.is_pair (pair_closed is line.0 _ one first))
        (AreInPlace.more (IsSpan.is_gap (line_ends_gap (d ∷ ds) end.all)) AreInPlace.none))
        (sources_alike is new (key_closing o p.stretches) (closed_key o p.stretches) [] ((d ∷ ds) ++ [])
        (following ++ []) (following ++ []))
        (closed_agrees following closes)
