-- Gaps of a text in pieces: two that are one, one without its first line end, one of blanks and line ends,
-- and where a comment in one begins.
use Rattle.std.proofs.Common.{◌≡◌, ◌∙◌, ◌≤◌, ◌||◌, ℕ, Bool, true, false, List, [], ◌∷◌, ◌++◌, ap}
use Rattle.std.proofs.Common.{append_assoc, arith, inl, inr, length, refl, subst, sym}
use Rattle.std.proofs.lemmas.Bool.{and_parts, both_ways, cases_Bool, false≢true}
use Rattle.std.proofs.lemmas.List.Folds.{list_all-append}
use Rattle.std.specs.List.{list_all}
use Rattle.ini_text.specs.Grammar.CharacterKinds.{BeginsWith, is_blank, is_comment_mark}
use Rattle.ini_text.specs.Grammar.CharacterKinds.{is_line_end, line_feed, space}
use Rattle.ini_text.specs.Grammar.Elements.{Element, Gap, Given, may_have_note}
use Rattle.ini_text.specs.Grammar.Keys.{Indentation}
use Rattle.ini_text.specs.Grammar.Pieces.{ArePieces, Piece, pieces_items, pieces_text}
use Rattle.ini_text.specs.Grammar.Positions.{is_column_one, last_or, starts_line}
use Rattle.ini_text.specs.Grammar.Values.{LineEnd}
use Rattle.ini_text.specs.Laws.PieceLaws.{Agree}
use Rattle.ini_text.specs.declared.option.ParseOption.{ParseOption}
use Rattle.ini_text.proofs.GrammarLemmas.ItemLemmas.{element-some}
use Rattle.ini_text.proofs.GrammarLemmas.KindLemmas.{blank_is_white, line_end_no_blank}
use Rattle.ini_text.proofs.LawLemmas.PieceLemmas.{last_or-append, pieces_items-append, pieces_join}
use Rattle.ini_text.proofs.LawLemmas.PieceLemmas.{pieces_like, pieces_text-append}
use Rattle.ini_text.proofs.PlainLemmas.PlainTrimLemmas.{line_end_is_white}
use Rattle.ini.specs.Texts.{Text}
use Rattle.ini_edit.specs.Inside.InPlace.{AreInPlace}
use Rattle.ini_edit.specs.Inside.Spans.{AreSpans, IsGap, IsSpan, Span, gap, span_source}
use Rattle.ini_edit.specs.SourceLines.{is_blank_or_line_end}
use Rattle.ini_edit.specs.Sources.{joined}
use Rattle.ini_edit.proofs.CommentLemmas.{begins_front, is_comment}
use Rattle.ini_edit.proofs.InPlaceLemmas.{in_place-join, in_place-split}
use Rattle.ini_edit.proofs.QuietLemmas.{IsComment, QuietFront, as_quiet, line_end_no_mark, quiet_front}
use Rattle.ini_edit.proofs.SpanLemmas.{spans_elements}

-- where a comment begins: in column one, or where a note may stand
pub data CommentPlace (o : ParseOption) (b : Text) : Type 0 where
  column : is_column_one b ≡ true → CommentPlace o b
  alone : may_have_note o b ≡ true → is_column_one b ≡ false → CommentPlace o b

comment_place : {o : ParseOption} {b s r : Text} {gives : List Given} → IsComment o b s r gives
    → CommentPlace o b
comment_place (IsComment.whole s one mark all) = CommentPlace.column one
comment_place (IsComment.last one mark all) = CommentPlace.column one
comment_place (IsComment.alone may late remark) = CommentPlace.alone may late

pub pieces_place : {o : ParseOption} {c : ℕ} {r : Text} (ps : List Piece) → ArePieces o c ps r
    → BeginsWith is_comment_mark (pieces_text ps) → CommentPlace o (c ∷ [])
pieces_place [] ArePieces.none m = absurd (false≢true (sym m))
pieces_place {r = r} (p ∷ ps) (ArePieces.more e rest) m =
    comment_place (is_comment (subst (BeginsWith is_comment_mark) (append_assoc p.source (pieces_text ps) r)
    (begins_front is_comment_mark (p.source ++ pieces_text ps) r m)) e)

-- an element that gives nothing and begins with a line end is that character
no_blank_line : {X : Type 0} (w x : Text) → BeginsWith is_blank w → BeginsWith is_line_end (w ++ x) → X
no_blank_line [] x h m = absurd (false≢true (sym h))
no_blank_line (c ∷ w) x h m = absurd (both_ways (is_blank c) (line_end_no_blank c m) h)

pub line_end_element : {o : ParseOption} {b s r : Text} → QuietFront o b s r → BeginsWith is_line_end s
    → length s ≡ 1
line_end_element (QuietFront.blanks {w = w} t i) h = no_blank_line w t i.some h
line_end_element (QuietFront.white q n) h = omega arith
line_end_element (QuietFront.comment {m = m} mark is) h =
    absurd (both_ways (is_comment_mark m) (line_end_no_mark m h) mark)

pub empty_front : (xs ys : List Given) → xs ++ ys ≡ [] → (xs ≡ []) × (ys ≡ [])
empty_front [] ys h = (refl, h)
empty_front (x ∷ xs) ys h = absurd (let no : x ∷ (xs ++ ys) ≡ [] = h in cc)

module _ {o : ParseOption} where
  -- after another character
  pub gap_like : {c d : ℕ} {s r : Text} → Agree o (c ∷ []) (d ∷ []) s → IsGap o c s r → IsGap o d s r
  gap_like {c} {d} a h = record {
    pieces = h.pieces;
    whole = h.whole;
    nothing = h.nothing;
    are = pieces_like (subst (Agree o (c ∷ []) (d ∷ [])) h.whole a) h.are;
  }

  pub gap_join : {c : ℕ} {a b r : Text} → IsGap o c a (b ++ r) → IsGap o (last_or c a) b r
      → IsGap o c (a ++ b) r
  gap_join {c} {a} {b} {r} g h = record {
    pieces = g.pieces ++ h.pieces;
    whole = ap (λ t. t ++ b) g.whole ∙ ap (λ t. pieces_text g.pieces ++ t) h.whole
        ∙ sym (pieces_text-append g.pieces h.pieces);
    nothing = pieces_items-append g.pieces h.pieces ∙ ap (λ l. l ++ pieces_items h.pieces) g.nothing
        ∙ h.nothing;
    are = pieces_join g.pieces h.pieces (subst (λ t. ArePieces o c g.pieces (t ++ r)) h.whole g.are)
        (subst (λ t. ArePieces o (last_or c t) h.pieces r) g.whole h.are);
  }

  -- without the line end that begins it
  gap_cut_one : {c d : ℕ} {b r : Text} → is_line_end d ≡ true → IsGap o c (d ∷ b) r → IsGap o d b r
  gap_cut_one {c} {d} {b} {r} end h = at h.pieces h.whole h.nothing h.are
    where
      at : (ps : List Piece) → d ∷ b ≡ pieces_text ps → pieces_items ps ≡ [] → ArePieces o c ps r
          → IsGap o d b r
      at [] whole none are = absurd (let no : d ∷ b ≡ [] = whole in cc)
      at (p ∷ ps) whole none (ArePieces.more e rest) =
          first p.source refl whole (element-some e)
          (line_end_element (quiet_front (as_quiet e (empty_front p.gives (pieces_items ps) none).0)))
        where
          first : (s : Text) → p.source ≡ s → d ∷ b ≡ s ++ pieces_text ps → 1 ≤ length s
              → (BeginsWith is_line_end p.source → length p.source ≡ 1) → IsGap o d b r
          first [] is whole some one = absurd (omega arith)
          first (x ∷ s) is whole some one =
              let same : d ≡ x = cc in
              let begins : BeginsWith is_line_end p.source =
              subst (BeginsWith is_line_end) (sym is) (subst (λ z. is_line_end z ≡ true) same end) in
              last s is (ap length (sym is) ∙ one begins) same (let t : b ≡ s ++ pieces_text ps = cc in t)
            where
              last : (s : Text) → p.source ≡ x ∷ s → length (x ∷ s) ≡ 1 → d ≡ x → b ≡ s ++ pieces_text ps
                  → IsGap o d b r
              last [] is one same text = record {
                pieces = ps;
                whole = text;
                nothing = (empty_front p.gives (pieces_items ps) none).1;
                are = subst (λ z. ArePieces o z ps r) (ap (last_or c) is ∙ sym same) rest;
              }
              last (y ∷ s) is one same text = absurd (omega arith)

  pub gap_cut : {c : ℕ} {e b x r : Text} → LineEnd e x → IsGap o c (e ++ b) r → IsGap o (last_or c e) b r
  gap_cut LineEnd.lf h = gap_cut_one refl h
  gap_cut LineEnd.cr_lf h = gap_cut_one refl (gap_cut_one refl h)
  gap_cut (LineEnd.cr n) h = gap_cut_one refl h

  -- two gaps are one
  pub gaps_joined : {c : ℕ} {r : Text} (xs : List Span) (a b : Text) (zs : List Span)
      → AreSpans o c (xs ++ (gap a ∷ gap b ∷ zs)) r → AreSpans o c (xs ++ (gap (a ++ b) ∷ zs)) r
  gaps_joined {c} {r} xs a b zs h =
      let split = in_place-split span_source xs (gap a ∷ gap b ∷ zs) h in
      at split.0 split.1
    where
      following : Text
      following = joined span_source zs

      at : AreSpans o c xs ((a ++ (b ++ joined span_source zs)) ++ r)
          → AreSpans o (last_or c (joined span_source xs)) (gap a ∷ gap b ∷ zs) r
          → AreSpans o c (xs ++ (gap (a ++ b) ∷ zs)) r
      at front (AreInPlace.more (IsSpan.is_gap g) (AreInPlace.more (IsSpan.is_gap h) rest)) =
          let d = last_or c (joined span_source xs) in
          in_place-join span_source xs (gap (a ++ b) ∷ zs)
          (subst (λ t. AreSpans o c xs (t ++ r)) (sym (append_assoc a b following)) front)
          (AreInPlace.more
          (IsSpan.is_gap (gap_join (subst (IsGap o d a) (append_assoc b following r) g) h))
          (subst (λ z. AreSpans o z zs r) (sym (last_or-append d a b)) rest))

  pub spans_place : {c : ℕ} {r : Text} (xs : List Span) → AreSpans o c xs r
      → BeginsWith is_comment_mark (joined span_source xs) → CommentPlace o (c ∷ [])
  spans_place xs h m =
      let all = spans_elements h in
      pieces_place all.pieces all.are (subst (BeginsWith is_comment_mark) all.text m)

-- the text ends, or a line does
pub data EndsThere (r : Text) (last : ℕ) : Type 0 where
  text : r ≡ [] → EndsThere r last
  line : is_line_end last ≡ true → EndsThere r last

pub ends_later : {r : Text} {c d : ℕ} → (is_line_end c ≡ true → is_line_end d ≡ true) → EndsThere r c
    → EndsThere r d
ends_later next (EndsThere.text is) = EndsThere.text is
ends_later next (EndsThere.line end) = EndsThere.line (next end)

pub after_line : (e : ℕ) (t : Text) → is_line_end (last_or e t) ≡ true
    → is_line_end (last_or line_feed t) ≡ true
after_line e [] h = refl
after_line e (x ∷ t) h = h

pub after_blank : (e : ℕ) (t : Text) → is_line_end e ≡ false → is_line_end (last_or e t) ≡ true
    → is_line_end (last_or space t) ≡ true
after_blank e [] other h = absurd (both_ways (is_line_end e) other h)
after_blank e (x ∷ t) other h = h

is_other : (x y : Bool) → (x || y) ≡ true → y ≡ false → x ≡ true
is_other true y h n = refl
is_other false y h n = absurd (both_ways y n h)

-- blanks with which a line begins wait for what follows them
data Waits (c : ℕ) : Text → ℕ → Type 0 where
  start : Waits c [] line_feed
  blanks : {w : Text} → Indentation (c ∷ []) w → Waits c w space

pub one_more : {c : ℕ} {w : Text} (d : ℕ) → Indentation (c ∷ []) w → is_blank d ≡ true
    → Indentation (c ∷ []) (w ++ d ∷ [])
one_more {w = w} d i blank = record {
  at_line_start = i.at_line_start;
  some = begins_front is_blank w (d ∷ []) i.some;
  blank = rw (list_all-append is_blank w (d ∷ []), i.blank, blank) refl;
}

module _ {o : ParseOption} where
  pub no_gap : {c : ℕ} {r : Text} → IsGap o c [] r
  no_gap = record { pieces = []; whole = refl; nothing = refl; are = ArePieces.none }

  -- an element before a gap
  pub gap_more : {c : ℕ} {s t r : Text} → Element o (c ∷ []) s (t ++ r) [] → IsGap o (last_or c s) t r
      → IsGap o c (s ++ t) r
  gap_more {c} {s} {t} {r} e g = record {
    pieces = record { source = s; gives = [] } ∷ g.pieces;
    whole = ap (λ z. s ++ z) g.whole;
    nothing = g.nothing;
    are = ArePieces.more (subst (λ z. Element o (c ∷ []) s (z ++ r) []) g.whole e) g.are;
  }

  white_from : {c d : ℕ} {w r : Text} → Waits c w d → (t : Text)
      → list_all is_blank_or_line_end t ≡ true → EndsThere r (last_or d t) → IsGap o c (w ++ t) r
  white_from Waits.start [] all ends = no_gap
  white_from {c} {w = w} (Waits.blanks i) [] all (EndsThere.text is) =
      subst (IsGap o c (w ++ [])) (sym is) (gap_more (Element.dropped_blanks i) no_gap)
  white_from (Waits.blanks i) [] all (EndsThere.line end) = absurd (false≢true end)
  white_from {c} {r = r} Waits.start (e ∷ t) all ends =
      let parts = and_parts (is_blank_or_line_end e) (list_all is_blank_or_line_end t) all in
      elim (cases_Bool (is_line_end e)) [
        | inl end ↦
            gap_more (Element.gap (Gap.white (line_end_is_white e end)
            (λ blank. absurd (both_ways (is_blank e) (line_end_no_blank e end) blank))))
            (white_from {c = e} Waits.start t parts.1 (ends_later (after_line e t) ends))
        | inr other ↦
            let blank = is_other (is_blank e) (is_line_end e) parts.0 other in
            elim (cases_Bool (starts_line (c ∷ []))) [
              | inl starts ↦
                  white_from {c = c} {w = e ∷ []} (Waits.blanks
                  (record { at_line_start = starts; some = blank; blank = rw blank refl })) t parts.1
                  (ends_later (after_blank e t other) ends)
              | inr within ↦
                  gap_more (Element.gap (Gap.white (blank_is_white e blank) (λ _. within)))
                  (white_from {c = e} Waits.start t parts.1 (ends_later (after_line e t) ends))
            ]
      ]
  white_from {c} {w = w} {r = r} (Waits.blanks i) (e ∷ t) all ends =
      let parts = and_parts (is_blank_or_line_end e) (list_all is_blank_or_line_end t) all in
      subst (λ z. IsGap o c z r) (append_assoc w (e ∷ []) t)
      (elim (cases_Bool (is_line_end e)) [
        | inl end ↦
            gap_more (Element.gap (Gap.blank_line e i end))
            (white_from {c = last_or c (w ++ e ∷ [])} Waits.start t parts.1
            (ends_later (after_line e t) ends))
        | inr other ↦
            white_from {c = c}
            (Waits.blanks (one_more e i (is_other (is_blank e) (is_line_end e) parts.0 other)))
            t parts.1
            (ends_later (after_blank e t other) ends)
      ])

  -- blanks and line ends are a gap
  pub white_gap : {c : ℕ} {r : Text} (t : Text) → list_all is_blank_or_line_end t ≡ true
      → EndsThere r (last_or line_feed t) → IsGap o c t r
  white_gap t all ends = white_from Waits.start t all ends
