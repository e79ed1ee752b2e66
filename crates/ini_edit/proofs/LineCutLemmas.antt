-- What follows a pair in one line cut behind its line end, behind which a note may stand.
use Rattle.std.proofs.Common.{◌≡◌, ◌∙◌, ◌&&◌, ◌==◌, ℕ, Bool, true, false, not, List, [], ◌∷◌, ◌++◌, ap}
use Rattle.std.proofs.Common.{append_assoc, append-nil, arith, eqb-true, if◌then◌else◌, inl, inr, length}
use Rattle.std.proofs.Common.{refl, subst, sym}
use Rattle.std.proofs.lemmas.Bool.{and_from, and_left, and_parts, and_right, both_ways, cases_Bool}
use Rattle.std.proofs.lemmas.Bool.{cond-false, cond-true, false_from_ne_true, false≢true, not-true, or_cases}
use Rattle.std.proofs.lemmas.Bool.{or_from, or_left}
use Rattle.std.specs.List.{list_all}
use Rattle.std.specs.Prelude.{is_some}
use Rattle.ini_text.specs.Grammar.CharacterKinds.{BeginsWith, BeginsWithNo, begins, carriage_return, hash}
use Rattle.ini_text.specs.Grammar.CharacterKinds.{is_blank, is_comment_mark, is_line_end, is_line_feed}
use Rattle.ini_text.specs.Grammar.CharacterKinds.{line_feed, semicolon}
use Rattle.ini_text.specs.Grammar.Elements.{Element, Given, may_have_note}
use Rattle.ini_text.specs.Grammar.Lines.{Note}
use Rattle.ini_text.specs.Grammar.Pieces.{ArePieces, Piece, pieces_items, pieces_text}
use Rattle.ini_text.specs.Grammar.Places.{Stretches, TrailingLines, pair_source, separator_text, value_source}
use Rattle.ini_text.specs.Grammar.Positions.{last_or}
use Rattle.ini_text.specs.Grammar.Strings.{Closes, is_endpoint, key_ends, noted_key_ends, plain_ends}
use Rattle.ini_text.specs.Grammar.Values.{LineEnd}
use Rattle.ini_text.specs.Inside.LineReader.{past_note}
use Rattle.ini_text.specs.Inside.Scans.{is_line_part, run_of, skipped}
use Rattle.ini_text.specs.Laws.PieceLaws.{BeginAlike}
use Rattle.ini_text.specs.declared.option.LoneLine.TheVariants.{Key}
use Rattle.ini_text.specs.declared.option.ParseOption.{ParseOption}
use Rattle.ini_text.proofs.LawLemmas.PieceLemmas.{last_or-append}
use Rattle.ini_text.proofs.ReaderLemmas.LineReaderLemmas.{TextEnds}
use Rattle.ini_text.proofs.ReaderLemmas.NoteLemmas.{closed_part, closes_part}
use Rattle.ini_text.proofs.ReaderLemmas.RunReaderLemmas.{run-finds, run-sound}
use Rattle.ini.specs.Texts.{Text}
use Rattle.ini_edit.specs.Inside.Spans.{IsGap, IsPair}
use Rattle.ini_edit.specs.SourceLines.{after_line_end, after_line_feed, is_blank_or_line_end, is_empty}
use Rattle.ini_edit.specs.SourceLines.{is_one_line_end, line_end_at_end}
use Rattle.ini_edit.proofs.AheadLemmas.{NoNoteAfter, StrEnds, ends_closed, key_ends_so}
use Rattle.ini_edit.proofs.CommentLemmas.{is_comment}
use Rattle.ini_edit.proofs.GapLemmas.{EndsThere, empty_front, gap_cut, gap_more, white_gap}
use Rattle.ini_edit.proofs.PairViewLemmas.{closes_line, lone_ends}
use Rattle.ini_edit.proofs.QuietLemmas.{IsComment, line_end_no_mark, mark_no_end}
use Rattle.ini_edit.proofs.SourceLineLemmas.{after_line_feed-rest, rest_le}
use Rattle.ini_edit.proofs.ValueLemmas.{closes_line_end}

-- it is cut after the line end, or has none there
pub data LineCut (b : Text) : Type 0 where
  uncut : after_line_end b ≡ b → LineCut b
  cut : (e c : Text) → b ≡ e ++ c → LineEnd e c → line_end_at_end e ≡ e → after_line_end b ≡ c → LineCut b

cut_return : (cs : Text) → LineCut (carriage_return ∷ cs)
cut_return [] = LineCut.cut (carriage_return ∷ []) [] refl (LineEnd.cr tt) refl refl
cut_return (d ∷ cs) = elim (cases_Bool (is_line_feed d)) [
  | inl feed ↦
      subst (λ x. LineCut (carriage_return ∷ x ∷ cs)) (sym (eqb-true d line_feed feed))
      (LineCut.cut (carriage_return ∷ line_feed ∷ []) cs refl LineEnd.cr_lf refl refl)
  | inr other ↦
      LineCut.cut (carriage_return ∷ []) (d ∷ cs) refl (LineEnd.cr other) refl
      (cond-false (is_line_feed d) cs (d ∷ cs) other)
]

pub line_cut : (b : Text) → LineCut b
line_cut [] = LineCut.uncut refl
line_cut (c ∷ cs) = elim (cases_Bool (is_line_feed c)) [
  | inl feed ↦
      subst (λ x. LineCut (x ∷ cs)) (sym (eqb-true c line_feed feed))
      (LineCut.cut (line_feed ∷ []) cs refl LineEnd.lf refl refl)
  | inr other ↦ elim (cases_Bool (c == carriage_return)) [
    | inl carriage ↦ subst (λ x. LineCut (x ∷ cs)) (sym (eqb-true c carriage_return carriage))
        (cut_return cs)
    | inr inner ↦
        LineCut.uncut (cond-false (is_line_feed c) cs _ other
        ∙ cond-false (c == carriage_return) (after_line_feed cs) (c ∷ cs) inner)
  ]
]

-- a line end's last character is the same after all texts, and ends a line
pub last_of_end : {e x : Text} (c d : ℕ) → LineEnd e x → last_or c e ≡ last_or d e
last_of_end c d LineEnd.lf = refl
last_of_end c d LineEnd.cr_lf = refl
last_of_end c d (LineEnd.cr n) = refl

pub end_ends_line : {e x : Text} (c : ℕ) → LineEnd e x → is_line_end (last_or c e) ≡ true
end_ends_line c LineEnd.lf = refl
end_ends_line c LineEnd.cr_lf = refl
end_ends_line c (LineEnd.cr n) = refl

end_alike : {e r : Text} (a b x y : Text) → LineEnd e r → BeginAlike ((e ++ a) ++ x) ((e ++ b) ++ y)
end_alike a b x y LineEnd.lf = BeginAlike.character
end_alike a b x y LineEnd.cr_lf = BeginAlike.character
end_alike a b x y (LineEnd.cr n) = BeginAlike.character

end_white : {e r : Text} → LineEnd e r → list_all is_blank_or_line_end e ≡ true
end_white LineEnd.lf = refl
end_white LineEnd.cr_lf = refl
end_white (LineEnd.cr n) = refl

end_part : {e r : Text} (x : Text) → LineEnd e r → BeginsWithNo is_line_part (e ++ x)
end_part x LineEnd.lf = refl
end_part x LineEnd.cr_lf = refl
end_part x (LineEnd.cr n) = refl

-- nothing is cut only where nothing stands
pub uncut_empty : (b x : Text) → after_line_end b ≡ b → Closes plain_ends (b ++ x) → b ≡ []
uncut_empty [] x same closes = refl
uncut_empty (c ∷ cs) x same closes = absurd (at (is_line_feed c) (c == carriage_return) refl refl same)
  where
    at : (x y : Bool) → is_line_feed c ≡ x → (c == carriage_return) ≡ y
        → (if x then cs else (if y then after_line_feed cs else c ∷ cs)) ≡ c ∷ cs → ⊥
    at true y is was same = omega (arith, ap length same)
    at false true is was same =
        omega (arith, ap length same, rest_le cs (after_line_feed cs) (after_line_feed-rest cs))
    at false false is was same =
        let end : is_line_end c ≡ false = or_from (is_line_feed c) (c == carriage_return) is was in
        both_ways (is_line_end c) end (closes_line_end c closes)

-- The rest of a line, up to its line end, perhaps with a note, after the character c: it stands before any
-- text, and the rest r of a gap follows it.
pub record LineHead (o : ParseOption) (c : ℕ) (f r : Text) : Type 0 where
  pub is : (x : Text) → IsGap o c f x
  pub rest : (y : Text) → IsGap o c (f ++ r) y → IsGap o (last_or c f) r y
  pub starts : (d : ℕ) → is_line_end (last_or d f) ≡ true
  pub alike : (a b x y : Text) → BeginAlike ((f ++ a) ++ x) ((f ++ b) ++ y)

pub end_head : {o : ParseOption} (c : ℕ) {e r : Text} → LineEnd e r → LineHead o c e r
end_head c {e} le = record {
  is = λ x. white_gap e (end_white le) (EndsThere.line (end_ends_line line_feed le));
  rest = λ y g. gap_cut le g;
  starts = λ d. end_ends_line d le;
  alike = λ a b x y. end_alike a b x y le;
}

-- two texts that are the same up to their line's end
run_same : (s u t v : Text) → s ++ u ≡ t ++ v → list_all is_line_part s ≡ true
    → list_all is_line_part t ≡ true → BeginsWithNo is_line_part u → BeginsWithNo is_line_part v
    → (s ≡ t) × (u ≡ v)
run_same [] u [] v same all also no_u no_v = (refl, same)
run_same [] u (x ∷ t) v same all also no_u no_v =
    absurd (both_ways (is_line_part x) (subst (BeginsWithNo is_line_part) same no_u)
    (and_parts (is_line_part x) (list_all is_line_part t) also).0)
run_same (x ∷ s) u [] v same all also no_u no_v =
    absurd (both_ways (is_line_part x) (subst (BeginsWithNo is_line_part) (sym same) no_v)
    (and_parts (is_line_part x) (list_all is_line_part s) all).0)
run_same (x ∷ s) u (y ∷ t) v same all also no_u no_v =
    let first : x ≡ y = cc in
    let later : s ++ u ≡ t ++ v = cc in
    let rest = run_same s u t v later (and_parts (is_line_part x) (list_all is_line_part s) all).1
    (and_parts (is_line_part y) (list_all is_line_part t) also).1 no_u no_v in
    (ap (λ z. z ∷ s) first ∙ ap (λ z. y ∷ z) rest.0, rest.1)

front_part : (v y : Text) → BeginsWithNo is_line_part (v ++ y) → BeginsWithNo is_line_part v
front_part [] y h = tt
front_part (c ∷ v) y h = h

-- a note and the rest of a gap
pub record NoteCut (o : ParseOption) (m : ℕ) (s u y : Text) : Type 0 where
  pub closes : Closes plain_ends (u ++ y)
  pub rest : IsGap o (last_or m s) u y

module _ {o : ParseOption} where
  pub note_gone : {c m : ℕ} {s u y : Text} → is_line_feed c ≡ false → is_comment_mark m ≡ true
      → list_all is_line_part s ≡ true → BeginsWithNo is_line_part u → IsGap o c (m ∷ (s ++ u)) y
      → NoteCut o m s u y
  note_gone {c} {m} {s} {u} {y} late mark all ends h = at h.pieces h.whole h.nothing h.are
    where
      at : (ps : List Piece) → m ∷ (s ++ u) ≡ pieces_text ps → pieces_items ps ≡ [] → ArePieces o c ps y
          → NoteCut o m s u y
      at [] whole none are = absurd (let no : m ∷ (s ++ u) ≡ [] = whole in cc)
      at (p ∷ ps) whole none (ArePieces.more e rest) =
          over (is_comment marked e) refl refl rest
        where
          marked : BeginsWith is_comment_mark (p.source ++ (pieces_text ps ++ y))
          marked = subst (BeginsWith is_comment_mark)
              (ap (λ t. t ++ y) whole ∙ append_assoc p.source (pieces_text ps) y) mark

          over : {t z : Text} {gives : List Given} → IsComment o (c ∷ []) t z gives → p.source ≡ t
              → z ≡ pieces_text ps ++ y → ArePieces o (last_or c p.source) ps y → NoteCut o m s u y
          over (IsComment.whole t one other none) is follows later =
              absurd (both_ways (is_line_feed c) late one)
          over (IsComment.last one other none) is follows later =
              absurd (both_ways (is_line_feed c) late one)
          over (IsComment.alone may apart (Note.note {m = n} {s = t} other within closes)) is follows later =
              let there = subst (Closes plain_ends) follows closes in
              let both : m ∷ (s ++ u) ≡ n ∷ (t ++ pieces_text ps) =
              whole ∙ ap (λ t. t ++ pieces_text ps) is in
              let first : m ≡ n = cc in
              let text : s ++ u ≡ t ++ pieces_text ps = cc in
              let same = run_same s u t (pieces_text ps) text all within ends
              (front_part (pieces_text ps) y (closed_part (pieces_text ps ++ y) there)) in
              let last : last_or c p.source ≡ last_or m s =
              ap (last_or c) is ∙ ap (λ z. last_or z t) (sym first) ∙ ap (last_or m) (sym same.0) in
              record {
                closes = subst (λ t. Closes plain_ends (t ++ y)) (sym same.1) there;
                rest = record {
                  pieces = ps;
                  whole = same.1;
                  nothing = (empty_front p.gives (pieces_items ps) none).1;
                  are = subst (λ z. ArePieces o z ps y) last later;
                };
              }

  -- a line's rest with a note
  pub note_head : {c m : ℕ} {e r : Text} (s : Text) → may_have_note o (c ∷ []) ≡ true
      → is_line_feed c ≡ false
      → is_comment_mark m ≡ true → list_all is_line_part s ≡ true → LineEnd e r
      → LineHead o c ((m ∷ s) ++ e) r
  note_head {c} {m} {e} {r} s may late mark all le =
      let head = end_head {o = o} (last_or m s) le in
      record {
        is = λ x. gap_more (Element.note may late
            (Note.note {m = m} {s = s} mark all (closes_part (e ++ x) (end_part x le)))) (head.is x);
        rest = λ y g. subst (λ z. IsGap o z r y) (sym (last_or-append m s e))
            (head.rest y (note_gone {u = e ++ r} late mark all (end_part r le)
            (subst (λ t. IsGap o c (m ∷ t) y) (append_assoc s e r) g)).rest);
        starts = λ d. ap is_line_end (last_or-append m s e) ∙ head.starts (last_or m s);
        alike = λ a b x y. BeginAlike.character;
      }

-- the words of edits for them
no_end_yet : (s e : Text) → list_all is_line_part s ≡ true → line_end_at_end (s ++ e) ≡ line_end_at_end e
no_end_yet [] e all = refl
no_end_yet (c ∷ s) e all =
    let parts = and_parts (is_line_part c) (list_all is_line_part s) all in
    cond-false (is_one_line_end (c ∷ (s ++ e))) _ _
    (and_left (is_line_end c) _ (not-true (is_line_end c) parts.0))
    ∙ no_end_yet s e parts.1

mark_part : (m : ℕ) → is_comment_mark m ≡ true → is_line_part m ≡ true
mark_part m mark = ap not (mark_no_end m mark)

mark_within : (m : ℕ) (s : Text) → is_comment_mark m ≡ true → list_all is_line_part s ≡ true
    → list_all is_line_part (m ∷ s) ≡ true
mark_within m s mark all = and_from (is_line_part m) _ (mark_part m mark) all

past_none : (o : ParseOption) (c : ℕ) (t : Text) → is_line_end c ≡ true → past_note o (c ∷ t) ≡ c ∷ t
past_none o c t end = cond-false (o.enabled_inline_comment && is_comment_mark c) _ _
    (and_right o.enabled_inline_comment _ (line_end_no_mark c end))

pub past_nothing : (o : ParseOption) → past_note o [] ≡ []
past_nothing o = cond-false (o.enabled_inline_comment && false) [] []
    (and_right o.enabled_inline_comment false refl)

past_some : (o : ParseOption) (m : ℕ) (s u : Text) → o.enabled_inline_comment ≡ true
    → is_comment_mark m ≡ true → list_all is_line_part s ≡ true → BeginsWithNo is_line_part u
    → past_note o ((m ∷ s) ++ u) ≡ u
past_some o m s u on mark all ends =
    cond-true (o.enabled_inline_comment && is_comment_mark m) _ _
    (and_from o.enabled_inline_comment _ on mark)
    ∙ (run-finds is_line_part (m ∷ s) u (mark_within m s mark all) ends).1

-- What follows a pair in one line: its own lines f, which end with e, and a rest; a note that the text's end
-- closes; or nothing.
pub data OwnCut (o : ParseOption) (c : ℕ) (t y : Text) : Type 0 where
  cut : (f e r : Text) → t ≡ f ++ r → LineHead o c f r → LineEnd e r → line_end_at_end f ≡ e
      → ((d b : ℕ) → last_or d f ≡ last_or b e) → after_line_end (past_note o t) ≡ r → OwnCut o c t y
  noted : is_empty t ≡ false → Closes plain_ends y → line_end_at_end t ≡ []
      → after_line_end (past_note o t) ≡ [] → ((e : Text) → LineEnd e [] → LineHead o c (t ++ e) [])
      → OwnCut o c t y
  nothing : t ≡ [] → OwnCut o c t y

blank_no_feed : (c : ℕ) → is_blank c ≡ true → is_line_feed c ≡ false
blank_no_feed c blank = false_from_ne_true (is_line_feed c)
    (λ q. false≢true (subst (λ z. is_blank z ≡ true) (eqb-true c line_feed q) blank))

-- what ends a line, or begins a note, ends a line where no note begins it
pub text_closes : (o : ParseOption) (r : Text) → TextEnds o r → BeginsWithNo is_comment_mark r
    → Closes plain_ends r
text_closes o r (inl closes) none = closes
text_closes o r (inr both) none = at r both.1 none
  where
    at : (r : Text) → begins is_comment_mark r ≡ true → BeginsWithNo is_comment_mark r → Closes plain_ends r
    at [] mark none = absurd (false≢true mark)
    at (c ∷ r) mark none = absurd (both_ways (is_comment_mark c) none mark)

-- no key ends at a mark
no_key_end : (r : Text) → Closes (key_ends Key) r → begins is_comment_mark r ≡ true → ⊥
no_key_end [] closes mark = false≢true mark
no_key_end (c ∷ r) closes mark =
    elim (or_cases (c == semicolon) (c == hash) mark) [
      | inl q ↦ false≢true (subst (λ z. is_endpoint (key_ends Key) z ≡ true) (eqb-true c semicolon q) closes)
      | inr q ↦ false≢true (subst (λ z. is_endpoint (key_ends Key) z ≡ true) (eqb-true c hash q) closes)
    ]

module _ {o : ParseOption} where
  closed_cut : {c : ℕ} (t y : Text) → Closes plain_ends (t ++ y) → OwnCut o c t y
  closed_cut [] y closes = OwnCut.nothing refl
  closed_cut {c} (x ∷ t) y closes = at (line_cut (x ∷ t))
    where
      at : LineCut (x ∷ t) → OwnCut o c (x ∷ t) y
      at (LineCut.uncut same) = absurd
          (let no : x ∷ t ≡ [] = uncut_empty (x ∷ t) y same closes in cc)
      at (LineCut.cut e r same le one is) =
          OwnCut.cut e e r same (end_head c le) le one (λ d b. last_of_end d b le)
          (ap after_line_end (past_none o x t (closes_line_end x closes)) ∙ is)

  noted_cut : {c : ℕ} (t y : Text) → o.enabled_inline_comment ≡ true → is_line_feed c ≡ false
      → begins is_comment_mark (t ++ y) ≡ true → IsGap o c t y → OwnCut o c t y
  noted_cut [] y on late mark g = OwnCut.nothing refl
  noted_cut {c} (m ∷ t) y on late mark g =
      by (skipped is_line_part t) refl
      (subst (λ z. IsGap o c (m ∷ z) y) (sym (run-sound is_line_part t).whole) g)
      (run-sound is_line_part t).ends
    where
      s : Text
      s = run_of is_line_part t

      all : list_all is_line_part s ≡ true
      all = (run-sound is_line_part t).all

      whole : (u : Text) → skipped is_line_part t ≡ u → m ∷ t ≡ (m ∷ s) ++ u
      whole u is = ap (λ z. m ∷ z) (sym (run-sound is_line_part t).whole ∙ ap (λ u. s ++ u) is)

      may : may_have_note o (c ∷ []) ≡ true
      may = or_left o.enabled_inline_comment _ on

      by : (u : Text) → skipped is_line_part t ≡ u → IsGap o c (m ∷ (s ++ skipped is_line_part t)) y
          → BeginsWithNo is_line_part (skipped is_line_part t) → OwnCut o c (m ∷ t) y
      by [] is g ends =
          let parts = note_gone late mark all ends g in
          let there : m ∷ t ≡ m ∷ s = whole [] is ∙ append-nil (m ∷ s) in
          OwnCut.noted refl (subst (λ u. Closes plain_ends (u ++ y)) is parts.closes)
          (ap line_end_at_end (whole [] is) ∙ no_end_yet (m ∷ s) [] (mark_within m s mark all))
          (ap (λ z. after_line_end (past_note o z)) (whole [] is)
          ∙ ap after_line_end (past_some o m s [] on mark all tt))
          (λ e le. subst (λ z. LineHead o c (z ++ e) []) (sym there)
          (note_head s may late mark all le))
      by (x ∷ u) is g ends = at (line_cut (x ∷ u))
        where
          no_part : BeginsWithNo is_line_part (x ∷ u)
          no_part = subst (BeginsWithNo is_line_part) is ends

          at : LineCut (x ∷ u) → OwnCut o c (m ∷ t) y
          at (LineCut.uncut same) = absurd
              (let no : x ∷ u ≡ [] = uncut_empty (x ∷ u) [] same (closes_part (x ∷ (u ++ [])) no_part) in cc)
          at (LineCut.cut e r same le one is_rest) =
              OwnCut.cut ((m ∷ s) ++ e) e r
              (whole (x ∷ u) is ∙ ap (λ z. (m ∷ s) ++ z) same ∙ sym (append_assoc (m ∷ s) e r))
              (note_head s may late mark all le) le
              (no_end_yet (m ∷ s) e (mark_within m s mark all) ∙ one)
              (λ d b. last_or-append d (m ∷ s) e ∙ last_of_end (last_or d (m ∷ s)) b le)
              (ap (λ z. after_line_end (past_note o z)) (whole (x ∷ u) is)
              ∙ ap after_line_end (past_some o m s (x ∷ u) on mark all no_part) ∙ is_rest)

  single_closes : {t r : Text} → TrailingLines o t r → (o.enabled_indented_mutiline_value && true) ≡ false
      → Closes plain_ends r
  single_closes (TrailingLines.line off closes) is = closes
  single_closes (TrailingLines.end on) is = absurd (false≢true (sym is ∙ rw on refl))
  single_closes (TrailingLines.lines on end more all) is = absurd (false≢true (sym is ∙ rw on refl))

  -- what follows a pair in one line
  pub own_cut : {b : ℕ} {p : Stretches} {key value t y : Text} → IsPair o b p key value (t ++ y)
      → (o.enabled_indented_mutiline_value && is_some p.separator) ≡ false
      → IsGap o (last_or b (pair_source p)) t y → OwnCut o (last_or b (pair_source p)) t y
  own_cut {t = t} {y = y} (IsPair.has_value h) off g =
      closed_cut t y (single_closes h.are_trailing (rw h.separator_is at off))
  own_cut {b} {p} {t = t} {y = y} (IsPair.is_lone h) off g = at (lone_ends h) (key_ends_so h.key_front)
    where
      key_alone : pair_source p ≡ p.key
      key_alone = ap (λ m. p.key ++ (separator_text m ++ value_source p)) h.lone.no_separator
          ∙ ap (λ z. p.key ++ z) h.lone.nothing ∙ append-nil p.key

      at : TextEnds o (t ++ y) → StrEnds (noted_key_ends o) p.key (t ++ y)
          → OwnCut o (last_or b (pair_source p)) t y
      at (inl closes) ends = closed_cut t y closes
      at (inr both) (StrEnds.before_mark on last mark) =
          noted_cut t y both.0
          (blank_no_feed (last_or b (pair_source p)) (ap (λ k. is_blank (last_or b k)) key_alone ∙ last b))
          mark g
      at (inr both) (StrEnds.closed closes) =
          absurd (no_key_end (t ++ y) (subst (λ line. Closes (key_ends line) (t ++ y)) h.lone.may_be closes)
          both.1)

  -- what ends a line follows a pair in one line, where no note does
  pub apart_closes : {b : ℕ} {p : Stretches} {key value y : Text}
      → NoNoteAfter (last_or b (pair_source p) ∷ []) y
      → (o.enabled_indented_mutiline_value && is_some p.separator) ≡ false → IsPair o b p key value y
      → Closes plain_ends y
  apart_closes apart off (IsPair.has_value h) = single_closes h.are_trailing (rw h.separator_is at off)
  apart_closes {b} {p} {y = y} apart off (IsPair.is_lone h) =
      let key_alone : pair_source p ≡ p.key =
      ap (λ m. p.key ++ (separator_text m ++ value_source p)) h.lone.no_separator
      ∙ ap (λ z. p.key ++ z) h.lone.nothing ∙ append-nil p.key in
      closes_line y (subst (λ line. Closes (key_ends line) y) h.lone.may_be
      (ends_closed (b ∷ []) (subst (λ k. NoNoteAfter (last_or b k ∷ []) y) key_alone apart)
      (key_ends_so h.key_front))) h.lone.next
