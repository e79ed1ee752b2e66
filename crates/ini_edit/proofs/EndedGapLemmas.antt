-- Elements that give nothing, with a line end after them or LF at their end: they stand before any text.
use Rattle.std.proofs.Common.{◌≡◌, ◌∙◌, ◌==◌, ℕ, Bool, true, not, List, [], ◌∷◌, ◌++◌, ap}
use Rattle.std.proofs.Common.{append_assoc, append-nil, refl, subst, sym}
use Rattle.std.proofs.lemmas.Bool.{and_from, both_ways, false≢true, not-true, or_left}
use Rattle.std.proofs.lemmas.List.Folds.{list_all-append}
use Rattle.std.specs.List.{list_all}
use Rattle.ini_text.specs.Grammar.CharacterKinds.{BeginsWith, BeginsWithNo, is_blank, is_comment_mark}
use Rattle.ini_text.specs.Grammar.CharacterKinds.{is_line_end, is_line_feed, line_feed, open_bracket}
use Rattle.ini_text.specs.Grammar.Elements.{Element, Gap}
use Rattle.ini_text.specs.Grammar.Keys.{Indentation, begins_indented_key}
use Rattle.ini_text.specs.Grammar.Lines.{Note}
use Rattle.ini_text.specs.Grammar.Pieces.{ArePieces, Piece, pieces_items, pieces_text}
use Rattle.ini_text.specs.Grammar.Positions.{last_or}
use Rattle.ini_text.specs.Grammar.Strings.{Closes, plain_ends}
use Rattle.ini_text.specs.Laws.PieceLaws.{BeginAlike}
use Rattle.ini_text.specs.declared.option.ParseOption.{ParseOption}
use Rattle.ini_text.proofs.LawLemmas.LocalLemmas.{Element-before}
use Rattle.ini_text.proofs.LawLemmas.PieceLemmas.{last_or-append}
use Rattle.ini_text.proofs.PlainLemmas.PlainLineLemmas.{line_end_gap}
use Rattle.ini.specs.Texts.{Text}
use Rattle.ini_edit.specs.Endings.{IsIndentedKey}
use Rattle.ini_edit.specs.Inside.Spans.{IsGap}
use Rattle.ini_edit.proofs.DroppedKeyLemmas.{AreKeyless}
use Rattle.ini_edit.proofs.EndingLemmas.{no_feed_by}
use Rattle.ini_edit.proofs.GapLemmas.{empty_front, gap_join}
use Rattle.ini_edit.proofs.GapPartLemmas.{all_last, no_blank_end}
use Rattle.ini_edit.proofs.QuietLemmas.{Quiet, Tail, as_quiet, free, note_before, note_element, note_within}
use Rattle.ini_edit.proofs.SectionTakenLemmas.{IsFeed}

abbrev is_other : ℕ → Bool
is_other c = not (is_line_feed c)

-- blanks, and a comment without LF, don't end with LF
blank_last : {X : Type 0} (c : ℕ) (w : Text) → BeginsWith is_blank w → list_all is_blank w ≡ true
    → is_line_feed (last_or c w) ≡ true → X
blank_last c [] some all feed = absurd (false≢true (sym some))
blank_last c (d ∷ w) some all feed =
    no_blank_end (last_or d w) (or_left (is_line_feed (last_or d w)) _ feed) (all_last is_blank d w all)

comment_last : {X : Type 0} (m : ℕ) (s : Text) → is_comment_mark m ≡ true → list_all is_other s ≡ true
    → is_line_feed (last_or m s) ≡ true → X
comment_last m s mark all feed =
    let no_feed = no_feed_by is_comment_mark m refl mark in
    absurd (both_ways (is_line_feed (last_or m s))
    (not-true _ (all_last is_other m s (and_from (is_other m) (list_all is_other s)
    (ap not no_feed) all))) feed)

note_last : {X : Type 0} (c : ℕ) (w : Text) {s r : Text} → Note s r
    → is_line_feed (last_or c (w ++ s)) ≡ true
    → X
note_last c w (Note.note {m} {s} mark all closes) feed =
    let last : is_line_feed (last_or m s) ≡ true =
    ap is_line_feed (sym (last_or-append c w (m ∷ s))) ∙ feed in
    let within = note_within (Note.note {m = m} {s = s} {r = []} mark all refl) in
    absurd (both_ways (is_line_end (last_or m s))
    (not-true _ (all_last (λ c. not (is_line_end c)) m s within))
    (or_left (is_line_feed (last_or m s)) _ last))

pub feed_closes_plain : {l : Text} (x : Text) → IsFeed l → Closes plain_ends (l ++ x)
feed_closes_plain x IsFeed.lf = refl
feed_closes_plain x IsFeed.cr_lf = refl

no_bracket : {X : Type 0} (r : Text) → BeginsWithNo (λ c. c == open_bracket) (open_bracket ∷ r) → X
no_bracket r h = absurd (false≢true (sym h))

key_there : {o : ParseOption} {w : Text} (s : Text) {b : Text} → Indentation b w
    → BeginsWith (begins_indented_key o) s → IsIndentedKey o (w ++ s)
key_there {w = w} s i begins = record {
  blanks = w;
  key = s;
  whole = refl;
  some = i.some;
  blank = i.blank;
  begins = begins;
}

module _ {o : ParseOption} where
  one_gap : {c : ℕ} {s r : Text} → Element o (c ∷ []) s r [] → IsGap o c s r
  one_gap {s = s} e = record {
    pieces = record { source = s; gives = [] } ∷ [];
    whole = sym (append-nil s);
    nothing = refl;
    are = ArePieces.more e ArePieces.none;
  }

  gap_after : {c : ℕ} {s t r : Text} → Element o (c ∷ []) s (t ++ r) [] → IsGap o (last_or c s) t r
      → IsGap o c (s ++ t) r
  gap_after e g = gap_join (one_gap e) g

  one_end : {c : ℕ} {r : Text} (d : ℕ) → is_line_end d ≡ true → IsGap o c (d ∷ []) r
  one_end d end = one_gap (Element.gap (line_end_gap d end))

  pub feed_gap : {c : ℕ} {l r : Text} → IsFeed l → IsGap o c l r
  feed_gap IsFeed.lf = one_end line_feed refl
  feed_gap IsFeed.cr_lf = gap_after (Element.gap (line_end_gap 0x0D refl)) (one_end line_feed refl)

  -- an element with a line end after it
  blanks_ended : {c : ℕ} {w x l : Text} → IsFeed l → Indentation (c ∷ []) w → IsGap o c (w ++ l) x
  blanks_ended IsFeed.lf i = one_gap (Element.gap (Gap.blank_line line_feed i refl))
  blanks_ended {c} {w} {x} IsFeed.cr_lf i =
      subst (λ t. IsGap o c t x) (append_assoc w (0x0D ∷ []) (line_feed ∷ []))
      (gap_after (Element.gap (Gap.blank_line 0x0D i refl)) (one_end line_feed refl))

  comment_ended : {c m : ℕ} (s : Text) {x l : Text} → IsFeed l → is_line_feed c ≡ true
      → is_comment_mark m ≡ true → list_all is_other s ≡ true → IsGap o c (m ∷ (s ++ l)) x
  comment_ended s IsFeed.lf one mark all = one_gap (Element.comment s one mark all)
  comment_ended {c} {m} s {x} IsFeed.cr_lf one mark all =
      subst (λ t. IsGap o c (m ∷ t) x) (append_assoc s (0x0D ∷ []) (line_feed ∷ []))
      (one_gap (Element.comment (s ++ 0x0D ∷ []) one mark
      (list_all-append is_other s (0x0D ∷ []) ∙ and_from (list_all is_other s) true all refl)))

  quiet_ended : {c : ℕ} {s y l : Text} (x : Text) → IsFeed l → Quiet o (c ∷ []) s y → ¬ IsIndentedKey o s
      → BeginsWithNo (λ c. c == open_bracket) y → IsGap o c (s ++ l) x
  quiet_ended {l = l} x feed (Quiet.anywhere e) key other = gap_after (free (l ++ x) e) (feed_gap feed)
  quiet_ended x feed (Quiet.before_header {r = r} i) key other = no_bracket r other
  quiet_ended x feed (Quiet.at_end (Tail.comment {s = s} one mark all)) key other =
      comment_ended s feed one mark all
  quiet_ended x feed (Quiet.at_end (Tail.blanks i)) key other = blanks_ended feed i
  quiet_ended x feed (Quiet.at_end (Tail.key s i begins)) key other = absurd (key (key_there s i begins))
  quiet_ended {l = l} x feed (Quiet.at_line_end front remark) key other =
      gap_after (note_element front (note_before (l ++ x) (feed_closes_plain x feed) remark))
      (feed_gap feed)

  -- elements with a line end after them
  pub pieces_ended : {c : ℕ} {y l : Text} (x : Text) (ps : List Piece) → IsFeed l → pieces_items ps ≡ []
      → AreKeyless o ps → BeginsWithNo (λ c. c == open_bracket) y → ArePieces o c ps y
      → IsGap o c (pieces_text ps ++ l) x
  pieces_ended x [] feed empty keyless other are = feed_gap feed
  pieces_ended {c} {y} {l} x (p ∷ ps) feed empty keyless other (ArePieces.more e rest) =
      let parts = empty_front p.gives (pieces_items ps) empty in
      subst (λ t. IsGap o c t x) (sym (append_assoc p.source (pieces_text ps) l))
      (at (pieces_text ps) parts.0 e
      (pieces_ended {c = last_or c p.source} x ps feed parts.1 keyless.1 other rest))
    where
      at : (t : Text) → p.gives ≡ [] → Element o (c ∷ []) p.source (t ++ y) p.gives
          → IsGap o (last_or c p.source) (t ++ l) x → IsGap o c (p.source ++ (t ++ l)) x
      at [] empty e g = quiet_ended x feed (as_quiet e empty) keyless.0 other
      at (d ∷ t) empty e g =
          gap_after (Element-before BeginAlike.character
          (subst (Element o (c ∷ []) p.source ((d ∷ t) ++ y)) empty e)) g

  -- an element that ends with LF
  quiet_stands : {c : ℕ} {s y : Text} (x : Text) → Quiet o (c ∷ []) s y → ¬ IsIndentedKey o s
      → is_line_feed (last_or c s) ≡ true → Element o (c ∷ []) s x []
  quiet_stands x (Quiet.anywhere e) key feed = free x e
  quiet_stands {c} x (Quiet.before_header {w = w} i) key feed = blank_last c w i.some i.blank feed
  quiet_stands x (Quiet.at_end (Tail.comment {m = m} {s = s} one mark all)) key feed =
      comment_last m s mark all feed
  quiet_stands {c} x (Quiet.at_end (Tail.blanks {w = w} i)) key feed = blank_last c w i.some i.blank feed
  quiet_stands x (Quiet.at_end (Tail.key s i begins)) key feed = absurd (key (key_there s i begins))
  quiet_stands {c} x (Quiet.at_line_end {w = w} front remark) key feed = note_last c w remark feed

  pieces_stand : {c : ℕ} {y : Text} (x : Text) (ps : List Piece) → pieces_items ps ≡ [] → AreKeyless o ps
      → is_line_feed (last_or c (pieces_text ps)) ≡ true → ArePieces o c ps y → ArePieces o c ps x
  pieces_stand x [] empty keyless feed ArePieces.none = ArePieces.none
  pieces_stand {c} {y} x (p ∷ ps) empty keyless feed (ArePieces.more e rest) =
      let parts = empty_front p.gives (pieces_items ps) empty in
      ArePieces.more (at (pieces_text ps) parts.0 feed e)
      (pieces_stand {c = last_or c p.source} x ps parts.1 keyless.1
      (ap is_line_feed (sym (last_or-append c p.source (pieces_text ps))) ∙ feed) rest)
    where
      at : (t : Text) → p.gives ≡ [] → is_line_feed (last_or c (p.source ++ t)) ≡ true
          → Element o (c ∷ []) p.source (t ++ y) p.gives → Element o (c ∷ []) p.source (t ++ x) p.gives
      at [] empty feed e =
          subst (Element o (c ∷ []) p.source x) (sym empty)
          (quiet_stands x (as_quiet e empty) keyless.0
          (ap (λ t. is_line_feed (last_or c t)) (sym (append-nil p.source)) ∙ feed))
      at (d ∷ t) empty feed e = Element-before BeginAlike.character e

  -- elements that end with LF
  pub gap_stands : {c : ℕ} {y : Text} (x : Text) (ps : List Piece) → pieces_items ps ≡ [] → AreKeyless o ps
      → is_line_feed (last_or c (pieces_text ps)) ≡ true → ArePieces o c ps y → IsGap o c (pieces_text ps) x
  gap_stands x ps empty keyless feed are = record {
    pieces = ps;
    whole = refl;
    nothing = empty;
    are = pieces_stand x ps empty keyless feed are;
  }
