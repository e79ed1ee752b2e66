-- A pair of a multiline value taken out of a text in pieces: its quiet lines go to the gap before it, or to
-- the lines of the pair before it.
use Rattle.std.proofs.Common.{◌≡◌, ◌≢◌, ◌∙◌, ◌&&◌, ℕ, Bool, true, false, List, [], ◌∷◌, ◌++◌, ap}
use Rattle.std.proofs.Common.{append_assoc, append-nil, arith, inl, inr, length, refl, subst, sym}
use Rattle.std.specs.Prelude.{◌⊎◌, Option, is_some}
use Rattle.std.proofs.lemmas.Bool.{and_parts, both_ways, false≢true}
use Rattle.ini_text.specs.Grammar.CharacterKinds.{BeginsWith, BeginsWithNo, is_blank, is_comment_mark}
use Rattle.ini_text.specs.Grammar.CharacterKinds.{is_line_end, is_line_feed, line_feed}
use Rattle.ini_text.specs.Grammar.Keys.{KeyFront}
use Rattle.ini_text.specs.Grammar.Places.{Stretches, after_key_source, pair_source, separator_text}
use Rattle.ini_text.specs.Grammar.Places.{value_source}
use Rattle.ini_text.specs.Grammar.Positions.{last_or}
use Rattle.ini_text.specs.Grammar.Values.{Value}
use Rattle.ini_text.specs.Laws.PieceLaws.{Agree, BeginAlike}
use Rattle.ini_text.specs.declared.option.ParseOption.{ParseOption}
use Rattle.ini_text.proofs.LawLemmas.LocalLemmas.{Agree-front}
use Rattle.ini_text.proofs.LawLemmas.PieceLemmas.{last_or-append}
use Rattle.ini_text.proofs.ReaderLemmas.KeyReaderLemmas.{KeyFront-some}
use Rattle.ini.specs.Texts.{Text}
use Rattle.ini_edit.specs.Inside.InPlace.{AreInPlace}
use Rattle.ini_edit.specs.Inside.Spans.{AreSpans, IsGap, IsPair, IsSpan, IsValuePair, Span, gap, opening}
use Rattle.ini_edit.specs.Inside.Spans.{pair, span_source}
use Rattle.ini_edit.specs.SourceLines.{LinePlace}
use Rattle.ini_edit.specs.Sources.{joined}
use Rattle.ini_edit.proofs.AheadLemmas.{closes_no_line, key_follows, value_follows}
use Rattle.ini_edit.proofs.BlankLineLemmas.{AreBlank, line_last, trailing_ends}
use Rattle.ini_edit.proofs.CommentLemmas.{begins_with, no_key}
use Rattle.ini_edit.proofs.DeletedLinesLemmas.{staying, staying_gap, staying_last, staying_lines}
use Rattle.ini_edit.proofs.GapLemmas.{gap_join, gap_like}
use Rattle.ini_edit.proofs.InPlaceLemmas.{Agree-after, in_place-before, in_place-exchanged, in_place-join}
use Rattle.ini_edit.proofs.InPlaceLemmas.{in_place-split, joined-append}
use Rattle.ini_edit.proofs.PairViewLemmas.{goes_on, key_front_of, one_line, some_key}
use Rattle.ini_edit.proofs.SourceDeleteLemmas.{StandsBefore, pair_and_rest, pair_to_gap}
use Rattle.ini_edit.proofs.SourceSetLemmas.{before_tail, with_tail}
use Rattle.ini_edit.proofs.SpanFrontLemmas.{gap_free, opening_ahead}
use Rattle.ini_edit.proofs.SpanLemmas.{span_before, spans_local}
use Rattle.ini_edit.proofs.TrailingLemmas.{note_lengthened, own_lengthened, trailing_lengthened}
use Rattle.ini_edit.proofs.TrailingLemmas.{value_lengthened}

no_begin : {X : Type 0} (test : ℕ → Bool) (x : Text) → BeginsWithNo test x → BeginsWith test x → X
no_begin test [] other h = absurd (false≢true (sym h))
no_begin test (c ∷ x) other h = absurd (both_ways (test c) other h)

pub tail_last : (c : ℕ) (p : Stretches)
    → last_or c (pair_source p) ≡ last_or (last_or c (before_tail p)) p.trailing_lines
tail_last c p =
    ap (last_or c) (sym (append-nil (pair_source p)) ∙ with_tail p)
    ∙ last_or-append c (before_tail p) p.trailing_lines

-- a pair and the gap after it, before r
pub record IsThere (o : ParseOption) (last : ℕ) (p : Stretches) (key value b r : Text) : Type 0 where
  pub is : IsPair o last p key value (b ++ r)
  pub is_gap : IsGap o (last_or last (pair_source p)) b r

pub is_there : {o : ParseOption} {last : ℕ} {p : Stretches} {key value b : Text} (zs : List Span)
    → AreSpans o last (pair p key value ∷ gap b ∷ zs) []
    → IsThere o last p key value b (joined span_source zs ++ [])
is_there {o} {last} {p} {key} {value} {b} zs (AreInPlace.more (IsSpan.is_pair is)
    (AreInPlace.more (IsSpan.is_gap g) later)) =
    let rest = joined span_source zs in
    record {
      is = subst (IsPair o last p key value) (append_assoc b rest []) is;
      is_gap = g;
    }

-- a pair's key is some text
pub key_some : {o : ParseOption} {c : ℕ} {p : Stretches} {key value r : Text} → IsPair o c p key value r
    → p.key ≢ []
key_some h none =
    let one = KeyFront-some (key_front_of h) (some_key h) in
    let zero = ap length none in
    absurd (omega (arith, one, zero))

pub pair_key_some : {o : ParseOption} {c : ℕ} {p : Stretches} {key value r : Text}
    → AreSpans o c (pair p key value ∷ []) r → p.key ≢ []
pair_key_some (AreInPlace.more (IsSpan.is_pair h) AreInPlace.none) = key_some h

module _ {o : ParseOption} {last : ℕ} {p : Stretches}
    (multiline : (o.enabled_indented_mutiline_value && is_some p.separator) ≡ true)
    {key value b r : Text} (there : IsThere o last p key value b r)
    (unmarked : BeginsWithNo is_comment_mark r) where
  on : o.enabled_indented_mutiline_value ≡ true
  on = (and_parts o.enabled_indented_mutiline_value (is_some p.separator) multiline).0

  there_value : IsValuePair o last p key value (b ++ r)
  there_value = goes_on there.is multiline

  -- what follows is read as before
  kept_agrees : Agree o (last_or last (pair_source p) ∷ [])
      (last_or last (staying o last p.trailing_lines b) ∷ [])
      (b ++ r)
  kept_agrees = record {
    line = λ m. no_begin is_blank (b ++ r) ((value_follows on there_value.gives).no_blank on) m;
    column = λ m. ap is_line_feed (tail_last last p)
        ∙ sym (staying_last on b r there_value.are_trailing last
        (last_or last (before_tail p)) unmarked m).1;
    comment = λ _ m. ap is_line_end (tail_last last p)
        ∙ (staying_last on b r there_value.are_trailing last (last_or last (before_tail p)) unmarked m).0
        ∙ sym (staying_last on b r there_value.are_trailing last
        (last_or last (before_tail p)) unmarked m).2;
  }

  kept_gap : IsGap o last (staying o last p.trailing_lines b ++ b) r
  kept_gap =
      gap_join (staying_gap on b r there_value.are_trailing last)
      (gap_like (Agree-front r kept_agrees) there.is_gap)

  kept_lines : is_line_end last ≡ true → AreBlank o (staying o last p.trailing_lines b) (b ++ r)
  kept_lines starts = staying_lines on b r there_value.are_trailing last starts

  rest_agrees : Agree o (last_or (last_or last (pair_source p)) b ∷ [])
      (last_or last (staying o last p.trailing_lines b ++ b) ∷ []) r
  rest_agrees =
      subst (λ z. Agree o (last_or (last_or last (pair_source p)) b ∷ []) (z ∷ []) r)
      (sym (last_or-append last (staying o last p.trailing_lines b) b))
      (Agree-after b r kept_agrees)

-- into the gap before it
pub multiline_to_gap : {o : ParseOption} (xs : List Span) (a b : Text) (p : Stretches) (key value : Text)
    (zs : List Span) → (o.enabled_indented_mutiline_value && is_some p.separator) ≡ true
    → AreSpans o line_feed (xs ++ (gap a ∷ pair p key value ∷ gap b ∷ zs)) []
    → BeginsWithNo is_comment_mark (joined span_source zs ++ []) → StandsBefore o (xs ++ gap a ∷ [])
    → AreSpans o line_feed (xs ++ (gap (a ++
    (staying o (last_or line_feed (joined span_source (xs ++ gap a ∷ []))) p.trailing_lines b ++ b)) ∷ zs))
    []
multiline_to_gap {o} xs a b p key value zs multiline whole unmarked stands =
    let last = last_or line_feed (joined span_source (xs ++ gap a ∷ [])) in
    let c = staying o last p.trailing_lines b ++ b in
    let there = is_there zs (pair_and_rest xs a b p key value zs whole) in
    pair_to_gap xs a b p key value zs whole c stands (kept_gap multiline there unmarked)
    (subst (Agree o (last_or (last_or last (pair_source p)) b ∷ []) (last_or last c ∷ []))
    (append-nil (joined span_source zs)) (rest_agrees multiline there unmarked))

last_of : (c : ℕ) (xs : List Span) (y : Span)
    → last_or c (joined span_source (xs ++ y ∷ []))
    ≡ last_or (last_or c (joined span_source xs)) (span_source y)
last_of c xs y =
    ap (last_or c) (joined-append span_source xs (y ∷ [])
    ∙ ap (λ t. joined span_source xs ++ t) (append-nil (span_source y)))
    ∙ last_or-append c (joined span_source xs) (span_source y)

begin_there : (a r x : Text) → a ≢ [] → BeginAlike ((a ++ []) ++ r) ((a ++ []) ++ x)
begin_there [] r x some = absurd (some refl)
begin_there (d ∷ a) r x some = BeginAlike.character

-- where a gap that is something, or what opens a section, stands before it
module _ {o : ParseOption} where
  gap_alone : {c : ℕ} {a k r key x : Text} → KeyFront o (last_or c a ∷ []) k r key
      → AreSpans o c (gap a ∷ []) (k ++ r) → AreSpans o c (gap a ∷ []) x
  gap_alone {r = r} {x = x} front (AreInPlace.more (IsSpan.is_gap g) AreInPlace.none) =
      AreInPlace.more (IsSpan.is_gap (gap_free x (key_follows r front) g)) AreInPlace.none

  pub gap_stands : (xs : List Span) (a : Text) → a ≢ [] → StandsBefore o (xs ++ gap a ∷ [])
  gap_stands xs a some k r key x front h =
      let split = in_place-split span_source xs (gap a ∷ []) h in
      in_place-join span_source xs (gap a ∷ [])
      (in_place-before span_source spans_local (begin_there a (k ++ r) x some) split.0)
      (gap_alone (subst (λ z. KeyFront o (z ∷ []) k r key) (last_of line_feed xs (gap a)) front) split.1)

  -- so does a pair in one line, directly before which no key stands
  pub lone_stands : (xs : List Span) (q : Stretches) (key_q value_q : Text)
      → (o.enabled_indented_mutiline_value && is_some q.separator) ≡ false
      → StandsBefore o ((xs ++ pair q key_q value_q ∷ []) ++ gap [] ∷ [])
  lone_stands xs q key_q value_q off k r key x front h =
      at (in_place-split span_source xs (pair q key_q value_q ∷ gap [] ∷ [])
      (subst (λ l. AreSpans o line_feed l (k ++ r))
      (append_assoc xs (pair q key_q value_q ∷ []) (gap [] ∷ [])) h)).1
    where
      at : {X : Type 0} {c : ℕ} → AreSpans o c (pair q key_q value_q ∷ gap [] ∷ []) (k ++ r) → X
      at (AreInPlace.more (IsSpan.is_pair is) later) =
          elim (one_line is off).1 [
            | inl closes ↦ closes_no_line (k ++ r) (key_follows r front).some closes
            | inr both ↦ no_key front (begins_with is_comment_mark (k ++ r) both.1)
          ]

  opening_stands : {c : ℕ} {name : Option Text} {s k r key : Text} (a x : Text)
      → KeyFront o (last_or (last_or c s) a ∷ []) k r key → IsSpan o c (opening name s) (a ++ (k ++ r))
      → IsSpan o c (opening name s) (a ++ x)
  opening_stands {r = r} [] x front h = opening_ahead x (key_follows r front) h
  opening_stands (d ∷ a) x front h = span_before BeginAlike.character h

  -- nothing stands before a section of no name, and any other begins with its header
  pub section_stands : (xs : List Span) (name : Option Text) (s a : Text) → (xs ≡ []) ⊎ (s ≢ [])
      → StandsBefore o ((xs ++ opening name s ∷ []) ++ gap a ∷ [])
  section_stands xs name s a first k r key x front h =
      let same = append_assoc xs (opening name s ∷ []) (gap a ∷ []) in
      let split = in_place-split span_source xs (opening name s ∷ gap a ∷ [])
      (subst (λ l. AreSpans o line_feed l (k ++ r)) same h) in
      let c = last_or line_feed (joined span_source xs) in
      let there : last_or line_feed (joined span_source ((xs ++ opening name s ∷ []) ++ gap a ∷ []))
      ≡ last_or (last_or c s) a =
      last_of line_feed (xs ++ opening name s ∷ []) (gap a)
      ∙ ap (λ z. last_or z a) (last_of line_feed xs (opening name s)) in
      let key_front = subst (λ z. KeyFront o (z ∷ []) k r key) there front in
      subst (λ l. AreSpans o line_feed l x) (sym same)
      (in_place-join span_source xs (opening name s ∷ gap a ∷ []) (before first split.0)
      (at key_front split.1))
    where
      header_begins : (s u v w : Text) → s ≢ [] → BeginAlike ((s ++ u) ++ v) ((s ++ u) ++ w)
      header_begins [] u v w some = absurd (some refl)
      header_begins (d ∷ s) u v w some = BeginAlike.character

      none_before : (xs : List Span) {y : Text} → xs ≡ [] → AreSpans o line_feed xs y
      none_before xs {y} is = subst (λ l. AreSpans o line_feed l y) (sym is) AreInPlace.none

      before : (xs ≡ []) ⊎ (s ≢ []) → AreSpans o line_feed xs ((s ++ (a ++ [])) ++ (k ++ r))
          → AreSpans o line_feed xs ((s ++ (a ++ [])) ++ x)
      before first h = elim first [
        | inl is ↦ none_before xs is
        | inr some ↦ in_place-before span_source spans_local (header_begins s (a ++ []) (k ++ r) x some) h
      ]

      at : {c : ℕ} → KeyFront o (last_or (last_or c s) a ∷ []) k r key
          → AreSpans o c (opening name s ∷ gap a ∷ []) (k ++ r)
          → AreSpans o c (opening name s ∷ gap a ∷ []) x
      at {c} front (AreInPlace.more is rest) =
          AreInPlace.more (subst (IsSpan o c (opening name s)) (ap (λ t. t ++ x) (sym (append-nil a)))
          (opening_stands a x front (subst (IsSpan o c (opening name s))
          (ap (λ t. t ++ (k ++ r)) (append-nil a)) is)))
          (gap_alone front rest)

-- with more lines after its value
abbrev pub with_lines : Text → Stretches → Stretches
with_lines lines p = record p { trailing_lines = p.trailing_lines ++ lines }

with_lines_source : (lines : Text) (p : Stretches) → value_source p ++ lines
    ≡ value_source (with_lines lines p)
with_lines_source lines p =
    append_assoc p.space_before (p.raw_value ++ (p.space_after ++ (p.note ++ p.trailing_lines))) lines
    ∙ ap (λ t. p.space_before ++ t)
    (append_assoc p.raw_value (p.space_after ++ (p.note ++ p.trailing_lines)) lines)
    ∙ ap (λ t. p.space_before ++ (p.raw_value ++ t))
    (append_assoc p.space_after (p.note ++ p.trailing_lines) lines)
    ∙ ap (λ t. p.space_before ++ (p.raw_value ++ (p.space_after ++ t)))
    (append_assoc p.note p.trailing_lines lines)

pub source_lines : (lines : Text) (p : Stretches) → pair_source (with_lines lines p) ≡ pair_source p ++ lines
source_lines lines p =
    ap (λ t. p.key ++ (separator_text p.separator ++ t)) (sym (with_lines_source lines p))
    ∙ ap (λ t. p.key ++ t) (sym (append_assoc (separator_text p.separator) (value_source p) lines))
    ∙ sym (append_assoc p.key (after_key_source p) lines)

pub keys_begin : (k v w t u r s : Text) → k ≢ [] → BeginAlike (((k ++ v) ++ t) ++ r) (((k ++ w) ++ u) ++ s)
keys_begin [] v w t u r s some = absurd (some refl)
keys_begin (c ∷ k) v w t u r s some = BeginAlike.character

source_some : (k v t r : Text) → k ≢ [] → ((k ++ v) ++ t) ++ r ≢ []
source_some [] v t r some is = some refl
source_some (c ∷ k) v t r some is = cc

-- the last character of a pair that follows these
abbrev pub last_of_pair : List Span → Stretches → ℕ
last_of_pair xs q = last_or (last_or line_feed (joined span_source xs)) (pair_source q)

-- into the lines of the pair before it, where no gap stands between them
module _ {o : ParseOption} (xs : List Span) (q p : Stretches) (key_q value_q b key value : Text)
    (zs : List Span) (multiline : (o.enabled_indented_mutiline_value && is_some q.separator) ≡ true)
    (whole : AreSpans o line_feed (xs
    ++ (pair q key_q value_q ∷ gap [] ∷ pair p key value ∷ gap b ∷ zs)) []) where
  abbrev c : ℕ
  c = last_or line_feed (joined span_source xs)

  abbrev rest : Text
  rest = joined span_source zs

  abbrev front_last : ℕ
  front_last = last_of_pair xs q

  on_there : o.enabled_indented_mutiline_value ≡ true
  on_there = (and_parts o.enabled_indented_mutiline_value (is_some q.separator) multiline).0

  from_pair : AreSpans o c (pair q key_q value_q ∷ gap [] ∷ pair p key value ∷ gap b ∷ zs) []
  from_pair =
      (in_place-split span_source xs (pair q key_q value_q ∷ gap [] ∷ pair p key value ∷ gap b ∷ zs) whole).1

  -- the pair that is taken out
  pub taken_there : IsThere o front_last p key value b (rest ++ [])
  taken_there = at from_pair
    where
      at : AreSpans o c (pair q key_q value_q ∷ gap [] ∷ pair p key value ∷ gap b ∷ zs) []
          → IsThere o front_last p key value b (rest ++ [])
      at (AreInPlace.more before (AreInPlace.more between later)) = is_there zs later

  text_some : (pair_source p ++ (b ++ rest)) ++ [] ≢ []
  text_some = source_some p.key (after_key_source p) (b ++ rest) [] (key_some taken_there.is)

  before_value : IsValuePair o c q key_q value_q ((pair_source p ++ (b ++ rest)) ++ [])
  before_value = at from_pair
    where
      at : AreSpans o c (pair q key_q value_q ∷ gap [] ∷ pair p key value ∷ gap b ∷ zs) []
          → IsValuePair o c q key_q value_q ((pair_source p ++ (b ++ rest)) ++ [])
      at (AreInPlace.more (IsSpan.is_pair is) later) = goes_on is multiline

  pub value_ends_line : is_line_end front_last ≡ true
  value_ends_line =
      subst (λ z. is_line_end z ≡ true) (sym (tail_last c q))
      (line_last o LinePlace.within (last_or c (before_tail q)) q.trailing_lines
      (λ inner. absurd (false≢true inner))
      (trailing_ends text_some on_there before_value.are_trailing))

  -- these lines and this gap in its stead
  pub put_in_lines : (lines g : Text) → AreBlank o lines (g ++ (rest ++ []))
      → IsGap o (last_or front_last lines) g (rest ++ [])
      → Agree o (last_or (last_or front_last (pair_source p)) b ∷ [])
      (last_or (last_or front_last lines) g ∷ []) (rest ++ [])
      → AreSpans o line_feed (xs ++ (pair (with_lines lines q) key_q value_q ∷ gap g ∷ zs)) []
  put_in_lines lines g more is_gap agrees =
      let before = before_value in
      let new : IsPair o c (with_lines lines q) key_q value_q (g ++ (rest ++ [])) =
      IsPair.has_value (record {
        separator = before.separator;
        separator_is = before.separator_is;
        key_front = before.key_front;
        some = before.some;
        separates = before.separates;
        gives = subst (λ s. Value o s (g ++ (rest ++ [])) value_q) (with_lines_source lines q)
            (value_lengthened on_there more.are more.all text_some before.gives);
        white_before = before.white_before;
        starts = before.starts;
        white_after = before.white_after;
        are_trailing = trailing_lengthened on_there more.are more.all text_some before.are_trailing;
        own_lines = own_lengthened on_there more.are more.all q.note text_some before.are_trailing
            before.own_lines;
        note = note_lengthened on_there more.are more.all text_some before.are_trailing before.note;
        unnoted = before.unnoted;
        closed = before.closed;
      }) in
      let last_new : last_or c (pair_source (with_lines lines q)) ≡ last_or front_last lines =
      ap (last_or c) (source_lines lines q) ∙ last_or-append c (pair_source q) lines in
      let gap_new : IsGap o (last_or c (pair_source (with_lines lines q))) g (rest ++ []) =
      subst (λ z. IsGap o z g (rest ++ [])) (sym last_new) is_gap in
      in_place-exchanged span_source spans_local xs
      (pair q key_q value_q ∷ gap [] ∷ pair p key value ∷ gap b ∷ [])
      (pair (with_lines lines q) key_q value_q ∷ gap g ∷ []) zs whole
      (AreInPlace.more
      (IsSpan.is_pair (subst (IsPair o c (with_lines lines q) key_q value_q)
      (ap (λ t. t ++ (rest ++ [])) (sym (append-nil g))) new))
      (AreInPlace.more (IsSpan.is_gap gap_new) AreInPlace.none))
      (keys_begin q.key (after_key_source q) (after_key_source (with_lines lines q))
      (pair_source p ++ (b ++ [])) (g ++ []) (rest ++ []) (rest ++ []) (key_some new))
      ends
    where
      ends : Agree o (last_or c (pair_source q ++ (pair_source p ++ (b ++ []))) ∷ [])
          (last_or c (pair_source (with_lines lines q) ++ (g ++ [])) ∷ []) rest
      ends =
          let old : last_or c (pair_source q ++ (pair_source p ++ (b ++ [])))
          ≡ last_or (last_or front_last (pair_source p)) b =
          ap (λ t. last_or c (pair_source q ++ (pair_source p ++ t))) (append-nil b)
          ∙ last_or-append c (pair_source q) (pair_source p ++ b)
          ∙ last_or-append front_last (pair_source p) b in
          let new : last_or c (pair_source (with_lines lines q) ++ (g ++ []))
          ≡ last_or (last_or front_last lines) g =
          ap (λ t. last_or c (pair_source (with_lines lines q) ++ t)) (append-nil g)
          ∙ last_or-append c (pair_source (with_lines lines q)) g
          ∙ ap (λ z. last_or z g) (ap (last_or c) (source_lines lines q)
          ∙ last_or-append c (pair_source q) lines) in
          subst (λ t. Agree o (last_or c (pair_source q ++ (pair_source p ++ (b ++ []))) ∷ [])
          (last_or c (pair_source (with_lines lines q) ++ (g ++ [])) ∷ []) t) (append-nil rest)
          (subst (λ z. Agree o (z ∷ []) (last_or c (pair_source (with_lines lines q) ++ (g ++ [])) ∷ [])
          (rest ++ []))
          (sym old)
          (subst (λ z. Agree o (last_or (last_or front_last (pair_source p)) b ∷ []) (z ∷ []) (rest ++ []))
          (sym new) agrees))

  -- a multiline value there
  pub multiline_to_pair : (o.enabled_indented_mutiline_value && is_some p.separator) ≡ true
      → BeginsWithNo is_comment_mark (rest ++ [])
      → AreSpans o line_feed (xs
      ++ (pair (with_lines (staying o front_last p.trailing_lines b) q) key_q value_q ∷ gap b ∷ zs)) []
  multiline_to_pair goes unmarked =
      let lines = staying o front_last p.trailing_lines b in
      put_in_lines lines b (kept_lines goes taken_there unmarked value_ends_line)
      (gap_like (Agree-front (rest ++ []) (kept_agrees goes taken_there unmarked)) taken_there.is_gap)
      (subst (λ z. Agree o (last_or (last_or front_last (pair_source p)) b ∷ []) (z ∷ []) (rest ++ []))
      (last_or-append front_last lines b) (rest_agrees goes taken_there unmarked))
