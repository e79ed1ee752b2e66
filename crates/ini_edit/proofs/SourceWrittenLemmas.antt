-- A pair's value set in a text in pieces, in the first of its forms that is read back.
use Rattle.std.proofs.Common.{◌≡◌, ◌≢◌, ◌∙◌, ◌<◌, ◌&&◌, ℕ, true, false, cond, List, [], ◌∷◌, ◌++◌, Option}
use Rattle.std.proofs.Common.{Some, ap, get_or, inl, inr, length, not, refl, set, subst, sym}
use Rattle.std.proofs.lemmas.Bool.{and_right, both_ways, cond-false, cond-true, cond_both, false≢true}
use Rattle.std.proofs.lemmas.Bool.{false_from_ne_true}
use Rattle.std.specs.List.{list_all}
use Rattle.ini_text.specs.Grammar.CharacterKinds.{is_blank, is_comment_mark, line_feed, space as single}
use Rattle.ini_text.specs.Grammar.Lines.{LineTail, Note}
use Rattle.ini_text.specs.Grammar.Places.{OwnLines}
use Rattle.ini_text.specs.declared.option.ParseOption.{ParseOption}
use Rattle.ini_text.specs.declared.write.policy.EscapePolicy.{EscapePolicy}
use Rattle.ini_text.proofs.LawLemmas.MovedLemmas.{last_or-after}
use Rattle.ini_text.proofs.ReaderLemmas.LineReaderLemmas.{TextEnds}
use Rattle.ini.specs.Texts.{Text, is_text}
use Rattle.ini.proofs.KeepingLemmas.{text_refl, texts_equal}
use Rattle.ini_edit.specs.Inside.SourceEnds.{IsPairAt, IsPlaceAt, IsSetAt, pair_changed_in}
use Rattle.ini_edit.specs.Inside.SourceSteps.{HaveOwnSources}
use Rattle.ini_edit.specs.Inside.Spans.{AreSections, AreSpans, BeginGeneral, IsValuePair, Span, gap, pair}
use Rattle.ini_edit.specs.Inside.Spans.{pairs_spans, sections_spans}
use Rattle.ini_edit.specs.SourceEdits.{note_beside, space_beside, with_pairs, with_value}
use Rattle.ini_edit.specs.SourceEditsSet.{IsNthSet, pair_changed_at, with_separator, with_value_before}
use Rattle.ini_edit.specs.SourceLines.{is_empty}
use Rattle.ini_edit.specs.SourcePlaces.{PairPlace, Place, exchanged, pair_place}
use Rattle.ini_edit.specs.SourceWritten.{IsFirstReadAs, IsReadAs, IsWrittenInPlace}
use Rattle.ini_edit.specs.Sources.{PairPiece, SectionPiece, given_pair, has_separator}
use Rattle.ini_edit.proofs.CommentedLineLemmas.{closes_no_comment}
use Rattle.ini_edit.proofs.LoneSetLemmas.{spans_separated}
use Rattle.ini_edit.proofs.OwnBeforeLemmas.{IsWhite, Stands}
use Rattle.ini_edit.proofs.OwnLineLemmas.{own_blank, own_follows}
use Rattle.ini_edit.proofs.ReadAsLemmas.{Tail, bare_tail, feed, lines_read, read_closed, source_starts}
use Rattle.ini_edit.proofs.ReadAsLemmas.{value_read}
use Rattle.ini_edit.proofs.SectionBeginLemmas.{has_name, names_after}
use Rattle.ini_edit.proofs.SourcePlaceLemmas.{place_here, place_read, place_set, place_within}
use Rattle.ini_edit.proofs.SourceSetLemmas.{MayStand, sections_own, spans_set}
use Rattle.ini_edit.proofs.SourceSpanLemmas.{pairs_put_in, spans_before_pairs}

module _ {o : ParseOption} {value : Text} where
  pub first_read : {forms : List Text} {source : Text} → IsFirstReadAs o value forms source
      → IsReadAs o source value
  first_read (IsFirstReadAs.here is) = is
  first_read (IsFirstReadAs.later other more) = first_read more

-- a note is kept where inline comments are on, behind a blank
marked : {m : ℕ} {n r : Text} → LineTail (m ∷ n) r → is_comment_mark m ≡ true
marked (LineTail.note (Note.note mark within closes)) = mark

noted_on : (o : ParseOption) (m : ℕ) (y : Text) → TextEnds o (m ∷ y) → is_comment_mark m ≡ true
    → o.enabled_inline_comment ≡ true
noted_on o m y (inl closes) mark =
    absurd (both_ways (is_comment_mark m) (closes_no_comment (m ∷ y) closes) mark)
noted_on o m y (inr (on, _)) mark = on

beside_none : (source : Text) (p : PairPiece) → source ≡ [] → note_beside source p ≡ []
beside_none [] p none = refl
beside_none (d ∷ source) p none = cc

-- what stands beside another source of a pair's value
module _ {o : ParseOption} {c : ℕ} {r : Text} (p : PairPiece)
    (h : IsValuePair o c p.stretches p.key p.value r) where
  abbrev lines : Text
  lines = p.stretches.trailing_lines

  abbrev white : Text
  white = p.stretches.space_after

  abbrev Beside : (space note : Text) → Type 0
  Beside space note = Tail o feed (cond (is_empty space && not (is_empty note)) (single ∷ []) space) note lines r

  no_note : (space : Text) → IsWhite space → Beside space []
  no_note space all =
      subst (λ w. Tail o feed w [] lines r)
      (sym (cond-false (is_empty space && false) _ _ (and_right (is_empty space) false refl)))
      (bare_tail feed space all h.are_trailing)

  some_note : (m : ℕ) (n space : Text) → LineTail (m ∷ n) (lines ++ r)
      → OwnLines o (p.stretches.raw_value ++ space) (m ∷ (n ++ (lines ++ r))) → IsWhite space
      → Beside space (m ∷ n)
  some_note m n [] tail own all = record {
    white = refl;
    note = tail;
    trailing = h.are_trailing;
    stands = Stands.at_note (noted_on o m (n ++ (lines ++ r)) (own_follows own) (marked tail)) refl (marked tail);
  }
  some_note m n (e ∷ space) tail own all = record {
    white = all;
    note = tail;
    trailing = h.are_trailing;
    stands =
        Stands.at_note (noted_on o m (n ++ (lines ++ r)) (own_follows own) (marked tail))
        (subst (λ d. is_blank d ≡ true) (last_or-after line_feed e p.stretches.raw_value space)
        (own_blank (marked tail) own)) (marked tail);
  }

  pub beside_tail : (source : Text)
      → Tail o feed (space_beside source p) (note_beside source p) p.stretches.trailing_lines r
  beside_tail [] = no_note white h.white_after
  beside_tail (d ∷ source) = at p.stretches.note refl
    where
      at : (n : Text) → p.stretches.note ≡ n → Beside white p.stretches.note
      at [] none = subst (Beside white) (sym none) (no_note white h.white_after)
      at (m ∷ n) some =
          subst (Beside white) (sym some)
          (some_note m n white (subst (λ z. LineTail z (lines ++ r)) some h.note)
          (subst (λ z. OwnLines o (p.stretches.raw_value ++ white) (z ++ (lines ++ r))) some h.own_lines)
          h.white_after)

-- the pair is one with the value
pub pair_written_so : {o : ParseOption} {source value : Text} (p : PairPiece) → IsReadAs o source value
    → MayStand o source value p
pair_written_so {source = source} p is c r h =
    let tail = beside_tail p h source in
    record {
      separator = h.separator;
      separator_is = h.separator_is;
      key_front = h.key_front;
      some = h.some;
      separates = h.separates;
      gives = value_read is p.stretches.space_before h.white_before tail (beside_none source p);
      white_before = h.white_before;
      starts = source_starts is;
      white_after = tail.white;
      are_trailing = h.are_trailing;
      own_lines = lines_read is tail;
      note = tail.note;
      unnoted = beside_none source p;
      closed = λ e. absurd (read_closed is e);
    }

-- what a pair with another value is
module _ (o : ParseOption) (source value : Text) (ps : List PairPiece) (p : PairPiece) where
  pub before_given : given_pair (with_value_before o source value ps p) ≡ (p.key, value)
  before_given = cond_both (is_text value p.value) _ _ (λ q. given_pair q ≡ (p.key, value))
      (λ same. ap (λ v. (p.key, v)) (sym (texts_equal value p.value same)))
      (λ other. cond_both (has_separator p) _ _ (λ q. given_pair q ≡ (p.key, value)) (λ has. refl)
      (λ lone. refl))

  pub before_key : (with_value_before o source value ps p).key ≡ p.key
  before_key = ap (λ g. g.0) before_given

  before_stays : value ≡ p.value → with_value_before o source value ps p ≡ p
  before_stays same =
      cond-true (is_text value p.value) _ _ (ap (λ v. is_text v p.value) same ∙ text_refl p.value)

  is_other : value ≢ p.value → is_text value p.value ≡ false
  is_other other =
      false_from_ne_true (is_text value p.value) (λ same. other (texts_equal value p.value same))

  before_set : has_separator p ≡ true → value ≢ p.value
      → with_value_before o source value ps p ≡ with_value source value p
  before_set has other =
      cond-false (is_text value p.value) _ _ (is_other other) ∙ cond-true (has_separator p) _ _ has

  before_separated : has_separator p ≡ false → value ≢ p.value
      → with_value_before o source value ps p ≡ with_separator o source value ps p
  before_separated lone other =
      cond-false (is_text value p.value) _ _ (is_other other) ∙ cond-false (has_separator p) _ _ lone

-- a section with the value of the pair at a place set
module _ {o : ParseOption} {policy : EscapePolicy} {value : Text} (s : SectionPiece) {p : Place PairPiece}
    {i : ℕ} (at : IsPlaceAt s.pairs p i) where
  pub set_here : {source written : Text} {new : SectionPiece} → has_separator p.here ≡ true
      → value ≢ p.here.value
      → IsWrittenInPlace o policy p.here.stretches.raw_value p.here.stretches.note p.here.value value source
      → written ≡ value
      → new ≡ with_pairs s (set s.pairs i (with_value source written (get_or s.pairs i p.here)))
      → IsSetAt o policy value s new p
  set_here {source} has other put same is = record {
    source = source;
    is_written = put;
    is = is ∙ ap (λ v. with_pairs s (set s.pairs i (with_value source v (get_or s.pairs i p.here)))) same
        ∙ ap (with_pairs s) (ap (λ q. set s.pairs i (with_value source value q)) (place_here at p.here)
        ∙ place_set at (with_value source value p.here))
        ∙ ap (λ q. with_pairs s (exchanged p (q ∷ [])))
        (sym (before_set o source value p.after p.here has other));
  }

  -- a key alone gets a separator
  pub set_separated : {source written : Text} {new : SectionPiece} → has_separator p.here ≡ false
      → value ≢ p.here.value
      → IsWrittenInPlace o policy p.here.stretches.raw_value p.here.stretches.note p.here.value value source
      → written ≡ value → new ≡ pair_changed_in (with_separator o source written p.after) s p
      → IsSetAt o policy value s new p
  set_separated {source} lone other put same is = record {
    source = source;
    is_written = put;
    is = is ∙ ap (λ v. pair_changed_in (with_separator o source v p.after) s p) same
        ∙ ap (λ q. with_pairs s (exchanged p (q ∷ [])))
        (sym (before_separated o source value p.after p.here lone other));
  }

  pub set_stays : value ≡ p.here.value → IsSetAt o policy value s s p
  set_stays same =
      let source = p.here.stretches.raw_value in
      record {
        source = source;
        is_written = IsWrittenInPlace.stays same;
        is = ap (with_pairs s) (at.whole
            ∙ ap (λ q. p.before ++ q ∷ p.after) (sym (before_stays o source value p.after p.here same)));
      }

-- the spans of a pair and the gap after it, with the value
module _ {o : ParseOption} {policy : EscapePolicy} {value source : Text} (p : PairPiece)
    (put : IsWrittenInPlace o policy p.stretches.raw_value p.stretches.note p.value value source) (ps : List PairPiece)
    (rest : List SectionPiece) (named : list_all has_name rest ≡ true) (front : List Span)
    (h : AreSpans o line_feed (front ++ (pair p.stretches p.key p.value ∷ (gap p.after
    ∷ (pairs_spans ps ++ sections_spans rest)))) []) where
  abbrev Put : PairPiece → Type 0
  Put q = AreSpans o line_feed (front ++ (pair q.stretches q.key q.value ∷ (gap q.after
      ∷ (pairs_spans ps ++ sections_spans rest)))) []

  pub spans_before_set : Put (with_value_before o source value ps p)
  spans_before_set = cond_both (is_text value p.value) _ _ Put (λ same. h)
      (λ other. cond_both (has_separator p) _ _ Put
      (λ has. spans_set source value p (pair_written_so p (read other put)) has front
      (gap p.after ∷ (pairs_spans ps ++ sections_spans rest)) h)
      (λ lone. spans_separated p ps rest (read other put) (apart other) lone named front h))
    where
      apart : is_text value p.value ≡ false → value ≢ p.value
      apart other same = false≢true (sym other ∙ ap (λ v. is_text v p.value) same ∙ text_refl p.value)

      read : is_text value p.value ≡ false → {source : Text}
          → IsWrittenInPlace o policy p.stretches.raw_value p.stretches.note p.value value source
          → IsReadAs o source value
      read other (IsWrittenInPlace.stays same) = absurd (apart other same)
      read other (IsWrittenInPlace.written new keeps first) = first_read first

-- the pair at a place changed, as the pair at its index is
pub changed_in : {s t : SectionPiece} {i : ℕ} {x y : PairPiece} (f : PairPiece → PairPiece)
    (p : Place PairPiece) → t ≡ s → IsPlaceAt s.pairs p i → x ≡ get_or t.pairs i x → y ≡ f x
    → with_pairs t (set t.pairs i y) ≡ pair_changed_in f s p
changed_in {s} {t} {i} f p same at read is =
    let there = subst (λ s. IsPlaceAt s.pairs p i) (sym same) at in
    ap (λ y. with_pairs t (set t.pairs i y)) (is ∙ ap f (place_read there read))
    ∙ ap (with_pairs t) (place_set there (f p.here)) ∙ ap (λ s. with_pairs s (exchanged p (f p.here ∷ []))) same

-- the sections with it in its place
module _ {o : ParseOption} {policy : EscapePolicy} {value : Text} {ss : List SectionPiece} {i j : ℕ}
    (place : PairPlace) (at : IsPlaceAt ss place.section i)
    (within : IsPlaceAt place.section.here.pairs place.pair j) {new : SectionPiece}
    (is : IsSetAt o policy value place.section.here new place.pair) where
  pub sections_now : set ss i new
      ≡ pair_changed_at (with_value_before o is.source value place.pair.after) place
  sections_now = place_set at new ∙ ap (λ s. exchanged place.section (s ∷ [])) is.is

  pub nth_set : {name : Option Text} {key : Text} {n : ℕ} → pair_place name key n ss ≡ Some place
      → IsNthSet o policy ss (set ss i new) name key n value
  nth_set was = record {
    place = place;
    was = was;
    source = is.source;
    is_written = is.is_written;
    is = sections_now;
  }

  pub sections_set_at : AreSections o ss → AreSections o (set ss i new)
  sections_set_at are =
      let p = place.pair.here in
      let s = place.section in
      let named = names_after s.before s.here s.after (subst BeginGeneral at.whole are.begin_general) in
      subst (AreSections o) (sym sections_now)
      (pairs_put_in o at place.pair.before (p ∷ [])
      (with_value_before o is.source value place.pair.after p ∷ []) place.pair.after within.whole
      (spans_before_set p is.is_written place.pair.after s.after named
      (spans_before_pairs s place.pair.before)) are)

-- the same, by what is read at the index
module _ {found : Option PairPlace} {ss : List SectionPiece} {i j : ℕ} (at : IsPairAt found ss i j)
    {s : SectionPiece} (read : s ≡ get_or ss i s) where
  pub here_read : s ≡ at.place.section.here
  here_read = place_read at.section read

  pub place_in : IsPlaceAt s.pairs at.place.pair j
  place_in = subst (λ s. IsPlaceAt s.pairs at.place.pair j) (sym here_read) at.pair

  pub pair_within : j < length s.pairs
  pair_within = place_within place_in

  pub own_read : {o : ParseOption} → AreSections o ss → HaveOwnSources o s.pairs
  own_read {o} are = subst (λ s. HaveOwnSources o s.pairs) (sym read)
      (sections_own ss are.spans i s (place_within at.section))

  module _ {o : ParseOption} {policy : EscapePolicy} {value : Text} {new : SectionPiece}
      (is : IsSetAt o policy value s new at.place.pair) where
    there : IsSetAt o policy value at.place.section.here new at.place.pair
    there = subst (λ s. IsSetAt o policy value s new at.place.pair) here_read is

    pub nth_set_read : {name : Option Text} {key : Text} {n : ℕ} → pair_place name key n ss ≡ found
        → IsNthSet o policy ss (set ss i new) name key n value
    nth_set_read same = nth_set at.place at.section at.pair there (same ∙ at.is)

    pub sections_set_read : AreSections o ss → AreSections o (set ss i new)
    sections_set_read are = sections_set_at at.place at.section at.pair there are
