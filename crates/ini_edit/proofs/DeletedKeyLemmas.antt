-- A key alone taken out after a multiline value: its line end goes, or is an empty line of that value; or an
-- empty comment keeps what follows apart from the value.
use Rattle.std.proofs.Common.{◌≡◌, ◌∙◌, ◌&&◌, ℕ, Bool, true, false, not, [], ◌∷◌, ◌++◌, ap, append-nil}
use Rattle.std.proofs.Common.{eqb-true, if◌then◌else◌, inl, inr, refl, subst, sym}
use Rattle.std.specs.Prelude.{is_some}
use Rattle.std.proofs.lemmas.Bool.{and_parts, both_ways, false_from_ne_true, false≢true, not_from_true}
use Rattle.std.proofs.lemmas.Bool.{or_cases}
use Rattle.ini_text.specs.Grammar.CharacterKinds.{BeginsWith, BeginsWithNo, carriage_return, is_comment_mark}
use Rattle.ini_text.specs.Grammar.CharacterKinds.{is_line_end, is_line_feed, line_feed, semicolon, space}
use Rattle.ini_text.specs.Grammar.Elements.{Element}
use Rattle.ini_text.specs.Grammar.Places.{Stretches, pair_source}
use Rattle.ini_text.specs.Grammar.Positions.{last_or}
use Rattle.ini_text.specs.Grammar.Values.{MoreLines}
use Rattle.ini_text.specs.Grammar.CharacterKinds.{begins}
use Rattle.ini_text.specs.Inside.LineReader.{past_note}
use Rattle.ini_text.specs.Laws.PieceLaws.{Agree}
use Rattle.ini_text.specs.Parsing.Fronts.{front_of}
use Rattle.ini_text.specs.declared.option.ParseOption.{ParseOption}
use Rattle.ini_text.proofs.LawLemmas.ExportedLemmas.{front_is}
use Rattle.ini_text.proofs.LawLemmas.LocalLemmas.{Agree-front}
use Rattle.ini_text.proofs.LawLemmas.PieceLemmas.{last_or-append}
use Rattle.ini_text.proofs.ReaderLemmas.LineReaderLemmas.{TextEnds}
use Rattle.ini.specs.Texts.{Text, is_text}
use Rattle.ini_edit.specs.Inside.Spans.{IsGap}
use Rattle.ini_edit.specs.Places.{Follows}
use Rattle.ini_edit.specs.SourceEditsDelete.{empty_comment, goes_after, left_after, to_line_feed}
use Rattle.ini_edit.specs.SourceLines.{after_line_end, ends_alike, is_blank_or_line_end, line_end_at_end}
use Rattle.ini_edit.proofs.BlankLineLemmas.{AreBlank, no_lines}
use Rattle.ini_edit.proofs.DeletedLinesLemmas.{IsLineEnd, alike_is, begins_here, end_blank, end_is}
use Rattle.ini_edit.proofs.DeletedPairLemmas.{IsThere}
use Rattle.ini_edit.proofs.GapLemmas.{gap_like, gap_more, no_gap}
use Rattle.ini_edit.proofs.InPlaceLemmas.{Agree-after}
use Rattle.ini_edit.proofs.LineCutLemmas.{LineHead, OwnCut, own_cut, past_nothing, text_closes}
use Rattle.ini_edit.proofs.MarkLemmas.{mark_apart}
use Rattle.ini_edit.proofs.PairViewLemmas.{one_line}
use Rattle.ini_edit.proofs.SourceSetLemmas.{closed_agrees, last_agrees}

-- no comment mark is a blank or a line end
no_mark : {X : Type 0} (x : Text) → BeginsWith is_blank_or_line_end x → BeginsWith is_comment_mark x → X
no_mark [] begins mark = absurd (false≢true (sym begins))
no_mark (c ∷ x) begins mark = absurd (both_ways (is_blank_or_line_end c) (mark_apart c mark) begins)

unmarked_by : (x : Text) → BeginsWith is_blank_or_line_end x → BeginsWithNo is_comment_mark x
unmarked_by [] begins = tt
unmarked_by (c ∷ x) begins =
    false_from_ne_true (is_comment_mark c)
    (λ mark. both_ways (is_blank_or_line_end c) (mark_apart c mark) begins)

-- nothing stays of no line end
nothing_left : (goes ends : Bool)
    → (if goes then [] else (if ends && false then space ∷ [] else [])) ≡ []
nothing_left true ends = refl
nothing_left false true = refl
nothing_left false false = refl

-- where an LF stands last, or one is put
pub feed_last : (last : ℕ) → last_or last (to_line_feed last) ≡ line_feed
feed_last last = at (is_line_feed last) refl
  where
    at : (feed : Bool) → is_line_feed last ≡ feed
        → last_or last (if feed then [] else line_feed ∷ []) ≡ line_feed
    at true is = eqb-true last line_feed is
    at false is = refl

-- Lines and a gap that may stand after a multiline value, which ends in this character, in place of a pair
-- and the gap b, before r.
pub record MayBePut (o : ParseOption) (last : ℕ) (p : Stretches) (b r lines g : Text) : Type 0 where
  pub are : AreBlank o lines (g ++ r)
  pub is_gap : IsGap o (last_or last lines) g r
  pub agrees : Agree o (last_or (last_or last (pair_source p)) b ∷ [])
      (last_or (last_or last lines) g ∷ []) r

-- what follows the line end after the pair, the last character before which is e
record AfterEnd (o : ParseOption) (before : ℕ) (b c r : Text) (e : ℕ) : Type 0 where
  is_gap : IsGap o e c r
  last : last_or before b ≡ last_or e c
  agrees : BeginsWith is_blank_or_line_end (c ++ r) → Agree o (e ∷ []) (line_feed ∷ []) (c ++ r)

module _ {o : ParseOption} {last : ℕ} {p : Stretches} {key value b r : Text}
    (there : IsThere o last p key value b r)
    (off : (o.enabled_indented_mutiline_value && is_some p.separator) ≡ false) where
  abbrev after_pair : ℕ
  after_pair = last_or last (pair_source p)

  abbrev later : Text
  later = after_line_end (past_note o b)

  own : OwnCut o after_pair b r
  own = own_cut there.is off there.is_gap

  none_later : b ≡ [] → later ≡ []
  none_later none = ap (λ t. after_line_end (past_note o t)) none ∙ ap after_line_end (past_nothing o)

  -- what ends the text or a line ends it after all characters
  closed : {c d : ℕ} → b ≡ [] → BeginsWithNo is_comment_mark r → Agree o (c ∷ []) (d ∷ []) r
  closed none unmarked =
      closed_agrees r (text_closes o r
      (subst (λ t. TextEnds o (t ++ r)) none (one_line there.is off).1) unmarked)

  cut_there : {f c : Text} → b ≡ f ++ c → LineHead o after_pair f c → IsGap o (last_or after_pair f) c r
  cut_there same head = head.rest r (subst (λ t. IsGap o after_pair t r) same there.is_gap)

  cut_last : (f c : Text) → b ≡ f ++ c → last_or after_pair b ≡ last_or (last_or after_pair f) c
  cut_last f c same = ap (last_or after_pair) same ∙ last_or-append after_pair f c

  -- before what a multiline value would take
  after_end : (e : ℕ) × AfterEnd o after_pair b later r e
  after_end = at own
    where
      at : OwnCut o after_pair b r → (e : ℕ) × AfterEnd o after_pair b later r e
      at (OwnCut.nothing none) = (
        after_pair,
        subst (λ c. AfterEnd o after_pair b c r after_pair) (sym (none_later none)) (record {
          is_gap = no_gap;
          last = ap (last_or after_pair) none;
          agrees = λ begins. closed none (unmarked_by r begins);
        }),
      )
      at (OwnCut.noted some closes one is head) = (
        last_or after_pair b,
        subst (λ c. AfterEnd o after_pair b c r (last_or after_pair b)) (sym is)
            (record { is_gap = no_gap; last = refl; agrees = λ begins. closed_agrees r closes }),
      )
      at (OwnCut.cut f e c same head end one ends is) = (
        last_or after_pair f,
        subst (λ c. AfterEnd o after_pair b c r (last_or after_pair f)) (sym is) (record {
          is_gap = cut_there same head;
          last = cut_last f c same;
          agrees = λ begins. record {
            line = λ m. head.starts after_pair;
            column = λ m. no_mark (c ++ r) begins m;
            comment = λ _ m. no_mark (c ++ r) begins m;
          };
        }),
      )

  pub comment_between : BeginsWith is_blank_or_line_end (later ++ r)
      → MayBePut o last p b r (to_line_feed last) (empty_comment (line_feed ∷ []) ++ later)
  comment_between begins =
      let end = after_end.1 in
      let agree = end.agrees begins in
      let is : IsGap o line_feed later r = gap_like (Agree-front r agree) end.is_gap in
      record {
        are = at (is_line_feed last);
        is_gap = subst (λ d. IsGap o d (empty_comment (line_feed ∷ []) ++ later) r) (sym (feed_last last))
            (gap_more (Element.comment {m = semicolon} [] refl refl refl) is);
        agrees = subst (λ z. Agree o (z ∷ []) (last_or line_feed later ∷ []) r) (sym end.last)
            (Agree-after later r agree);
      }
    where
      at : (feed : Bool) → AreBlank o (if feed then [] else line_feed ∷ [])
          ((empty_comment (line_feed ∷ []) ++ later) ++ r)
      at true = no_lines refl refl
      at false = record {
        value = line_feed ∷ [];
        are = MoreLines.empty_lf (MoreLines.done refl refl);
        all = refl;
      }

  -- before all else
  module _ (on : o.enabled_indented_mutiline_value ≡ true) (starts : is_line_end last ≡ true)
      (unmarked : BeginsWithNo is_comment_mark r) where
    abbrev Left : (end c : Text) → Type 0
    Left end c = MayBePut o last p b r (left_after true last end [] c) c

    -- no line end
    none_left : Agree o (last_or after_pair b ∷ []) (last ∷ []) r → Follows o r → Left [] []
    none_left agree follows =
        subst (λ l. MayBePut o last p b r l [])
        (sym (nothing_left (goes_after last [] [] []) (is_line_end last)))
        (record {
          are = no_lines (follows.no_blank on) (follows.no_line_end on);
          is_gap = no_gap;
          agrees = agree;
        })

    -- the line end, or one that ends alike, stays
    kept : {f c : Text} (l : Text) → b ≡ f ++ c → LineHead o after_pair f c
        → last_or after_pair f ≡ last_or last l → AreBlank o l (c ++ r) → MayBePut o last p b r l c
    kept {f} {c} l same head is are = record {
      are = are;
      is_gap = subst (λ d. IsGap o d c r) is (cut_there same head);
      agrees = last_agrees (cut_last f c same ∙ ap (λ d. last_or d c) is);
    }

    -- it goes
    gone : {f c : Text} (e : Text) → b ≡ f ++ c → LineHead o after_pair f c
        → ((d : ℕ) → last_or d f ≡ last_or last e) → Follows o (c ++ r) → goes_after last e [] c ≡ true
        → MayBePut o last p b r [] c
    gone {f} {c} e same head ends follows goes =
        let alike : BeginsWith is_comment_mark (c ++ r) → ends_alike last (last_or last e) ≡ true = λ m.
        elim (or_cases (ends_alike last (last_or last e)) (not (begins is_comment_mark c))
        (and_parts (is_line_end last) _ goes).1) [
          | inl is ↦ is
          | inr other ↦
              absurd (both_ways (not (begins is_comment_mark c))
              (not_from_true (begins is_comment_mark c) (begins_here c r unmarked m)) other)
        ] in
        let agree : Agree o (last_or after_pair f ∷ []) (last ∷ []) (c ++ r) = record {
          line = λ m. head.starts after_pair ∙ sym starts;
          column = λ m. ap is_line_feed (ends after_pair) ∙ alike_is last (last_or last e) (alike m);
          comment = λ _ m. head.starts after_pair ∙ sym starts;
        } in
        record {
          are = no_lines (follows.no_blank on) (follows.no_line_end on);
          is_gap = gap_like (Agree-front r agree) (cut_there same head);
          agrees = subst (λ z. Agree o (z ∷ []) (last_or last c ∷ []) r) (sym (cut_last f c same))
              (Agree-after c r agree);
        }

    cut : {f e c : Text} → b ≡ f ++ c → LineHead o after_pair f c → ((d b : ℕ) → last_or d f ≡ last_or b e)
        → IsLineEnd e → Follows o (c ++ r) → Left e c
    cut {f} {e} {c} same head ends kind follows = at (goes_after last e [] c) refl
      where
        one : (blank : Bool) → last_or last (if blank then space ∷ e else e) ≡ last_or after_pair f
        one true = sym (ends after_pair space)
        one false = sym (ends after_pair last)

        at : (goes : Bool) → goes_after last e [] c ≡ goes
            → MayBePut o last p b r (if goes then []
            else (if true && (is_line_end last && is_text e (carriage_return ∷ [])) then space ∷ e else e)) c
        at true goes = gone e same head (λ d. ends d last) follows goes
        at false stays =
            let blank = is_line_end last && is_text e (carriage_return ∷ []) in
            kept (if blank then space ∷ e else e) same head (sym (one blank))
            (end_blank last on follows starts kind blank refl)

    pub line_left : Follows o (later ++ r)
        → MayBePut o last p b r
        (left_after true last (line_end_at_end (front_of b later)) [] later) later
    line_left follows = at own
      where
        at : OwnCut o after_pair b r → Left (line_end_at_end (front_of b later)) later
        at (OwnCut.nothing none) =
            let is = none_later none in
            subst (λ c. Left (line_end_at_end (front_of b c)) c) (sym is)
            (subst (λ f. Left (line_end_at_end f) []) (sym (front_is b [] b (append-nil b)))
            (subst (λ t. Left (line_end_at_end t) []) (sym none)
            (none_left (closed none unmarked) (subst (λ c. Follows o (c ++ r)) is follows))))
        at (OwnCut.noted some closes one is head) =
            subst (λ c. Left (line_end_at_end (front_of b c)) c) (sym is)
            (subst (λ f. Left (line_end_at_end f) []) (sym (front_is b [] b (append-nil b)))
            (subst (λ e. Left e []) (sym one)
            (none_left (closed_agrees r closes) (subst (λ c. Follows o (c ++ r)) is follows))))
        at (OwnCut.cut f e c same head end one ends is) =
            subst (λ c. Left (line_end_at_end (front_of b c)) c) (sym is)
            (subst (λ g. Left (line_end_at_end g) c) (sym (front_is f c b (sym same)))
            (subst (λ e. Left e c) (sym one)
            (cut same head ends (subst IsLineEnd one (end_is f))
            (subst (λ c. Follows o (c ++ r)) is follows))))
