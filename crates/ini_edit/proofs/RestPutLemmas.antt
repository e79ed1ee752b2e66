-- What stays of a section that is taken out, and the line end before it, as they are put.
use Rattle.std.proofs.Common.{◌≡◌, ◌≢◌, ◌∙◌, ◌&&◌, ◌||◌, ℕ, Bool, true, false, cond, not, List, [], ◌∷◌}
use Rattle.std.proofs.Common.{◌++◌, ap, append-nil, inl, inr, refl, sym}
use Rattle.std.specs.Prelude.{is_some}
use Rattle.std.proofs.lemmas.Bool.{and_parts, both_ways, false≢true, not-true, or_cases, or_left}
use Rattle.ini_text.specs.Grammar.CharacterKinds.{BeginsWith, BeginsWithNo, is_blank, is_comment_mark}
use Rattle.ini_text.specs.Grammar.CharacterKinds.{is_line_end, is_line_feed}
use Rattle.ini_text.specs.Grammar.Places.{Stretches, after_key_source, pair_source, separator_text}
use Rattle.ini_text.specs.Grammar.Places.{value_source}
use Rattle.ini_text.specs.Grammar.Positions.{last_or}
use Rattle.ini_text.specs.Grammar.CharacterKinds.{begins}
use Rattle.ini_text.specs.declared.option.ParseOption.{ParseOption}
use Rattle.ini_text.proofs.GrammarLemmas.KindLemmas.{comment_mark-apart}
use Rattle.ini_text.proofs.LawLemmas.PieceLemmas.{last_or-append}
use Rattle.ini.specs.Texts.{Text}
use Rattle.ini_edit.specs.Inside.InPlace.{AreInPlace}
use Rattle.ini_edit.specs.Inside.SourceEnds.{put_after_kept}
use Rattle.ini_edit.specs.Inside.Spans.{AreSpans, IsGap, IsSpan, pair, sections_spans, span_source}
use Rattle.ini_edit.specs.Places.{Follows}
use Rattle.ini_edit.specs.SourceEditsSections.{section_rest}
use Rattle.ini_edit.specs.SourceLines.{is_empty}
use Rattle.ini_edit.specs.SourcePlaces.{is_nil}
use Rattle.ini_edit.specs.Sources.{SectionPiece, joined}
use Rattle.ini_edit.proofs.DeletedLinesLemmas.{IsLineEnd}
use Rattle.ini_edit.proofs.GapPartLemmas.{gap_nothing}
use Rattle.ini_edit.proofs.PairEndedLemmas.{value_end}
use Rattle.ini_edit.proofs.PairViewLemmas.{goes_on}
use Rattle.ini_edit.proofs.HeaderLemmas.{EmptyOrHeader, header_follows}
use Rattle.ini_edit.proofs.SectionRestLemmas.{Rest, rest_at_end, rest_of_next}
use Rattle.ini_edit.proofs.SectionTakenLemmas.{AreLike, IsFeed}

-- the line end before what stays, and that, as they are put
abbrev pub goes_after : (last : ℕ) → Text → Bool
goes_after last rest = is_line_end last && (is_line_feed last || not (begins is_comment_mark rest))

abbrev pub would_take : ParseOption → (kept : Text) → SectionPiece → (rest : Text) → Bool
would_take o kept s rest =
    o.enabled_indented_mutiline_value && (is_empty kept && (not (is_nil s.pairs) && begins is_blank rest))

abbrev pub put_so : ParseOption → ℕ → Text → Text → SectionPiece → Text → SectionPiece
put_so o last l rest s kept =
    put_after_kept o kept (cond (goes_after (last_or last kept) rest) [] l)
    (cond (would_take o kept s rest) [] rest) s

begins_is : (test : ℕ → Bool) (x : Text) → BeginsWith test x → begins test x ≡ true
begins_is test [] h = absurd (false≢true (sym h))
begins_is test (c ∷ x) h = h

pub begins_not : (test : ℕ → Bool) (x : Text) → begins test x ≡ false → BeginsWithNo test x
begins_not test [] h = tt
begins_not test (c ∷ x) h = h

pub kind_of : (g : Bool) {l : Text} → IsLineEnd l → IsLineEnd (cond g [] l)
kind_of true is = IsLineEnd.none
kind_of false is = is

pub like_nothing : (g : Bool) {rest : Text} {d : ℕ} → AreLike rest d → AreLike (cond g [] rest) d
like_nothing true like = record {
  line = λ h. absurd (false≢true (sym h));
  column = λ h. absurd (false≢true (sym h));
}
like_nothing false like = like

pub rest_nothing : {o : ParseOption} (g : Bool) {e : ℕ} {z rest R : Text} → Rest o e z rest R
    → Rest o e z (cond g [] rest) R
rest_nothing true {z = z} stays = record {
  before = z;
  whole = sym (append-nil z);
  is = gap_nothing;
  line = λ h. absurd (false≢true (sym h));
  column = λ h. absurd (false≢true (sym h));
  no_end = tt;
}
rest_nothing false stays = stays

-- what the line end is, before what stays
pub record EndsSo (old : ℕ) (rest l : Text) : Type 0 where
  pub kind : IsLineEnd l
  pub last : is_line_end old ≡ true → (c : ℕ) → last_or c l ≡ old
  pub line : BeginsWith is_blank rest → is_line_end old ≡ true
  pub column : BeginsWith is_comment_mark rest → is_line_feed old ≡ true

pub like_put : (d old : ℕ) (rest l : Text) → EndsSo old rest l
    → AreLike rest (last_or d (cond (goes_after d rest) [] l))
like_put d old rest l ends = at (goes_after d rest) refl
  where
    at : (g : Bool) → goes_after d rest ≡ g → AreLike rest (last_or d (cond g [] l))
    at true goes =
        let parts = and_parts (is_line_end d) (is_line_feed d || not (begins is_comment_mark rest)) goes in
        record {
          line = λ h. parts.0;
          column = λ h. elim (or_cases (is_line_feed d) (not (begins is_comment_mark rest)) parts.1) [
            | inl feed ↦ feed
            | inr other ↦ absurd (both_ways (begins is_comment_mark rest) (not-true _ other)
                (begins_is is_comment_mark rest h))
          ];
        }
    at false stays = record {
      line = λ h. ap is_line_end (ends.last (ends.line h) d) ∙ ends.line h;
      column = λ h. ap is_line_feed (ends.last (or_left (is_line_feed old) _ (ends.column h)) d)
          ∙ ends.column h;
    }

pub feed_kind : {l : Text} → IsLineEnd l → ((c : ℕ) → is_line_feed (last_or c l) ≡ true) → IsFeed l
feed_kind IsLineEnd.none feed = absurd (false≢true (feed 0))
feed_kind IsLineEnd.lf feed = IsFeed.lf
feed_kind IsLineEnd.cr_lf feed = IsFeed.cr_lf
feed_kind IsLineEnd.cr feed = absurd (false≢true (feed 0))

pub nil_one : {A : Type 0} (xs : List A) (x : A) → is_nil (xs ++ x ∷ []) ≡ false
nil_one [] x = refl
nil_one (y ∷ xs) x = refl

-- what may follow a multiline value: what stays, if no blank begins it
pub rest_follows : {o : ParseOption} (r y : Text) → BeginsWithNo is_blank r → BeginsWithNo is_line_end r
    → EmptyOrHeader y → Follows o (r ++ y)
rest_follows [] y blank end header = header_follows header
rest_follows (c ∷ r) y blank end header = record { no_blank = λ _. blank; no_line_end = λ _. end }

pub rest_for : {o : ParseOption} (e : ℕ) (z : Text) (after : List SectionPiece)
    → (after ≢ [] → joined span_source (sections_spans after) ++ [] ≢ [])
    → IsGap o e z (joined span_source (sections_spans after) ++ [])
    → Rest o e z (section_rest o (is_nil after) e z) (joined span_source (sections_spans after) ++ [])
rest_for e z [] some g = rest_at_end e z g
rest_for e z (a ∷ more) some g = rest_of_next e z (some (λ h. cc)) g

pub empty_is : (x : Text) → is_empty x ≡ true → x ≡ []
empty_is [] h = refl
empty_is (c ∷ x) h = absurd (false≢true h)

pub marked : (end feed mark : Bool) → (end && (feed || not mark)) ≡ false → end ≡ true → mark ≡ true
marked true feed true h e = refl
marked true true false h e = sym h
marked true false false h e = sym h
marked false feed mark h e = absurd (false≢true e)

pub mark_no_blank : (x : Text) → BeginsWith is_comment_mark x → begins is_blank x ≡ false
mark_no_blank [] h = refl
mark_no_blank (c ∷ x) h = (comment_mark-apart c h).0

pub pair_line_end : {o : ParseOption} {c : ℕ} {p : Stretches} {key value y : Text}
    → (o.enabled_indented_mutiline_value && is_some p.separator) ≡ true → y ≢ []
    → AreSpans o c (pair p key value ∷ []) y → is_line_end (last_or c (pair_source p)) ≡ true
pair_line_end {o} {c} {p} multiline some (AreInPlace.more (IsSpan.is_pair h) AreInPlace.none) =
    let separator = separator_text p.separator in
    let on = (and_parts o.enabled_indented_mutiline_value (is_some p.separator) multiline).0 in
    ap is_line_end (last_or-append c p.key (after_key_source p)
    ∙ last_or-append (last_or c p.key) separator (value_source p))
    ∙ value_end (last_or (last_or c p.key) separator) on (goes_on h multiline).gives some
