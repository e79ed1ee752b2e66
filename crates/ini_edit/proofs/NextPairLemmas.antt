-- What stands after a pair's gap is the next pair, or a header; and whether a multiline value would take
-- what follows a key alone.
use Rattle.std.proofs.Common.{◌≡◌, ◌∙◌, ◌&&◌, ◌||◌, ℕ, Bool, true, false, not, List, [], ◌∷◌, ◌++◌, ap}
use Rattle.std.proofs.Common.{append_assoc, append-nil, inl, inr, refl, subst, sym}
use Rattle.std.proofs.lemmas.Bool.{both_ways, false_from_ne_true, false≢true, or_cases, or_left, or_parts}
use Rattle.std.specs.List.{list_all}
use Rattle.ini_text.specs.Grammar.CharacterKinds.{BeginsWith, BeginsWithNo, is_blank, is_comment_mark}
use Rattle.ini_text.specs.Grammar.CharacterKinds.{is_line_end}
use Rattle.ini_text.specs.Grammar.Places.{after_key_source, pair_source}
use Rattle.ini_text.specs.Grammar.CharacterKinds.{begins}
use Rattle.ini_text.specs.declared.option.ParseOption.{ParseOption}
use Rattle.ini_text.proofs.GrammarLemmas.KindLemmas.{comment_mark-apart}
use Rattle.ini.specs.Texts.{Text}
use Rattle.ini_edit.specs.Inside.InPlace.{AreInPlace}
use Rattle.ini_edit.specs.Inside.SourceEnds.{IsPlaceAt}
use Rattle.ini_edit.specs.Inside.Spans.{AreSections, AreSpans, BeginGeneral, IsSpan, gap, pairs_spans}
use Rattle.ini_edit.specs.Inside.Spans.{sections_spans, span_source}
use Rattle.ini_edit.specs.Places.{Follows}
use Rattle.ini_edit.specs.SourceEditsDelete.{begin_with_blank, gap_after, would_be_taken}
use Rattle.ini_edit.specs.SourceLines.{is_blank_or_line_end, is_empty}
use Rattle.ini_edit.specs.SourcePlaces.{Place}
use Rattle.ini_edit.specs.Sources.{PairPiece, SectionPiece, has_separator, joined}
use Rattle.ini_edit.proofs.CommentLemmas.{no_key}
use Rattle.ini_edit.proofs.CommentPutLemmas.{bare}
use Rattle.ini_edit.proofs.HeaderLemmas.{EmptyOrHeader, header_follows}
use Rattle.ini_edit.proofs.PairViewLemmas.{key_front_of}
use Rattle.ini_edit.proofs.QuietLemmas.{line_end_no_mark}
use Rattle.ini_edit.proofs.SectionBeginLemmas.{has_name, names_after, sections_begin}
use Rattle.ini_edit.proofs.SourceSpanLemmas.{spans_after_pairs}

-- the text x is that of these pairs, and of what follows them
pub record IsNext (o : ParseOption) (ps : List PairPiece) (x : Text) : Type 0 where
  pub apart : begin_with_blank ps ≡ false → Follows o x
  pub blank : begin_with_blank ps ≡ true → BeginsWith is_blank x
  pub unmarked : BeginsWithNo is_comment_mark x

blank_front : (k a b c : Text) → begins is_blank k ≡ true → BeginsWith is_blank (((k ++ a) ++ b) ++ c)
blank_front [] a b c h = absurd (false≢true h)
blank_front (d ∷ k) a b c h = h

no_mark_begins : (x : Text) → (BeginsWith is_comment_mark x → ⊥) → BeginsWithNo is_comment_mark x
no_mark_begins [] apart = tt
no_mark_begins (c ∷ x) apart = false_from_ne_true (is_comment_mark c) apart

header_unmarked : {x : Text} → EmptyOrHeader x → BeginsWithNo is_comment_mark (x ++ [])
header_unmarked EmptyOrHeader.empty = tt
header_unmarked (EmptyOrHeader.header r) = refl

-- neither does a comment
pub unmarked_after : {o : ParseOption} {c : ℕ} (ps : List PairPiece) (rest : List SectionPiece)
    → list_all has_name rest ≡ true → AreSpans o c (pairs_spans ps ++ sections_spans rest) []
    → BeginsWithNo is_comment_mark (joined span_source (pairs_spans ps ++ sections_spans rest) ++ [])
unmarked_after [] rest named h = header_unmarked (sections_begin rest named h).0
unmarked_after (q ∷ qs) rest named (AreInPlace.more (IsSpan.is_pair is) later) =
    let more = joined span_source (gap q.after ∷ (pairs_spans qs ++ sections_spans rest)) in
    let text = append_assoc (pair_source q.stretches) more []
    ∙ append_assoc q.stretches.key (after_key_source q.stretches) (more ++ []) in
    no_mark_begins ((pair_source q.stretches ++ more) ++ [])
    (λ mark. no_key (key_front_of is) (subst (BeginsWith is_comment_mark) text mark))

pub next_pairs : {o : ParseOption} {ss : List SectionPiece} {s : Place SectionPiece} {i c : ℕ}
    → IsPlaceAt ss s i → AreSections o ss → (ps : List PairPiece) → AreSpans o c (spans_after_pairs s ps) []
    → IsNext o ps (joined span_source (spans_after_pairs s ps) ++ [])
next_pairs {o} {s = s} at are [] h = record {
  apart = λ _. subst (Follows o) (sym (append-nil (joined span_source (spans_after_pairs s []))))
      (header_follows (sections_begin s.after
      (names_after s.before s.here s.after (subst BeginGeneral at.whole are.begin_general)) h).0);
  blank = λ no. absurd (false≢true no);
  unmarked = unmarked_after [] s.after
      (names_after s.before s.here s.after (subst BeginGeneral at.whole are.begin_general)) h;
}
next_pairs {o} {s = s} at are (q ∷ qs) (AreInPlace.more (IsSpan.is_pair is) rest) = record {
  apart = λ other. bare o [] (gap q.after ∷ spans_after_pairs s qs) q.stretches q.key q.value [] [] [] is
      other;
  blank = λ begins. blank_front q.stretches.key _ _ [] begins;
  unmarked = unmarked_after (q ∷ qs) s.after
      (names_after s.before s.here s.after (subst BeginGeneral at.whole are.begin_general))
      (AreInPlace.more (IsSpan.is_pair is) rest);
}

-- a multiline value would take such a gap, or these pairs after it
abbrev pub taken : Text → List PairPiece → Bool
taken g ps = begins is_blank_or_line_end g || (is_empty g && begin_with_blank ps)

pub taken_is : (o : ParseOption) (p : PairPiece) (ps : List PairPiece) {r : Text}
    → o.enabled_indented_mutiline_value ≡ true → has_separator p ≡ false → gap_after o p ≡ r
    → would_be_taken o p ps ≡ taken r ps
taken_is o p ps on lone is =
    ap (λ m. m && (not (has_separator p) && taken (gap_after o p) ps)) on
    ∙ ap (λ h. not h && taken (gap_after o p) ps) lone ∙ ap (λ g. taken g ps) is

blank_or : (x : Text) → BeginsWith is_blank x → BeginsWith is_blank_or_line_end x
blank_or [] h = h
blank_or (c ∷ x) h = or_left (is_blank c) (is_line_end c) h

module _ {o : ParseOption} {ps : List PairPiece} {x : Text} (next : IsNext o ps x) where
  pub taken_begins : (r : Text) → taken r ps ≡ true → BeginsWith is_blank_or_line_end (r ++ x)
  taken_begins [] h = blank_or x (next.blank h)
  taken_begins (c ∷ r) h = at (is_blank_or_line_end c) h
    where
      at : (b : Bool) → (b || false) ≡ true → b ≡ true
      at true h = refl
      at false h = h

  pub apart_follows : (r : Text) → taken r ps ≡ false → Follows o (r ++ x)
  apart_follows [] h = next.apart h
  apart_follows (c ∷ r) h =
      let parts = or_parts (is_blank c) (is_line_end c) (or_parts (is_blank_or_line_end c) _ h).0 in
      record { no_blank = λ _. parts.0; no_line_end = λ _. parts.1 }

-- no comment begins so
pub taken_unmarked : {X : Type 0} (x : Text) → BeginsWith is_blank_or_line_end x
    → BeginsWith is_comment_mark x → X
taken_unmarked [] h m = absurd (false≢true (sym m))
taken_unmarked (c ∷ x) h m = elim (or_cases (is_blank c) (is_line_end c) h) [
  | inl blank ↦ absurd (both_ways (is_blank c) (comment_mark-apart c m).0 blank)
  | inr end ↦ absurd (both_ways (is_comment_mark c) (line_end_no_mark c end) m)
]
