-- A key alone that is set to a value: a separator and the value after it, and what stood after the key.
use Rattle.std.proofs.Common.{◌≡◌, ◌≢◌, ◌∙◌, ◌⊎◌, ◌==◌, ◌&&◌, ◌||◌, ◌≤◌, ℕ, Bool, true, false, cond, List, []}
use Rattle.std.proofs.Common.{◌∷◌, ◌++◌, ap, append-nil, append_assoc, arith, eqb-true, inl, inr, length, not}
use Rattle.std.proofs.Common.{if◌then◌else◌, refl, subst, subst₂, sym}
use Rattle.std.proofs.lemmas.Bool.{and_parts, and_from, both_ways, cond-false, cond-true, false≢true}
use Rattle.std.proofs.lemmas.Bool.{false_from_ne_true, not-true, or_cases, or_parts}
use Rattle.std.specs.List.{list_all}
use Rattle.ini_text.specs.Grammar.CharacterKinds.{BeginsWith, BeginsWithNo, backslash, carriage_return}
use Rattle.ini_text.specs.Grammar.CharacterKinds.{equals, is_blank, is_comment_mark, is_line_end}
use Rattle.ini_text.specs.Grammar.CharacterKinds.{is_line_feed, line_feed, open_bracket, semicolon, space}
use Rattle.ini_text.specs.Grammar.Elements.{Element}
use Rattle.ini_text.specs.Grammar.Keys.{KeyFront}
use Rattle.ini_text.specs.Grammar.Lines.{LineTail, Note}
use Rattle.ini_text.specs.Grammar.Pieces.{ArePieces}
use Rattle.ini_text.specs.Grammar.Places.{Stretches, TrailingLines, after_key_source, pair_source}
use Rattle.ini_text.specs.Grammar.Positions.{last_or, starts_line}
use Rattle.ini_text.specs.Grammar.Strings.{Closes, Row, Str, ends_with_line, is_endpoint, key_ends}
use Rattle.ini_text.specs.Grammar.Strings.{noted_key_ends, plain_ends}
use Rattle.ini_text.specs.Grammar.Values.{LineEnd, MoreLines}
use Rattle.ini_text.specs.Grammar.CharacterKinds.{begins}
use Rattle.ini_text.specs.Inside.LineReader.{past_note}
use Rattle.ini_text.specs.Inside.Scans.{is_line_part, run_of, skipped}
use Rattle.ini_text.specs.Laws.PieceLaws.{Agree, BeginAlike}
use Rattle.ini_text.specs.Options.Backslashes.{is_special}
use Rattle.ini_text.specs.Options.ReadOptions.{backslash_of}
use Rattle.ini_text.specs.Parsing.Fronts.{front_of}
use Rattle.ini_text.specs.declared.option.LoneLine.TheVariants.{Key}
use Rattle.ini_text.specs.declared.option.ParseOption.{ParseOption}
use Rattle.ini_text.proofs.GrammarLemmas.KindLemmas.{comment_mark-apart, line_end_no_blank}
use Rattle.ini_text.proofs.LawLemmas.LocalLemmas.{Agree-front}
use Rattle.ini_text.proofs.LawLemmas.PieceLemmas.{last_or-append}
use Rattle.ini_text.proofs.PlainLemmas.PlainPairLemmas.{inline_blanks}
use Rattle.ini_text.proofs.ReaderLemmas.KeyReaderLemmas.{KeyFront-some}
use Rattle.ini_text.proofs.ReaderLemmas.LineReaderLemmas.{tail_read}
use Rattle.ini_text.proofs.ReaderLemmas.NoteLemmas.{LineTail-closes}
use Rattle.ini_text.proofs.ReaderLemmas.RunReaderLemmas.{run-sound}
use Rattle.ini_text.proofs.StringLemmas.FrontLemmas.{front_is}
use Rattle.ini.specs.Texts.{Text}
use Rattle.ini_edit.specs.Endings.{Closing, Ending, ending, ending_from}
use Rattle.ini_edit.specs.Inside.InPlace.{AreInPlace}
use Rattle.ini_edit.specs.Inside.Spans.{AreSpans, IsGap, IsLonePair, IsPair, IsSpan, IsValuePair, Span, gap}
use Rattle.ini_edit.specs.Inside.Spans.{pair, pairs_spans, sections_spans, span_source}
use Rattle.ini_edit.specs.SourceEditsAdd.{closed_word, is_escape}
use Rattle.ini_edit.specs.SourceEditsDelete.{begin_with_blank, empty_comment, gap_after}
use Rattle.ini_edit.specs.SourceEditsDelete.{to_line_feed, would_be_taken}
use Rattle.ini_edit.specs.SourceEditsSet.{with_separator}
use Rattle.ini_edit.specs.SourceLines.{after_line_end, is_blank_or_line_end, is_empty}
use Rattle.ini_edit.specs.SourcePlaces.{last_word}
use Rattle.ini_edit.specs.SourceWritten.{IsReadAs}
use Rattle.ini_edit.specs.Sources.{PairPiece, SectionPiece, has_separator, is_multiline, joined}
use Rattle.ini_edit.proofs.AheadLemmas.{StrEnds, key_ends_so, key_follows, no_line_feed}
use Rattle.ini_edit.proofs.ClosedKeyLemmas.{key_closed}
use Rattle.ini_edit.proofs.ClosedLemmas.{escape_inside}
use Rattle.ini_edit.proofs.ClosedPairLemmas.{is_closing}
use Rattle.ini_edit.proofs.CommentLemmas.{no_key}
use Rattle.ini_edit.proofs.EndingLemmas.{ending-row, ending-white}
use Rattle.ini_edit.proofs.GapCutLemmas.{AreParts, IsCut, cut_gap, end_cut}
use Rattle.ini_edit.proofs.GapLemmas.{gap_join, gap_like}
use Rattle.ini_edit.proofs.GluedLemmas.{note_row}
use Rattle.ini_edit.proofs.InPlaceLemmas.{Agree-after, in_place-exchanged, in_place-split}
use Rattle.ini_edit.proofs.LineCutLemmas.{note_gone}
use Rattle.ini_edit.proofs.OwnBeforeLemmas.{Stands}
use Rattle.ini_edit.proofs.PairViewLemmas.{closes_line, key_front_of, lone_parts, some_key}
use Rattle.ini_edit.proofs.QuietLemmas.{mark_no_end}
use Rattle.ini_edit.proofs.ReadAsLemmas.{Tail, bare_tail, feed, lines_read, read_closed, read_nothing}
use Rattle.ini_edit.proofs.ReadAsLemmas.{source_starts, value_read}
use Rattle.ini_edit.proofs.SectionBeginLemmas.{has_name, header_begins}
use Rattle.ini_edit.proofs.SourceSetLemmas.{closed_agrees, last_agrees, lone_there}
use Rattle.ini_edit.proofs.SpanLemmas.{lone_source, spans_local}
use Rattle.ini_edit.proofs.ValueLemmas.{closes_line_end, tail_closes}

-- a text that is empty or begins with a line end, in that line end and what follows it
data IsEnded : (t end rest : Text) → Type 0 where
  none : IsEnded [] [] []
  lf : {rest : Text} → IsEnded (line_feed ∷ rest) (line_feed ∷ []) rest
  cr_lf : {rest : Text} → IsEnded (carriage_return ∷ line_feed ∷ rest) (carriage_return ∷ line_feed ∷ []) rest
  cr : {rest : Text} → BeginsWithNo is_line_feed rest → IsEnded (carriage_return ∷ rest) (carriage_return ∷ []) rest

abbrev EndsSo : Text → Type 0
EndsSo t = IsEnded t (front_of t (after_line_end t)) (after_line_end t)

feed_ended : (t : Text) → EndsSo (line_feed ∷ t)
feed_ended t =
    subst (λ e. IsEnded (line_feed ∷ t) e t) (sym (front_is (line_feed ∷ []) t (line_feed ∷ t) refl)) IsEnded.lf

return_ended : (t : Text) → EndsSo (carriage_return ∷ t)
return_ended [] =
    subst (λ e. IsEnded (carriage_return ∷ []) e [])
    (sym (front_is (carriage_return ∷ []) [] (carriage_return ∷ []) refl)) (IsEnded.cr tt)
return_ended (d ∷ t) = at (is_line_feed d) refl
  where
    at : (b : Bool) → is_line_feed d ≡ b → EndsSo (carriage_return ∷ d ∷ t)
    at true feed =
        subst (λ x. EndsSo (carriage_return ∷ x ∷ t)) (sym (eqb-true d line_feed feed))
        (subst (λ e. IsEnded (carriage_return ∷ line_feed ∷ t) e t)
        (sym (front_is (carriage_return ∷ line_feed ∷ []) t (carriage_return ∷ line_feed ∷ t) refl))
        IsEnded.cr_lf)
    at false other =
        let is : after_line_end (carriage_return ∷ d ∷ t) ≡ d ∷ t = cond-false (is_line_feed d) _ _ other in
        subst₂ (IsEnded (carriage_return ∷ d ∷ t))
        (sym (ap (front_of (carriage_return ∷ d ∷ t)) is
        ∙ front_is (carriage_return ∷ []) (d ∷ t) (carriage_return ∷ d ∷ t) refl))
        (sym is) (IsEnded.cr other)

ended : (t x : Text) → Closes plain_ends (t ++ x) → EndsSo t
ended [] x closes = IsEnded.none
ended (c ∷ t) x closes = elim (or_cases (is_line_feed c) (c == carriage_return) (closes_line_end c closes)) [
  | inl feed ↦ subst (λ d. EndsSo (d ∷ t)) (sym (eqb-true c line_feed feed)) (feed_ended t)
  | inr return ↦ subst (λ d. EndsSo (d ∷ t)) (sym (eqb-true c carriage_return return)) (return_ended t)
]

-- what stands after a value that was put after a key alone: its trailing lines, and a gap
record IsAfterValue (o : ParseOption) (was lines left following : Text) : Type 0 where
  trailing : TrailingLines o lines (left ++ (following ++ []))
  is_gap : (d : ℕ) → IsGap o (last_or d lines) left (following ++ [])
  agrees : (c d : ℕ) → Agree o (last_or c was ∷ []) (last_or d (lines ++ left) ∷ []) following

-- a blank ends no line
blank_closes_nothing : {X : Type 0} (x : Text) → BeginsWith is_blank x → Closes plain_ends (x ++ []) → X
blank_closes_nothing [] blank closes = absurd (false≢true (sym blank))
blank_closes_nothing (c ∷ x) blank closes =
    absurd (both_ways (is_blank c) (line_end_no_blank c (closes_line_end c closes)) blank)

-- where no line end begins what closes a line, nothing does
nothing_left : (x : Text) → Closes plain_ends (x ++ []) → BeginsWithNo is_line_end (x ++ []) → x ≡ []
nothing_left [] closes no_end = refl
nothing_left (c ∷ x) closes no_end =
    absurd (both_ways (is_line_end c) no_end (closes_line_end c closes))

-- no comment begins what begins with a blank or a line end
unmarked_character : (c : ℕ) → is_blank_or_line_end c ≡ true → is_comment_mark c ≡ true → ⊥
unmarked_character c h mark = elim (or_cases (is_blank c) (is_line_end c) h) [
  | inl blank ↦ both_ways (is_blank c) (comment_mark-apart c mark).0 blank
  | inr end ↦ both_ways (is_line_end c) (mark_no_end c mark) end
]

-- What a multiline value would take: it begins with a blank or a line end, or is none and what follows
-- begins with a blank.
abbrev Taken : (left following : Text) → Type 0
Taken left following =
    BeginsWith is_blank_or_line_end left ⊎ ((left ≡ []) × BeginsWith is_blank following)

unmarked : (left following : Text) → Taken left following → BeginsWith is_comment_mark (left ++ following) → ⊥
unmarked [] following (inl some) mark = false≢true (sym some)
unmarked (c ∷ left) following (inl some) mark = unmarked_character c some mark
unmarked (c ∷ left) following (inr (nothing, blank)) mark = absurd (let no : c ∷ left ≡ [] = nothing in cc)
unmarked [] [] (inr (nothing, blank)) mark = false≢true (sym mark)
unmarked [] (c ∷ following) (inr (nothing, blank)) mark =
    both_ways (is_blank c) (comment_mark-apart c mark).0 blank

module _ {o : ParseOption} where
  -- where values are in one line all stays
  one_line_after : {c : ℕ} {was following : Text} → o.enabled_indented_mutiline_value ≡ false
      → Closes plain_ends (was ++ (following ++ [])) → IsGap o c was (following ++ [])
      → IsAfterValue o was [] was following
  one_line_after {c} {was} {following} off closes g = record {
    trailing = TrailingLines.line off closes;
    is_gap = λ d. gap_like (Agree-front (following ++ []) (closed_agrees (was ++ (following ++ [])) closes)) g;
    agrees = λ c d. Agree-front [] (Agree-after was (following ++ [])
        (closed_agrees (was ++ (following ++ [])) closes));
  }

  -- an empty comment after LF, and a gap after it that a line end stood before
  apart_gap : (c : ℕ) (left following : Text) → is_line_end c ≡ true → Taken left following
      → Agree o (c ∷ []) (line_feed ∷ []) (left ++ following)
  apart_gap c left following end taken = record {
    line = λ _. end_starts;
    column = λ mark. absurd (unmarked left following taken mark);
    comment = λ _ mark. absurd (unmarked left following taken mark);
  }
    where
      end_starts : starts_line (c ∷ []) ≡ starts_line (line_feed ∷ [])
      end_starts = end

  kept_apart : (c : ℕ) {left : Text} (following : Text) → is_line_end c ≡ true → Taken left following
      → IsGap o c left (following ++ []) → IsGap o line_feed (semicolon ∷ line_feed ∷ left) (following ++ [])
  kept_apart c {left} following end taken g = gap_join {a = semicolon ∷ line_feed ∷ []}
      (record {
        pieces = record { source = semicolon ∷ line_feed ∷ []; gives = [] } ∷ [];
        whole = refl;
        nothing = refl;
        are = ArePieces.more (Element.comment [] refl refl refl) ArePieces.none;
      })
      (gap_like (Agree-front following (apart_gap c left following end taken)) g)

  module _ (on : o.enabled_indented_mutiline_value ≡ true) where
    apart_trailing : {e : Text} (x : Text) → LineEnd e (semicolon ∷ x) → TrailingLines o (e ++ []) (semicolon ∷ x)
    apart_trailing x end = TrailingLines.lines on end (MoreLines.done refl refl) refl

    kept_trailing : {e : Text} (x : Text) → BeginsWithNo is_blank x → BeginsWithNo is_line_end x → LineEnd e x
        → TrailingLines o (e ++ []) x
    kept_trailing x no_blank no_end end = TrailingLines.lines on end (MoreLines.done no_blank no_end) refl

    -- where an empty comment keeps what follows apart
    after_apart : {was end left following : Text} (c : ℕ) → IsEnded was end left → Taken left following
        → Closes plain_ends ((was ++ following) ++ []) → IsGap o (last_or c end) left (following ++ [])
        → IsAfterValue o was (end ++ to_line_feed (last_or line_feed end)) (semicolon ∷ line_feed ∷ left) following
    after_apart c IsEnded.none (inl some) closes g = absurd (false≢true (sym some))
    after_apart {following = following} c IsEnded.none (inr (nothing, blank)) closes g =
        blank_closes_nothing following blank closes
    after_apart {left = left} {following} c IsEnded.lf taken closes g = record {
      trailing = apart_trailing (line_feed ∷ (left ++ (following ++ []))) LineEnd.lf;
      is_gap = λ d. kept_apart line_feed following refl taken g;
      agrees = λ c d. Agree-after left following (apart_gap line_feed left following refl taken);
    }
    after_apart {left = left} {following} c IsEnded.cr_lf taken closes g = record {
      trailing = apart_trailing (line_feed ∷ (left ++ (following ++ []))) LineEnd.cr_lf;
      is_gap = λ d. kept_apart line_feed following refl taken g;
      agrees = λ c d. Agree-after left following (apart_gap line_feed left following refl taken);
    }
    after_apart {left = left} {following} c (IsEnded.cr no_feed) taken closes g = record {
      trailing = apart_trailing (line_feed ∷ (left ++ (following ++ []))) LineEnd.cr_lf;
      is_gap = λ d. kept_apart carriage_return following refl taken g;
      agrees = λ c d. Agree-after left following (apart_gap carriage_return left following refl taken);
    }

    -- and where nothing has to
    after_kept : {was end left following : Text} (c : ℕ) → IsEnded was end left
        → BeginsWithNo is_blank (left ++ (following ++ [])) → BeginsWithNo is_line_end (left ++ (following ++ []))
        → Closes plain_ends ((was ++ following) ++ []) → IsGap o (last_or c end) left (following ++ [])
        → IsAfterValue o was (end ++ []) left following
    after_kept {following = following} c IsEnded.none no_blank no_end closes g =
        let nothing : following ≡ [] = nothing_left following closes no_end in
        record {
          trailing = subst (λ z. TrailingLines o [] (z ++ [])) (sym nothing) (TrailingLines.end on);
          is_gap = λ d. record { pieces = []; whole = refl; nothing = refl; are = ArePieces.none };
          agrees = λ c d. subst (Agree o (c ∷ []) (d ∷ [])) (sym nothing) (closed_agrees [] refl);
        }
    after_kept {left = left} {following} c IsEnded.lf no_blank no_end closes g = record {
      trailing = kept_trailing (left ++ (following ++ [])) no_blank no_end LineEnd.lf;
      is_gap = λ d. g;
      agrees = λ c d. last_agrees refl;
    }
    after_kept {left = left} {following} c IsEnded.cr_lf no_blank no_end closes g = record {
      trailing = kept_trailing (left ++ (following ++ [])) no_blank no_end LineEnd.cr_lf;
      is_gap = λ d. g;
      agrees = λ c d. last_agrees refl;
    }
    after_kept {left = left} {following} c (IsEnded.cr no_feed) no_blank no_end closes g = record {
      trailing = kept_trailing (left ++ (following ++ [])) no_blank no_end
          (LineEnd.cr (no_line_feed (left ++ (following ++ [])) no_end));
      is_gap = λ d. g;
      agrees = λ c d. last_agrees refl;
    }

-- what begins pairs and sections of names
bracket_free : (h x : Text) → BeginsWith (λ c. c == open_bracket) h
    → BeginsWithNo is_blank (h ++ x) × BeginsWithNo is_line_end (h ++ x)
bracket_free [] x b = absurd (false≢true (sym b))
bracket_free (c ∷ h) x b =
    subst (λ d. (is_blank d ≡ false) × (is_line_end d ≡ false)) (sym (eqb-true c open_bracket b)) (refl, refl)

key_free : {o : ParseOption} {b k r key : Text} → KeyFront o b k r key → 1 ≤ length k → begins is_blank k ≡ false
    → BeginsWithNo is_blank (k ++ r) × BeginsWithNo is_line_end (k ++ r)
key_free {k = []} front some no_blank = absurd (omega (arith, some))
key_free {k = c ∷ k} {r} front some no_blank =
    (no_blank, not-true (is_line_end c) (key_follows r front).some)

key_blank : (k x : Text) → begins is_blank k ≡ true → BeginsWith is_blank (k ++ x)
key_blank [] x blank = absurd (false≢true blank)
key_blank (c ∷ k) x blank = blank

abbrev spans_after : List PairPiece → List SectionPiece → List Span
spans_after ps rest = pairs_spans ps ++ sections_spans rest

following_free : {o : ParseOption} {c : ℕ} (ps : List PairPiece) (rest : List SectionPiece)
    → list_all has_name rest ≡ true → AreSpans o c (spans_after ps rest) [] → begin_with_blank ps ≡ false
    → BeginsWithNo is_blank (joined span_source (spans_after ps rest) ++ [])
    × BeginsWithNo is_line_end (joined span_source (spans_after ps rest) ++ [])
following_free [] [] named are no_blank = (tt, tt)
following_free [] (t ∷ rest) named are no_blank =
    let more = t.after ++ joined span_source (pairs_spans t.pairs ++ sections_spans rest) in
    subst (λ z. BeginsWithNo is_blank z × BeginsWithNo is_line_end z) (sym (append_assoc t.header more []))
    (bracket_free t.header (more ++ [])
    (header_begins t (sections_spans rest) (and_parts (has_name t) (list_all has_name rest) named).0 are))
following_free (p ∷ ps) rest named (AreInPlace.more (IsSpan.is_pair is) later) no_blank =
    let more = p.after ++ joined span_source (spans_after ps rest) in
    let front = key_front_of is in
    let text : (pair_source p.stretches ++ more) ++ []
    ≡ p.stretches.key ++ (after_key_source p.stretches ++ (more ++ [])) =
    append_assoc (pair_source p.stretches) more []
    ∙ append_assoc p.stretches.key (after_key_source p.stretches) (more ++ []) in
    subst (λ z. BeginsWithNo is_blank z × BeginsWithNo is_line_end z) (sym text)
    (key_free front (KeyFront-some front (some_key is)) no_blank)

following_blank : (ps : List PairPiece) (rest : List SectionPiece) → begin_with_blank ps ≡ true
    → BeginsWith is_blank (joined span_source (spans_after ps rest))
following_blank [] rest blank = absurd (false≢true blank)
following_blank (p ∷ ps) rest blank =
    let more = p.after ++ joined span_source (spans_after ps rest) in
    subst (BeginsWith is_blank) (sym (append_assoc p.stretches.key (after_key_source p.stretches) more))
    (key_blank p.stretches.key (after_key_source p.stretches ++ more) blank)

-- how a key alone ends: within a line, or in a backslash that would take what follows, where nothing does
module _ (o : ParseOption) (may_be : o.line_without_separator ≡ Key) where
  feed_ends : is_endpoint (noted_key_ends o) line_feed ≡ true
  feed_ends = subst (λ l. is_endpoint (key_ends l) line_feed ≡ true) (sym may_be) refl

  row_ends : {s v : Text} → Row (backslash_of o) (noted_key_ends o) s v
      → ending_from o Ending.inside s ≡ Ending.inside
  row_ends {s} row = ap (ending_from o Ending.inside) (sym (append-nil s)) ∙ ending-row o [] feed_ends row

  string_ends_so : {s r v : Text} → Str (backslash_of o) (noted_key_ends o) s r v
      → (ending_from o Ending.inside s ≡ Ending.inside)
      ⊎ ((ending_from o Ending.inside s ≡ Ending.escape) × (r ≡ []))
  string_ends_so (Str.closed row h) = inl (row_ends row)
  string_ends_so {r = r} (Str.before_note c row n inside note) =
      inl (row_ends (note_row (noted_key_ends o) c r row n inside note))
  string_ends_so (Str.lone {s} special row h) =
      inr (
        ending-row o (backslash ∷ []) feed_ends row
            ∙ cond-true (is_special (backslash_of o)) Ending.escape _ special,
        refl,
      )

  key_ends_in : {b s r key : Text} → KeyFront o b s r key
      → (ending_from o Ending.inside s ≡ Ending.inside)
      ⊎ ((ending_from o Ending.inside s ≡ Ending.escape) × (r ≡ []))
  key_ends_in (KeyFront.unindented begins str) = string_ends_so str
  key_ends_in (KeyFront.indented {w} {s} {r} i begins str) =
      subst (λ e. (e ≡ Ending.inside) ⊎ ((e ≡ Ending.escape) × (r ≡ [])))
      (sym (ending-white o w s (inline_blanks w i.blank))) (string_ends_so str)

escape_is : (e : Ending) → is_escape e ≡ true → e ≡ Ending.escape
escape_is Ending.inside h = absurd (false≢true h)
escape_is Ending.escape h = refl
escape_is Ending.line h = absurd (false≢true h)

empty_is : (t : Text) → t ≡ [] → is_empty t ≡ true
empty_is t h = ap is_empty h

escape_line : (o : ParseOption) (t : Text) → 1 ≤ length t → ending_from o Ending.inside t ≡ Ending.escape
    → ending o t ≡ Ending.escape
escape_line o [] some h = absurd (omega (arith, some))
escape_line o (c ∷ t) some h = h

module _ (o : ParseOption) (p : PairPiece) (lone : has_separator p ≡ false) where
  word_key : last_word p ≡ p.stretches.key
  word_key = cond-false (has_separator p) _ _ lone

  -- a key's source that a separator may follow
  record IsClosedKey (c : ℕ) : Type 0 where
    more : Text
    is : closed_word o p ≡ p.stretches.key ++ more
    front : KeyFront o (c ∷ []) (closed_word o p) (equals ∷ []) p.key

  closed_key : {c : ℕ} (r : Text) → IsLonePair o c p.stretches p.key p.value (p.after ++ r) → IsClosedKey c
  closed_key {c} r h = at takes refl
    where
      takes : Bool
      takes = is_empty p.stretches.note && (is_empty p.stretches.trailing_lines
          && (is_empty p.after && is_escape (ending o (last_word p))))

      end : Text
      end = (if o.enabled_escape then backslash else space) ∷ []

      with_more : (more : Text) → closed_word o p ≡ p.stretches.key ++ more
          → Closing o (ending_from o Ending.inside p.stretches.key) more → IsClosedKey c
      with_more more is closing = record {
        more = more;
        is = is;
        front = subst (λ k. KeyFront o (c ∷ []) k (equals ∷ []) p.key) (sym is)
            (key_closed (equals ∷ []) h.lone.may_be refl h.lone.next h.key_front closing);
      }

      at : (b : Bool) → takes ≡ b → IsClosedKey c
      at true is =
          let parts = and_parts (is_empty p.stretches.trailing_lines) _
          (and_parts (is_empty p.stretches.note) _ is).1 in
          let more = and_parts (is_empty p.after) (is_escape (ending o (last_word p))) parts.1 in
          let escape : ending o p.stretches.key ≡ Ending.escape =
          ap (ending o) (sym word_key) ∙ escape_is (ending o (last_word p)) more.1 in
          with_more end (cond-true _ _ _ is ∙ ap (λ k. k ++ end) word_key)
          (subst (λ e. Closing o e end) (sym (escape_inside o p.stretches.key escape)) (is_closing o Ending.escape))
      at false is = by (key_ends_in o h.lone.may_be h.key_front)
        where
          key_is : closed_word o p ≡ p.stretches.key ++ []
          key_is = cond-false _ _ _ is ∙ word_key ∙ sym (append-nil p.stretches.key)

          none_after : (t : Text) → t ++ r ≡ [] → is_empty t ≡ true
          none_after [] nothing = refl
          none_after (d ∷ t) nothing = absurd (let no : d ∷ (t ++ r) ≡ [] = nothing in cc)

          by : (ending_from o Ending.inside p.stretches.key ≡ Ending.inside)
              ⊎ ((ending_from o Ending.inside p.stretches.key ≡ Ending.escape) × (p.after ++ r ≡ []))
              → IsClosedKey c
          by (inl inside) =
              with_more [] key_is (subst (λ e. Closing o e []) (sym inside) Closing.within)
          by (inr (escape, nothing)) =
              let ends : is_escape (ending o (last_word p)) ≡ true =
              ap (λ k. is_escape (ending o k)) word_key
              ∙ ap is_escape (escape_line o p.stretches.key (KeyFront-some h.key_front h.some) escape) in
              absurd (both_ways takes is
              (and_from (is_empty p.stretches.note) _ (empty_is p.stretches.note (lone_parts h.lone).note)
              (and_from (is_empty p.stretches.trailing_lines) _
              (empty_is p.stretches.trailing_lines (lone_parts h.lone).trailing_lines)
              (and_from (is_empty p.after) _ (none_after p.after nothing) ends))))

-- what follows a key alone in a gap: a note, if there is one, and the rest
pub record IsNoted (o : ParseOption) (c : ℕ) (t x : Text) : Type 0 where
  note : Text
  is : front_of t (past_note o t) ≡ note
  whole : note ++ past_note o t ≡ t
  tail : LineTail note (past_note o t ++ x)
  on : note ≢ [] → o.enabled_inline_comment ≡ true
  is_gap : IsGap o (last_or c note) (past_note o t) x

closes_front : (t x : Text) → Closes plain_ends (t ++ x) → Closes plain_ends t
closes_front [] x h = refl
closes_front (c ∷ t) x h = h

blank_no_feed : (c : ℕ) → is_blank c ≡ true → is_line_feed c ≡ false
blank_no_feed c blank =
    false_from_ne_true (is_line_feed c)
    (λ feed. false≢true (subst (λ z. is_blank z ≡ true) (eqb-true c line_feed feed) blank))

module _ {o : ParseOption} where
  noted_by : {c : ℕ} {note rest t x : Text} → note ++ rest ≡ t → past_note o t ≡ rest
      → LineTail note (rest ++ x) → (note ≢ [] → o.enabled_inline_comment ≡ true)
      → IsGap o (last_or c note) rest x → IsNoted o c t x
  noted_by {c} {note} {rest} {t} {x} whole is tail on g = record {
    note = note;
    is = ap (front_of t) is ∙ front_is note rest t whole;
    whole = ap (λ z. note ++ z) is ∙ whole;
    tail = subst (λ z. LineTail note (z ++ x)) (sym is) tail;
    on = on;
    is_gap = subst (λ z. IsGap o (last_or c note) z x) (sym is) g;
  }

  closed_noted : {c : ℕ} (t x : Text) → Closes plain_ends (t ++ x) → IsGap o c t x → IsNoted o c t x
  closed_noted t x closes g =
      let here = closes_front t x closes in
      noted_by refl (tail_read o [] t (LineTail.none here) (inl here)) (LineTail.none closes)
      (λ some. absurd (some refl)) g

  marked_noted : {c : ℕ} (t x : Text) → o.enabled_inline_comment ≡ true → is_line_feed c ≡ false
      → begins is_comment_mark (t ++ x) ≡ true → BeginsWithNo is_comment_mark x → IsGap o c t x
      → IsNoted o c t x
  marked_noted [] [] on late mark unmarked g = absurd (false≢true mark)
  marked_noted [] (m ∷ x) on late mark unmarked g = absurd (both_ways (is_comment_mark m) unmarked mark)
  marked_noted {c} (m ∷ t) x on late mark unmarked g =
      let s = run_of is_line_part t in
      let u = skipped is_line_part t in
      let split = run-sound is_line_part t in
      let parts = note_gone late mark split.all split.ends
      (subst (λ z. IsGap o c (m ∷ z) x) (sym split.whole) g) in
      let here = closes_front u x parts.closes in
      let whole : (m ∷ s) ++ u ≡ m ∷ t = ap (λ z. m ∷ z) split.whole in
      noted_by whole
      (ap (past_note o) (sym whole)
      ∙ tail_read o (m ∷ s) u (LineTail.note (Note.note mark split.all here)) (inr (on, mark)))
      (LineTail.note (Note.note mark split.all parts.closes)) (λ some. on) parts.rest

  pub noted_after : {c : ℕ} {p : Stretches} {key value : Text} (t x : Text) → BeginsWithNo is_comment_mark x
      → IsLonePair o c p key value (t ++ x) → IsGap o (last_or c p.key) t x
      → IsNoted o (last_or c p.key) t x
  noted_after {c} {p} t x unmarked h g = at (key_ends_so h.key_front)
    where
      at : StrEnds (noted_key_ends o) p.key (t ++ x) → IsNoted o (last_or c p.key) t x
      at (StrEnds.closed closes) =
          closed_noted t x
          (closes_line (t ++ x) (subst (λ l. Closes (key_ends l) (t ++ x)) h.lone.may_be closes) h.lone.next) g
      at (StrEnds.before_mark on last mark) =
          marked_noted t x (and_parts (ends_with_line o.line_without_separator) _ on).1
          (blank_no_feed (last_or c p.key) (last c)) mark unmarked g

-- no mark begins what follows a gap
key_unmarked : {o : ParseOption} {b k r key : Text} → KeyFront o b k r key → BeginsWithNo is_comment_mark (k ++ r)
key_unmarked {k = k} {r} front = at (k ++ r) (no_key front)
  where
    at : (z : Text) → (BeginsWith is_comment_mark z → ⊥) → BeginsWithNo is_comment_mark z
    at [] apart = tt
    at (c ∷ z) apart = false_from_ne_true (is_comment_mark c) apart

bracket_unmarked : (h x : Text) → BeginsWith (λ c. c == open_bracket) h → BeginsWithNo is_comment_mark (h ++ x)
bracket_unmarked [] x b = absurd (false≢true (sym b))
bracket_unmarked (c ∷ h) x b = subst (λ d. is_comment_mark d ≡ false) (sym (eqb-true c open_bracket b)) refl

following_unmarked : {o : ParseOption} {c : ℕ} (ps : List PairPiece) (rest : List SectionPiece)
    → list_all has_name rest ≡ true → AreSpans o c (spans_after ps rest) []
    → BeginsWithNo is_comment_mark (joined span_source (spans_after ps rest) ++ [])
following_unmarked [] [] named are = tt
following_unmarked [] (t ∷ rest) named are =
    let more = t.after ++ joined span_source (pairs_spans t.pairs ++ sections_spans rest) in
    subst (BeginsWithNo is_comment_mark) (sym (append_assoc t.header more []))
    (bracket_unmarked t.header (more ++ [])
    (header_begins t (sections_spans rest) (and_parts (has_name t) (list_all has_name rest) named).0 are))
following_unmarked (p ∷ ps) rest named (AreInPlace.more (IsSpan.is_pair is) later) =
    let more = p.after ++ joined span_source (spans_after ps rest) in
    let text : (pair_source p.stretches ++ more) ++ []
    ≡ p.stretches.key ++ (after_key_source p.stretches ++ (more ++ [])) =
    append_assoc (pair_source p.stretches) more []
    ∙ append_assoc p.stretches.key (after_key_source p.stretches) (more ++ []) in
    subst (BeginsWithNo is_comment_mark) (sym text) (key_unmarked (key_front_of is))

-- keys that begin alike
alike_keys : (k k2 more x y : Text) → 1 ≤ length k → k2 ≡ k ++ more → BeginAlike (k ++ x) (k2 ++ y)
alike_keys [] k2 more x y some is = absurd (omega (arith, some))
alike_keys (c ∷ k) k2 more x y some is =
    subst (λ z. BeginAlike ((c ∷ k) ++ x) (z ++ y)) (sym is) BeginAlike.character

head_seam : (k v a n t : Text) → k ++ equals ∷ (v ++ (a ++ (n ++ t))) ≡ (k ++ equals ∷ (v ++ (a ++ n))) ++ t
head_seam k v a n t = simp append_assoc

-- the key alone with its separator and its value
module _ {o : ParseOption} {source value : Text} (p : PairPiece) (ps : List PairPiece) (rest : List SectionPiece)
    (read : IsReadAs o source value) (other : value ≢ p.value) (lone : has_separator p ≡ false)
    (named : list_all has_name rest ≡ true)
  where
    abbrev new : PairPiece
    new = with_separator o source value ps p

    abbrev following : Text
    following = joined span_source (spans_after ps rest)

    in_one_line : is_multiline o p ≡ false
    in_one_line = at o.enabled_indented_mutiline_value (has_separator p) lone
      where
        at : (a b : Bool) → b ≡ false → (a && b) ≡ false
        at true b h = h
        at false b h = refl

    -- what follows the key's note
    abbrev left : Text
    left = past_note o p.after

    gap_is : o.enabled_indented_mutiline_value ≡ true → gap_after o p ≡ after_line_end left
    gap_is on = cond-false (is_multiline o p) _ _ in_one_line
        ∙ cond-true o.enabled_indented_mutiline_value _ _ on

    -- whether a multiline value would take what follows
    taken_is : o.enabled_indented_mutiline_value ≡ true → would_be_taken o p ps
        ≡ (begins is_blank_or_line_end (after_line_end left)
        || (is_empty (after_line_end left) && begin_with_blank ps))
    taken_is on =
        ap (λ m. m && (not (has_separator p) && (begins is_blank_or_line_end (gap_after o p)
        || (is_empty (gap_after o p) && begin_with_blank ps)))) on
        ∙ ap (λ b. not b && (begins is_blank_or_line_end (gap_after o p)
        || (is_empty (gap_after o p) && begin_with_blank ps))) lone
        ∙ ap (λ g. begins is_blank_or_line_end g || (is_empty g && begin_with_blank ps)) (gap_is on)

    taken : (more : Text) → (begins is_blank_or_line_end more || (is_empty more && begin_with_blank ps)) ≡ true
        → Taken more following
    taken [] h = inr (refl, following_blank ps rest h)
    taken (c ∷ more) h = inl (at (is_blank_or_line_end c) h)
      where
        at : (a : Bool) → (a || false) ≡ true → a ≡ true
        at true h = refl
        at false h = h

    free : {c : ℕ} (more : Text) → AreSpans o c (spans_after ps rest) []
        → (begins is_blank_or_line_end more || (is_empty more && begin_with_blank ps)) ≡ false
        → BeginsWithNo is_blank (more ++ (following ++ [])) × BeginsWithNo is_line_end (more ++ (following ++ []))
    free [] are h = following_free ps rest named are h
    free (c ∷ more) are h =
        let parts = or_parts (is_blank_or_line_end c) false h in
        let kinds = or_parts (is_blank c) (is_line_end c) parts.0 in
        (kinds.0, kinds.1)

    lines_after_value : {c d : ℕ} → Closes plain_ends (left ++ (following ++ []))
        → IsGap o c left (following ++ []) → AreSpans o d (spans_after ps rest) []
        → IsAfterValue o left new.stretches.trailing_lines new.after following
    lines_after_value {c} {d} closes g are = at o.enabled_indented_mutiline_value refl
      where
        Found : (lines more : Text) → Type 0
        Found lines more = IsAfterValue o left lines more following

        parts : AreParts o c left (after_line_end left) (following ++ [])
        parts = cut_gap g (subst (λ t. IsCut g.pieces (after_line_end t)) (sym g.whole)
            (end_cut g.pieces g.are g.nothing))

        end : Text
        end = front_of left (after_line_end left)

        lines_of : Bool → Text
        lines_of b = end ++ (if b then to_line_feed (last_or line_feed end) else [])

        gap_of_value : Bool → Text
        gap_of_value b = (if b then empty_comment (line_feed ∷ []) else []) ++ gap_after o p

        together : Closes plain_ends ((left ++ following) ++ [])
        together = subst (Closes plain_ends) (sym (append_assoc left following [])) closes

        many : o.enabled_indented_mutiline_value ≡ true → (b : Bool) → would_be_taken o p ps ≡ b
            → Found (lines_of b) (gap_of_value b)
        many on true is =
            subst (λ g. Found (end ++ to_line_feed (last_or line_feed end)) (semicolon ∷ line_feed ∷ g))
            (sym (gap_is on))
            (after_apart on c (ended left (following ++ []) closes)
            (taken (after_line_end left) (sym (taken_is on) ∙ is)) together parts.rest)
        many on false is =
            let no = free (after_line_end left) are (sym (taken_is on) ∙ is) in
            subst (λ g. Found (end ++ []) g) (sym (gap_is on))
            (after_kept on c (ended left (following ++ []) closes) no.0 no.1 together parts.rest)

        at : (m : Bool) → o.enabled_indented_mutiline_value ≡ m
            → Found new.stretches.trailing_lines new.after
        at true on =
            subst₂ Found
            (sym (cond-true o.enabled_indented_mutiline_value (lines_of (would_be_taken o p ps)) [] on))
            (sym (cond-true o.enabled_indented_mutiline_value (gap_of_value (would_be_taken o p ps)) left on))
            (many on (would_be_taken o p ps) refl)
        at false off =
            subst₂ Found
            (sym (cond-false o.enabled_indented_mutiline_value (lines_of (would_be_taken o p ps)) [] off))
            (sym (cond-false o.enabled_indented_mutiline_value (gap_of_value (would_be_taken o p ps)) left off))
            (one_line_after off closes g)

    -- the value stands before the note, behind a space
    new_tail : {c : ℕ} {x y : Text} → IsNoted o c p.after x → TrailingLines o new.stretches.trailing_lines y
        → Tail o feed new.stretches.space_after new.stretches.note new.stretches.trailing_lines y
    new_tail {y = y} noted trailing =
        subst (λ n. Tail o feed (if is_empty n then [] else space ∷ []) n new.stretches.trailing_lines y)
        (sym noted.is) (at noted.note noted.tail noted.on)
      where
        at : (n : Text) {z : Text} → LineTail n z → (n ≢ [] → o.enabled_inline_comment ≡ true)
            → Tail o feed (if is_empty n then [] else space ∷ []) n new.stretches.trailing_lines y
        at [] tail on = bare_tail feed [] refl trailing
        at (m ∷ n) (LineTail.note (Note.note mark within closes)) on = record {
          white = refl;
          note = LineTail.note (Note.note mark within (tail_closes trailing));
          trailing = trailing;
          stands = Stands.at_note (on (λ none. cc)) refl mark;
        }

    new_pair : {c d : ℕ} {r x : Text} → IsClosedKey o p lone c → p.key ≢ [] → p.value ≡ []
        → IsNoted o d p.after x → TrailingLines o new.stretches.trailing_lines r
        → IsValuePair o c new.stretches new.key new.value r
    new_pair {r = r} closed some empty noted trailing =
        let tail = new_tail noted trailing in
        record {
          separator = equals;
          separator_is = refl;
          key_front = closed.front;
          some = some;
          separates = refl;
          gives = value_read read [] refl tail (λ absent. absurd (nothing absent));
          white_before = refl;
          starts = source_starts read;
          white_after = tail.white;
          are_trailing = trailing;
          own_lines = lines_read read tail;
          note = tail.note;
          unnoted = λ absent. absurd (nothing absent);
          closed = λ e. absurd (read_closed read e);
        }
      where
        nothing : source ≡ [] → ⊥
        nothing absent = other (read_nothing (subst (λ s. IsReadAs o s value) absent read) ∙ sym empty)

    pub spans_separated : (front : List Span)
        → AreSpans o line_feed (front ++ (pair p.stretches p.key p.value ∷ (gap p.after ∷ spans_after ps rest))) []
        → AreSpans o line_feed
        (front ++ (pair new.stretches new.key new.value ∷ (gap new.after ∷ spans_after ps rest))) []
    spans_separated front h =
        at (in_place-split span_source front
        (pair p.stretches p.key p.value ∷ (gap p.after ∷ spans_after ps rest)) h).1
      where
        c : ℕ
        c = last_or line_feed (joined span_source front)

        at : AreSpans o c (pair p.stretches p.key p.value ∷ (gap p.after ∷ spans_after ps rest)) []
            → AreSpans o line_feed
            (front ++ (pair new.stretches new.key new.value ∷ (gap new.after ∷ spans_after ps rest))) []
        at (AreInPlace.more (IsSpan.is_pair pair_is) (AreInPlace.more (IsSpan.is_gap g) later)) =
            let is = lone_there lone pair_is in
            let x = following ++ [] in
            let apart = subst (IsLonePair o c p.stretches p.key p.value) (append_assoc p.after following []) is in
            let key_last = last_or c p.stretches.key in
            let noted = noted_after p.after x (following_unmarked ps rest named later) apart
            (subst (λ t. IsGap o (last_or c t) p.after x) (lone_source is.lone) g) in
            let after = lines_after_value (LineTail-closes noted.tail) noted.is_gap later in
            let closed = closed_key o p lone x apart in
            let lines = new.stretches.trailing_lines in
            let was_text : pair_source p.stretches ++ (p.after ++ []) ≡ p.stretches.key ++ p.after =
            ap (λ t. t ++ (p.after ++ [])) (lone_source is.lone)
            ∙ ap (λ t. p.stretches.key ++ t) (append-nil p.after) in
            let was_last : last_or c (pair_source p.stretches ++ (p.after ++ []))
            ≡ last_or (last_or key_last noted.note) left =
            ap (last_or c) was_text ∙ last_or-append c p.stretches.key p.after
            ∙ ap (last_or key_last) (sym noted.whole) ∙ last_or-append key_last noted.note left in
            let line = source ++ (new.stretches.space_after ++ new.stretches.note) in
            let head = new.stretches.key ++ equals ∷ line in
            let source_is : pair_source new.stretches ≡ head ++ lines =
            head_seam new.stretches.key source new.stretches.space_after new.stretches.note lines in
            let now_text : pair_source new.stretches ++ (new.after ++ []) ≡ head ++ (lines ++ new.after) =
            ap (λ t. pair_source new.stretches ++ t) (append-nil new.after)
            ∙ ap (λ t. t ++ new.after) source_is ∙ append_assoc head lines new.after in
            let now_last : last_or c (pair_source new.stretches ++ (new.after ++ []))
            ≡ last_or (last_or c head) (lines ++ new.after) =
            ap (last_or c) now_text ∙ last_or-append c head (lines ++ new.after) in
            let source_last : last_or (last_or c head) lines ≡ last_or c (pair_source new.stretches) =
            sym (last_or-append c head lines) ∙ ap (last_or c) (sym source_is) in
            in_place-exchanged span_source spans_local front
            (pair p.stretches p.key p.value ∷ gap p.after ∷ [])
            (pair new.stretches new.key new.value ∷ gap new.after ∷ []) (spans_after ps rest) h
            (AreInPlace.more
            (IsSpan.is_pair (IsPair.has_value (new_pair closed is.some is.lone.empty noted
            (subst (λ t. TrailingLines o lines (t ++ x)) (sym (append-nil new.after)) after.trailing))))
            (AreInPlace.more
            (IsSpan.is_gap (subst (λ d. IsGap o d new.after x) source_last (after.is_gap (last_or c head))))
            AreInPlace.none))
            (begin_alike closed (KeyFront-some is.key_front is.some))
            (subst₂ (λ a b. Agree o (a ∷ []) (b ∷ []) following) (sym was_last) (sym now_last)
            (after.agrees (last_or key_last noted.note) (last_or c head)))
          where
            begin_alike : IsClosedKey o p lone c → 1 ≤ length p.stretches.key
                → BeginAlike ((pair_source p.stretches ++ (p.after ++ [])) ++ (following ++ []))
                ((pair_source new.stretches ++ (new.after ++ [])) ++ (following ++ []))
            begin_alike closed some =
                let text : (x : Text) (s : Text) (k : Text) → ((k ++ s) ++ x) ++ (following ++ [])
                ≡ k ++ ((s ++ x) ++ (following ++ [])) =
                λ x s k. ap (λ t. t ++ (following ++ [])) (append_assoc k s x)
                ∙ append_assoc k (s ++ x) (following ++ []) in
                subst₂ BeginAlike
                (sym (text (p.after ++ []) (after_key_source p.stretches) p.stretches.key))
                (sym (text (new.after ++ []) (after_key_source new.stretches) new.stretches.key))
                (alike_keys p.stretches.key new.stretches.key closed.more _ _ some closed.is)
