-- Spans of a text up to its last gap, of which a front is kept, and other spans after it.
use Rattle.std.proofs.Common.{◌≡◌, ◌≢◌, ◌∙◌, ◌≤◌, arith, length, ℕ, Bool, true, false, cond, List, [], ◌∷◌}
use Rattle.std.proofs.Common.{◌++◌, Option, ap, append_assoc, append-nil, refl, subst, sym}
use Rattle.ini_text.specs.Grammar.CharacterKinds.{BeginsWith, is_line_end, is_line_feed, line_feed}
use Rattle.ini_text.specs.Grammar.Elements.{Element, Header}
use Rattle.ini_text.specs.Grammar.Pieces.{pieces_text}
use Rattle.ini_text.specs.Grammar.Places.{Stretches, pair_source}
use Rattle.ini_text.specs.Grammar.Positions.{last_or}
use Rattle.ini_text.specs.Laws.PieceLaws.{BeginAlike}
use Rattle.ini_text.specs.Options.WriteOptions.{line_end}
use Rattle.ini_text.specs.declared.option.ParseOption.{ParseOption}
use Rattle.ini_text.specs.declared.write.option.LineSeparator.{LineSeparator}
use Rattle.ini_text.specs.declared.write.option.LineSeparator.TheVariants.{CR, CRLF, SystemDefault}
use Rattle.ini_text.proofs.GrammarLemmas.ItemLemmas.{element-some}
use Rattle.ini.specs.Texts.{Text}
use Rattle.ini_edit.specs.Inside.InPlace.{AreInPlace}
use Rattle.ini_edit.specs.Inside.Spans.{AreSpans, IsGap, IsPair, IsSpan, Span, gap, opening, pair}
use Rattle.ini_edit.specs.Inside.Spans.{span_source}
use Rattle.ini_edit.specs.Sources.{joined}
use Rattle.ini_edit.proofs.EndedGapLemmas.{feed_gap, gap_stands, pieces_ended}
use Rattle.ini_edit.proofs.GapLemmas.{gap_join}
use Rattle.ini_edit.proofs.GapPartLemmas.{gap_nothing}
use Rattle.ini_edit.proofs.HeaderLemmas.{header_closed}
use Rattle.ini_edit.proofs.InPlaceLemmas.{in_place-before, in_place-join, in_place-split}
use Rattle.ini_edit.proofs.QuietLemmas.{as_header}
use Rattle.ini_edit.proofs.SectionPlaceLemmas.{IsCutFor}
use Rattle.ini_edit.proofs.SectionTakenLemmas.{IsFeed, same_start}
use Rattle.ini_edit.proofs.SourceAddLemmas.{sources_alike}
use Rattle.ini_edit.proofs.SpanLemmas.{spans_local}

pub feed_of : (s : LineSeparator) → IsFeed (line_end s)
feed_of SystemDefault = IsFeed.lf
feed_of CR = IsFeed.lf
feed_of CRLF = IsFeed.cr_lf

source_some : (s : Text) → 1 ≤ length s → s ≢ []
source_some [] h none = omega arith
source_some (c ∷ s) h none = cc

-- the line end that is put, if it is
pub gap_either : {o : ParseOption} {c : ℕ} {l : Text} (b : Bool) (r : Text) → IsFeed l
    → IsGap o c (cond b [] l) r
gap_either true r feed = gap_nothing
gap_either false r feed = feed_gap feed

feed_begins : {l : Text} (y : Text) → IsFeed l → BeginsWith is_line_end (l ++ y)
feed_begins y IsFeed.lf = refl
feed_begins y IsFeed.cr_lf = refl

module _ {o : ParseOption} where
  -- after spans that stay, another gap and others
  pub spans_kept : (ys : List Span) (new : Text) (tail : List Span)
      → AreSpans o line_feed ys (new ++ (joined span_source tail ++ []))
      → IsGap o (last_or line_feed (joined span_source ys)) new (joined span_source tail ++ [])
      → ((c : ℕ) → AreSpans o c tail []) → AreSpans o line_feed (ys ++ (gap new ∷ tail)) []
  spans_kept ys new tail front is later =
      in_place-join span_source ys (gap new ∷ tail)
      (subst (AreSpans o line_feed ys) (sym (append_assoc new (joined span_source tail) [])) front)
      (AreInPlace.more (IsSpan.is_gap is) (later (last_or (last_or line_feed (joined span_source ys)) new)))

  -- after a pair that ends otherwise
  pub spans_ended : {y : Text} (ys : List Span) (p q : Stretches) (key value new : Text) (tail : List Span)
      (k : Text) → q.key ≡ p.key ++ k
      → AreSpans o line_feed (ys ++ pair p key value ∷ []) y
      → ((c : ℕ) → IsPair o c p key value y → IsPair o c q key value (new ++ (joined span_source tail ++ [])))
      → ((c : ℕ) → IsGap o c new (joined span_source tail ++ []))
      → ((c : ℕ) → AreSpans o c tail [])
      → AreSpans o line_feed (ys ++ (pair q key value ∷ gap new ∷ tail)) []
  spans_ended {y} ys p q key value new tail k same h ended is later =
      let split = in_place-split span_source ys (pair p key value ∷ []) h in
      at split.0 split.1
    where
      c : ℕ
      c = last_or line_feed (joined span_source ys)

      at : AreSpans o line_feed ys ((pair_source p ++ []) ++ y)
          → AreSpans o (last_or line_feed (joined span_source ys)) (pair p key value ∷ []) y
          → AreSpans o line_feed (ys ++ (pair q key value ∷ gap new ∷ tail)) []
      at front (AreInPlace.more (IsSpan.is_pair one) AreInPlace.none) =
          in_place-join span_source ys (pair q key value ∷ gap new ∷ tail)
          (in_place-before span_source spans_local
          (sources_alike one q k same [] (new ++ joined span_source tail) y []) front)
          (AreInPlace.more
          (IsSpan.is_pair (subst (IsPair o c q key value)
          (sym (append_assoc new (joined span_source tail) [])) (ended c one)))
          (AreInPlace.more (IsSpan.is_gap (is (last_or c (pair_source q))))
          (later (last_or (last_or c (pair_source q)) new))))

  -- what opens a section, before a line end; and what opens none, before any text
  header_ended : {c : ℕ} {name : Option Text} {s y : Text} (x : Text)
      → (s ≢ [] → (l : Text) × ((z : Text) × (IsFeed l × (x ≡ l ++ z))))
      → IsSpan o c (opening name s) y → IsSpan o c (opening name s) x
  header_ended x feed IsSpan.general = IsSpan.general
  header_ended {c} x feed (IsSpan.header {name = name} {s = s} e) =
      let h = feed (source_some s (element-some e)) in
      IsSpan.header (subst (λ x. Element o (c ∷ []) s x (Header name ∷ [])) (sym h.1.1.1)
      (header_closed (feed_begins h.1.0 h.1.1.0) (as_header e)))

  pub spans_headed : (ys : List Span) (name : Option Text) (s y x : Text) → (s ≡ [] → ys ≡ [])
      → (s ≢ [] → (l : Text) × ((z : Text) × (IsFeed l × (x ≡ l ++ z))))
      → AreSpans o line_feed (ys ++ opening name s ∷ []) y
      → AreSpans o line_feed (ys ++ opening name s ∷ []) x
  spans_headed ys name s y x first feed h =
      let split = in_place-split span_source ys (opening name s ∷ []) h in
      in_place-join span_source ys (opening name s ∷ []) (front s refl split.0) (last split.1)
    where
      front : (t : Text) → s ≡ t → AreSpans o line_feed ys ((s ++ []) ++ y)
          → AreSpans o line_feed ys ((s ++ []) ++ x)
      front [] is h = subst (λ ys. AreSpans o line_feed ys ((s ++ []) ++ x)) (sym (first is)) AreInPlace.none
      front (d ∷ t) is h =
          in_place-before span_source spans_local
          (same_start s y x (λ none. let no : d ∷ t ≡ [] = sym is ∙ none in cc)) h

      last : AreSpans o (last_or line_feed (joined span_source ys)) (opening name s ∷ []) y
          → AreSpans o (last_or line_feed (joined span_source ys)) (opening name s ∷ []) x
      last (AreInPlace.more one AreInPlace.none) = AreInPlace.more (header_ended x feed one) AreInPlace.none

-- a gap of which a front is kept, with its line ended, and an empty line
pub kept_ended : {o : ParseOption} {has : Bool} {b : ℕ} {a g l : Text} (cut : IsCutFor o has b a g) (x : Text)
    → IsFeed l → (e : Bool) → (e ≡ true → is_line_feed (last_or b (pieces_text cut.front)) ≡ true)
    → (f : Bool) → IsGap o b (pieces_text cut.front ++ ((cond e [] l ++ cond f [] l) ++ [])) x
kept_ended {o} {b = b} {g = g} {l} cut x feed true one f =
    let k = pieces_text cut.front in
    subst (λ t. IsGap o b (k ++ t) x) (sym (append-nil (cond f [] l)))
    (gap_join (gap_stands (cond f [] l ++ x) cut.front cut.nothing cut.keyless (one refl) cut.are)
    (gap_either f x feed))
kept_ended {o} {b = b} {g = g} {l} cut x feed false one f =
    let k = pieces_text cut.front in
    let text : (k ++ l) ++ cond f [] l ≡ k ++ ((l ++ cond f [] l) ++ []) =
    append_assoc k l (cond f [] l) ∙ ap (λ t. k ++ t) (sym (append-nil (l ++ cond f [] l))) in
    subst (λ t. IsGap o b t x) text
    (gap_join (pieces_ended (cond f [] l ++ x) cut.front feed cut.nothing cut.keyless cut.other cut.are)
    (gap_either f x feed))
