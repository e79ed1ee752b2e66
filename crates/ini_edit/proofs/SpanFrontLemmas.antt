-- What stands before a place of a text in pieces stands there before other texts too.
use Rattle.std.proofs.Common.{◌≡◌, ◌∙◌, ◌≤◌, ℕ, List, [], ◌∷◌, ◌++◌, None, Option}
use Rattle.std.proofs.Common.{Some, ap, append-nil, arith, length, not, refl, subst, sym}
use Rattle.ini_text.specs.Grammar.CharacterKinds.{BeginsWith, is_line_end, line_feed}
use Rattle.ini_text.specs.Grammar.Elements.{Element}
use Rattle.ini_text.specs.Grammar.Keys.{KeyFront}
use Rattle.ini_text.specs.Grammar.Pieces.{ArePieces, Piece, pieces_items, pieces_text}
use Rattle.ini_text.specs.Grammar.Places.{Stretches, pair_source, separator_text, value_source}
use Rattle.ini_text.specs.Grammar.Positions.{last_or}
use Rattle.ini_text.specs.Laws.PieceLaws.{BeginAlike}
use Rattle.ini_text.specs.declared.option.ParseOption.{ParseOption}
use Rattle.ini_text.proofs.GrammarLemmas.ItemLemmas.{element-some}
use Rattle.ini_text.proofs.LawLemmas.LocalLemmas.{Element-before}
use Rattle.ini_text.proofs.LawLemmas.PieceLemmas.{last_or-append}
use Rattle.ini.specs.Texts.{Text}
use Rattle.ini_edit.specs.Inside.InPlace.{AreInPlace}
use Rattle.ini_edit.specs.Inside.Spans.{AreSpans, IsGap, IsLonePair, IsPair, IsSpan, Span, opening}
use Rattle.ini_edit.specs.Inside.Spans.{span_source}
use Rattle.ini_edit.specs.Places.{Follows}
use Rattle.ini_edit.specs.Sources.{joined}
use Rattle.ini_edit.proofs.AheadLemmas.{FollowsFront, NoNoteAfter, header_before, key_follows, lone_no_line}
use Rattle.ini_edit.proofs.AheadLemmas.{nothing_before, tail_before, value_before}
use Rattle.ini_edit.proofs.AheadLemmas as ahead
use Rattle.ini_edit.proofs.InPlaceLemmas.{in_place-before, in_place-join, in_place-split, joined-append}
use Rattle.ini_edit.proofs.OwnBeforeLemmas.{note_stays, own_ahead}
use Rattle.ini_edit.proofs.QuietLemmas.{as_header}
use Rattle.ini_edit.proofs.SourceReadLemmas.{empty_parts}
use Rattle.ini_edit.proofs.SpanLemmas.{span_before, spans_local}

-- after these characters
follows_at : {y : Text} (c : ℕ) (s : Text) → FollowsFront (last_or c s ∷ []) y
    → FollowsFront ((c ∷ []) ++ s) y
follows_at c s f = record { some = f.some; bracket = f.bracket; note = f.note }

follows_last : {y : Text} (c : ℕ) (s t : Text) → FollowsFront (last_or c (s ++ t) ∷ []) y
    → FollowsFront (last_or (last_or c s) t ∷ []) y
follows_last {y} c s t f = subst (λ z. FollowsFront (z ∷ []) y) (last_or-append c s t) f

-- a key alone stands before what ends its line, or a note
pub lone_apart : {X : Type 0} {o : ParseOption} {c : ℕ} {p : Stretches} {key value y : Text}
    → BeginsWith (λ c. not (is_line_end c)) y → NoNoteAfter (last_or c (pair_source p) ∷ []) y
    → IsLonePair o c p key value y → X
lone_apart {c = c} {p = p} {y = y} some apart h =
    let key_alone : pair_source p ≡ p.key =
    ap (λ m. p.key ++ (separator_text m ++ value_source p)) h.lone.no_separator
    ∙ ap (λ z. p.key ++ z) h.lone.nothing ∙ append-nil p.key in
    lone_no_line (c ∷ []) y some (subst (λ k. NoNoteAfter (last_or c k ∷ []) y) key_alone apart) h.key_front
    h.lone.next

-- what ends no line and is no bracket stands before any other text that may follow a value
module _ {o : ParseOption} {x : Text} (follows : Follows o x) {y : Text} where
  pieces_ahead : {c : ℕ} (ps : List Piece) → FollowsFront (last_or c (pieces_text ps) ∷ []) y
      → ArePieces o c ps y → ArePieces o c ps x
  pieces_ahead [] f ArePieces.none = ArePieces.none
  pieces_ahead {c} (p ∷ ps) f (ArePieces.more e rest) =
      let later = follows_last c p.source (pieces_text ps) f in
      ArePieces.more (at (pieces_text ps) later e) (pieces_ahead {c = last_or c p.source} ps later rest)
    where
      at : (t : Text) → FollowsFront (last_or (last_or c p.source) t ∷ []) y
          → Element o (c ∷ []) p.source (t ++ y) p.gives → Element o (c ∷ []) p.source (t ++ x) p.gives
      at [] f e = ahead.Element-before follows (follows_at c p.source f) e
      at (d ∷ t) f e = Element-before BeginAlike.character e

  span_ahead : {c : ℕ} {s : Span} → FollowsFront (last_or c (span_source s) ∷ []) y → IsSpan o c s y
      → IsSpan o c s x
  span_ahead f IsSpan.general = IsSpan.general
  span_ahead {c} f (IsSpan.header {s = s} e) =
      IsSpan.header (ahead.Element-before follows (follows_at c s f) e)
  span_ahead {c} f (IsSpan.is_pair (IsPair.is_lone h)) = lone_apart f.some f.note h
  span_ahead {c} f (IsSpan.is_pair {p = p} (IsPair.has_value h)) =
      let front = follows_at c (pair_source p) f in
      IsSpan.is_pair (IsPair.has_value (record {
        separator = h.separator;
        separator_is = h.separator_is;
        key_front = h.key_front;
        some = h.some;
        separates = h.separates;
        gives = value_before follows front h.gives;
        white_before = h.white_before;
        starts = h.starts;
        white_after = h.white_after;
        are_trailing = tail_before follows front h.are_trailing;
        own_lines = own_ahead p.note x front h.are_trailing h.own_lines;
        note = note_stays x front h.are_trailing h.note;
        closed = h.closed;
        unnoted = h.unnoted;
      }))
  span_ahead {c} f (IsSpan.is_gap h) = IsSpan.is_gap (record {
    pieces = h.pieces;
    whole = h.whole;
    nothing = h.nothing;
    are = pieces_ahead h.pieces (subst (λ t. FollowsFront (last_or c t ∷ []) y) h.whole f) h.are;
  })

  pub spans_follow : {c : ℕ} (xs : List Span) → FollowsFront (last_or c (joined span_source xs) ∷ []) y
      → AreSpans o c xs y → AreSpans o c xs x
  spans_follow [] f AreInPlace.none = AreInPlace.none
  spans_follow {c} (s ∷ xs) f (AreInPlace.more is rest) =
      let source = span_source s in
      let later = follows_last c source (joined span_source xs) f in
      AreInPlace.more (at (joined span_source xs) later is)
      (spans_follow {c = last_or c source} xs later rest)
    where
      at : (t : Text) → FollowsFront (last_or (last_or c (span_source s)) t ∷ []) y
          → IsSpan o c s (t ++ y) → IsSpan o c s (t ++ x)
      at [] f is = span_ahead f is
      at (d ∷ t) f is = span_before BeginAlike.character is

-- so does what stands before a key
pub spans_ahead : {o : ParseOption} {x : Text} (follows : Follows o x) {k r key : Text} {c : ℕ}
    (xs : List Span)
    → KeyFront o (last_or c (joined span_source xs) ∷ []) k r key → AreSpans o c xs (k ++ r)
    → AreSpans o c xs x
spans_ahead follows {k} {r} xs front are = spans_follow follows xs (key_follows r front) are

-- and what is no pair, before any text at all
general_free : {o : ParseOption} {c : ℕ} {s y : Text} (x : Text) → AreSpans o c (opening None s ∷ []) y
    → AreSpans o c (opening None s ∷ []) x
general_free x (AreInPlace.more IsSpan.general AreInPlace.none) = AreInPlace.more IsSpan.general
    AreInPlace.none

module _ {o : ParseOption} (x : Text) where
  pieces_free : {c : ℕ} {y : Text} (ps : List Piece) → pieces_items ps ≡ []
      → FollowsFront (last_or c (pieces_text ps) ∷ []) y → ArePieces o c ps y → ArePieces o c ps x
  pieces_free [] none f ArePieces.none = ArePieces.none
  pieces_free {c} {y} (p ∷ ps) none f (ArePieces.more e rest) =
      let each = empty_parts p.gives (pieces_items ps) none in
      let later = follows_last c p.source (pieces_text ps) f in
      ArePieces.more (at (pieces_text ps) each.0 later e)
      (pieces_free {c = last_or c p.source} ps each.1 later rest)
    where
      at : (t : Text) → p.gives ≡ [] → FollowsFront (last_or (last_or c p.source) t ∷ []) y
          → Element o (c ∷ []) p.source (t ++ y) p.gives → Element o (c ∷ []) p.source (t ++ x) p.gives
      at [] none f e = nothing_before x (follows_at c p.source f) none e
      at (d ∷ t) none f e = Element-before BeginAlike.character e

  pub gap_free : {c : ℕ} {g y : Text} → FollowsFront (last_or c g ∷ []) y → IsGap o c g y → IsGap o c g x
  gap_free {c} {y = y} f h = record {
    pieces = h.pieces;
    whole = h.whole;
    nothing = h.nothing;
    are = pieces_free h.pieces h.nothing (subst (λ t. FollowsFront (last_or c t ∷ []) y) h.whole f) h.are;
  }

  pub opening_ahead : {c : ℕ} {y s : Text} {name : Option Text} → FollowsFront (last_or c s ∷ []) y
      → IsSpan o c (opening name s) y → IsSpan o c (opening name s) x
  opening_ahead f IsSpan.general = IsSpan.general
  opening_ahead {c} {s = s} f (IsSpan.header e) =
      IsSpan.header (header_before (c ∷ []) x f.some (follows_at c s f).note (as_header e))

  -- the same of all up to a section's opening
  pub opening_free : {y : Text} (ys : List Span) (name : Option Text) (s : Text) → (name ≡ None → ys ≡ [])
      → FollowsFront (last_or line_feed (joined span_source (ys ++ opening name s ∷ [])) ∷ []) y
      → AreSpans o line_feed (ys ++ opening name s ∷ []) y
      → AreSpans o line_feed (ys ++ opening name s ∷ []) x
  opening_free {y} ys None s first f h =
      subst (λ ys. AreSpans o line_feed (ys ++ opening None s ∷ []) y
      → AreSpans o line_feed (ys ++ opening None s ∷ []) x) (sym (first refl)) (general_free x) h
  opening_free {y} ys (Some name) s first f h =
      let split = in_place-split span_source ys (opening (Some name) s ∷ []) h in
      at split.0 split.1
      (subst (λ z. FollowsFront (z ∷ []) y)
      (ap (last_or line_feed) (joined-append span_source ys (opening (Some name) s ∷ []))
      ∙ last_or-append line_feed (joined span_source ys) (s ++ [])
      ∙ ap (last_or (last_or line_feed (joined span_source ys))) (append-nil s)) f)
    where
      alike : (s : Text) → 1 ≤ length s → BeginAlike ((s ++ []) ++ y) ((s ++ []) ++ x)
      alike [] some = absurd (omega arith)
      alike (c ∷ s) some = BeginAlike.character

      at : AreSpans o line_feed ys ((s ++ []) ++ y)
          → AreSpans o (last_or line_feed (joined span_source ys)) (opening (Some name) s ∷ []) y
          → FollowsFront (last_or (last_or line_feed (joined span_source ys)) s ∷ []) y
          → AreSpans o line_feed (ys ++ opening (Some name) s ∷ []) x
      at before (AreInPlace.more (IsSpan.header e) AreInPlace.none) f =
          in_place-join span_source ys (opening (Some name) s ∷ [])
          (in_place-before span_source spans_local (alike s (element-some e)) before)
          (AreInPlace.more (opening_ahead f (IsSpan.header e)) AreInPlace.none)
