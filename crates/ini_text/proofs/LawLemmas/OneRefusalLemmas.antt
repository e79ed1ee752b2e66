-- A stop at a character stands, whatever follows.
use Rattle.std.proofs.Common.{◌≤◌, ◌≡◌, ◌≢◌, ℕ, Bool, true, false, List, [], ◌∷◌, ◌++◌, length, refl, sym, ap}
use Rattle.std.proofs.Common.{◌∙◌, subst, append_assoc, append-nil, length-append, arith}
use Rattle.std.proofs.lemmas.List.{append_cancel_left}
use Rattle.ini_text.specs.Options.Backslashes.{Backslash}
use Rattle.ini_text.specs.declared.option.ParseOption.{ParseOption}
use Rattle.ini_text.specs.declared.error.ParseKind.{ParseKind}
use Rattle.ini_text.specs.declared.error.ParseKind.TheVariants.{EndOfText, CrAlone}
use Rattle.ini_text.specs.Grammar.CharacterKinds.{carriage_return, line_feed, is_blank, is_line_feed}
use Rattle.ini_text.specs.Grammar.CharacterKinds.{is_quote_mark, BeginsWithNo}
use Rattle.ini_text.specs.Grammar.WhiteSpace.{without_outer_line_feeds}
use Rattle.ini_text.specs.Grammar.EscapeSequences.{EscapeStops}
use Rattle.ini_text.specs.Grammar.Strings.{Ends, StrStops}
use Rattle.ini_text.specs.Grammar.Lines.{LineStops}
use Rattle.ini_text.specs.Grammar.Values.{LineEnd, MoreLines, Value, MoreLinesStop, ValueStops}
use Rattle.ini_text.specs.Grammar.Keys.{begins_key, begins_indented_key}
use Rattle.ini_text.specs.Grammar.Elements.{Given, Pair, Element, ElementStops}
use Rattle.ini_text.specs.Grammar.Texts.{Reads, Stops}
use Rattle.ini_text.specs.Laws.Readings.{IsWholeBeforeCr, IsAtCharacter}
use Rattle.ini_text.proofs.ReaderLemmas.ReaderLemmas.{Rule}
use Rattle.ini_text.proofs.ReaderLemmas.RunReaderLemmas.{BeginsWith-some}
use Rattle.ini_text.proofs.ReaderLemmas.ValueReaderLemmas.{EndedLine}
use Rattle.ini_text.proofs.GrammarLemmas.ItemLemmas.{element-some}
use Rattle.ini_text.proofs.LawLemmas.OneAheadLemmas.{Alike, Alike-some, BeginsWith-alike, BeginsWithNo-alike}
use Rattle.ini_text.proofs.LawLemmas.OneAheadLemmas.{Lead-alike, LineEnd-alike, EndedLine-before, Str-alike}
use Rattle.ini_text.proofs.LawLemmas.OneAheadLemmas.{KeyFront-alike, Reads-alike, GoesOn-alike, GoesOn-before}
use Rattle.ini_text.proofs.LawLemmas.OneAheadLemmas.{CommentLine-before}

-- What stops at a character has a source, and stops there before each x.
EscapeStops-stands : {p r : List ℕ} {k : ParseKind} (x : List ℕ) → k ≢ EndOfText → EscapeStops p r k
    → (1 ≤ length p) × EscapeStops p x k
EscapeStops-stands x n (EscapeStops.cut_short u l) = absurd (n refl)
EscapeStops-stands x n (EscapeStops.cut_in_unit u l) = absurd (n refl)
EscapeStops-stands x n (EscapeStops.broken u l m) = (omega arith, EscapeStops.broken u l m)
EscapeStops-stands x n (EscapeStops.unknown u l h) = (omega arith, EscapeStops.unknown u l h)

StrStops-stands : {e : Backslash} {ends : Ends} {s r : List ℕ} {k : ParseKind} (x : List ℕ) → k ≢ EndOfText
    → StrStops e ends s r k
    → (1 ≤ length s) × StrStops e ends s x k
StrStops-stands x n (StrStops.at_end row h) = absurd (n refl)
StrStops-stands x n (StrStops.after_backslash sp row h) = absurd (n refl)
StrStops-stands x n (StrStops.in_escape {s} {p = p} row on stops) =
    let y = EscapeStops-stands x n stops in (
      omega (
        arith,
        length-append s p,
        y.0,
      ),
      StrStops.in_escape row on y.1,
    )

-- after a line end stands a CR alone before the text's end: without it a line ends there too
LineEnd-cut : {e y : List ℕ} (t r : List ℕ) → y ≡ (t ++ carriage_return ∷ []) ++ r → LineEnd e y
    → LineEnd e (t ++ [])
LineEnd-cut t r h LineEnd.lf = LineEnd.lf
LineEnd-cut t r h LineEnd.cr_lf = LineEnd.cr_lf
LineEnd-cut [] r h (LineEnd.cr n) = LineEnd.cr tt
LineEnd-cut (c ∷ t) r h (LineEnd.cr n) = LineEnd.cr (subst (BeginsWithNo is_line_feed) h n)

-- a source that ends the text in a CR, before which it is whole
record IsCut {A : Type 0} (P : Rule A) (s r : List ℕ) (k : ParseKind) : Type 0 where
  kind : k ≡ CrAlone
  last : r ≡ []
  before : List ℕ
  value : List A
  source : s ≡ before ++ carriage_return ∷ []
  whole : P before [] value

IsCut-after : {A B : Type 0} {P : Rule A} {Q : Rule B} {s r y : List ℕ} {k : ParseKind} (p : List ℕ)
    → p ++ s ≡ y
    → ((t : List ℕ) (v : List A) → s ≡ t ++ carriage_return ∷ [] → P t [] v
    → (w : List B) × Q (p ++ t) [] w) → IsCut P s r k → IsCut Q y r k
IsCut-after p e grows c =
    let x = grows c.before c.value c.source c.whole in
    record {
      kind = c.kind;
      last = c.last;
      before = p ++ c.before;
      value = x.0;
      whole = x.1;
      source = sym e ∙ ap (λ y. p ++ y) c.source ∙ sym (append_assoc p c.before (carriage_return ∷ []));
    }

module _ (o : ParseOption) where
  LineStops-stands : {s r : List ℕ} {k : ParseKind} (x : List ℕ) → k ≢ EndOfText → LineStops o s r k
      → (1 ≤ length s) × LineStops o s x k
  LineStops-stands x n (LineStops.in_quotes {q} {s = s} {m = m} k on mark stops) =
      (omega (arith, length-append q (m ∷ s)), LineStops.in_quotes k on mark (StrStops-stands x n stops).1)
  LineStops-stands x n (LineStops.in_plain {q} {s = s} {r} k plain stops) =
      let y = StrStops-stands x n stops in (
        omega (arith, length-append q s, y.0),
        LineStops.in_plain k (λ on. BeginsWithNo-alike is_quote_mark (Alike-some s r x y.0) (plain on)) y.1,
      )

  -- before a last CR too
  EndedLine-cut : {first : Bool} {w l e t u : List ℕ} (r before : List ℕ)
      → t ≡ before ++ carriage_return ∷ [] → EndedLine o first w l e (t ++ r) u
      → EndedLine o first w l e (before ++ []) u
  EndedLine-cut r before h n = EndedLine-before (LineEnd-cut before r (ap (λ y. y ++ r) h) n.end) n

  MoreLinesStop-stands : {s r : List ℕ} {k : ParseKind} (x : List ℕ) → k ≢ EndOfText
      → ¬ IsCut (MoreLines o) s r k → MoreLinesStop o s r k
      → (1 ≤ length s) × MoreLinesStop o s x k
  MoreLinesStop-stands x n uncut (MoreLinesStop.empty_lf m) =
      let cut =
      IsCut-after (line_feed ∷ []) refl (λ t v h more. (line_feed ∷ v, MoreLines.empty_lf more)) in
      (omega arith, MoreLinesStop.empty_lf (MoreLinesStop-stands x n (λ c. uncut (cut c)) m).1)
  MoreLinesStop-stands x n uncut (MoreLinesStop.empty_cr_lf m) =
      let cut =
      IsCut-after (carriage_return ∷ line_feed ∷ []) refl
      (λ t v h more. (line_feed ∷ v, MoreLines.empty_cr_lf more)) in
      (omega arith, MoreLinesStop.empty_cr_lf (MoreLinesStop-stands x n (λ c. uncut (cut c)) m).1)
  MoreLinesStop-stands {k = k} x n uncut (MoreLinesStop.continued {w} {l} {e} {t} {r} {u} goes ln end m) =
      let line : EndedLine o false w l e (t ++ r) u = record { lead = goes.lead; line = ln; end = end } in
      let cut : IsCut (MoreLines o) t r k → IsCut (MoreLines o) (w ++ (l ++ (e ++ t))) r k =
      IsCut-after (w ++ (l ++ e)) (simp append_assoc) (λ before v h more.
      let c = EndedLine-cut r before h line in (
        line_feed ∷ (u ++ v),
        simp append_assoc
            (MoreLines.continued (GoesOn-before l (before ++ []) end goes) c.line c.end more),
      )) in
      let y = MoreLinesStop-stands x n (λ c. uncut (cut c)) m in
      let z = EndedLine-before (LineEnd-alike (Alike-some t r x y.0) end) line in (
        omega (arith, BeginsWith-some is_blank w goes.begins, length-append w (l ++ (e ++ t))),
        MoreLinesStop.continued (GoesOn-before l (t ++ x) end goes) z.line z.end y.1,
      )
  MoreLinesStop-stands {k = k} x n uncut (MoreLinesStop.comment {s} {e} {t} {r} line end m) =
      let cut : IsCut (MoreLines o) t r k → IsCut (MoreLines o) (s ++ (e ++ t)) r k =
      IsCut-after (s ++ e) (simp append_assoc) (λ before v h more. (
        v,
        simp append_assoc (MoreLines.comment (CommentLine-before (before ++ []) end line)
            (LineEnd-cut before r (ap (λ y. y ++ r) h) end) more),
      )) in
      let y = MoreLinesStop-stands x n (λ c. uncut (cut c)) m in (
        omega (arith, y.0, length-append s (e ++ t), length-append e t),
        MoreLinesStop.comment (CommentLine-before (t ++ x) end line)
            (LineEnd-alike (Alike-some t r x y.0) end) y.1,
      )
  MoreLinesStop-stands x n uncut (MoreLinesStop.in_line {w} {s} {r} goes stops) =
      let y = LineStops-stands x n stops in (
        omega (arith, length-append w s, y.0),
        MoreLinesStop.in_line (GoesOn-alike (Alike-some s r x y.0) goes) y.1,
      )
  MoreLinesStop-stands x n uncut (MoreLinesStop.cr_alone m) = (omega arith, MoreLinesStop.cr_alone m)
  MoreLinesStop-stands x n uncut MoreLinesStop.cr_at_end =
      absurd
      (uncut
      (record {
        kind = refl;
        last = refl;
        before = [];
        value = [];
        source = refl;
        whole = MoreLines.done tt tt;
      }))

  ValueStops-stands : {s r : List ℕ} {k : ParseKind} (x : List ℕ) → k ≢ EndOfText → ¬ IsCut (Value o) s r k
      → ValueStops o s r k
      → (1 ≤ length s) × ValueStops o s x k
  ValueStops-stands x n uncut (ValueStops.first_line {w} {s} {r} lead stops) =
      let y = LineStops-stands x n stops in (
        omega (arith, length-append w s, y.0),
        ValueStops.first_line (Lead-alike (Alike-some s r x y.0) lead) y.1,
      )
  ValueStops-stands {k = k} x n uncut (ValueStops.later_line {w} {l} {e} {t} {r} {u} on lead ln end m) =
      let line : EndedLine o true w l e (t ++ r) u = record { lead = lead; line = ln; end = end } in
      let cut : IsCut (MoreLines o) t r k → IsCut (Value o) (w ++ (l ++ (e ++ t))) r k =
      IsCut-after (w ++ (l ++ e)) (simp append_assoc) (λ before v h more.
      let c = EndedLine-cut r before h line in
      (without_outer_line_feeds (u ++ v), simp append_assoc (Value.lines on c.lead c.line c.end more))) in
      let y = MoreLinesStop-stands x n (λ c. uncut (cut c)) m in
      let z = EndedLine-before (LineEnd-alike (Alike-some t r x y.0) end) line in (
        omega (arith, y.0, length-append w (l ++ (e ++ t)), length-append l (e ++ t), length-append e t),
        ValueStops.later_line on z.lead z.line z.end y.1,
      )

  ElementStops-stands : {b s r : List ℕ} {k : ParseKind} (x : List ℕ) → k ≢ EndOfText
      → ¬ IsCut (Element o b) s r k → ElementStops o b s r k
      → (1 ≤ length s) × ElementStops o b s x k
  ElementStops-stands x n uncut (ElementStops.in_header off stops) =
      (omega arith, ElementStops.in_header off (StrStops-stands x n stops).1)
  ElementStops-stands x n uncut (ElementStops.in_bracketed_header on stops) =
      (omega arith, ElementStops.in_bracketed_header on (StrStops-stands x n stops).1)
  ElementStops-stands x n uncut (ElementStops.no_header_end on str none) =
      (omega arith, ElementStops.no_header_end on (Str-alike Alike.same str) none)
  ElementStops-stands x n uncut (ElementStops.in_key {s} {r} begins stops) =
      let y = StrStops-stands x n stops in (
        y.0,
        ElementStops.in_key (BeginsWith-alike begins_key (Alike-some s r x y.0) begins) y.1,
      )
  ElementStops-stands x n uncut (ElementStops.in_indented_key {w} {s} {r} ind begins stops m) =
      let y = StrStops-stands x n stops in (
        omega (arith, length-append w s, y.0),
        ElementStops.in_indented_key ind
            (BeginsWith-alike (begins_indented_key o) (Alike-some s r x y.0) begins) y.1 m,
      )
  ElementStops-stands x n uncut (ElementStops.no_key {k} {m = m} front sep) =
      (omega (arith, length-append k (m ∷ [])), ElementStops.no_key (KeyFront-alike Alike.same front) sep)
  ElementStops-stands x n uncut (ElementStops.no_lone_key {k} {c = c} alone front end) = (
    omega (arith, length-append k (c ∷ [])),
    ElementStops.no_lone_key alone (KeyFront-alike Alike.same front) end,
  )
  ElementStops-stands x n uncut (ElementStops.no_last_key alone front) = absurd (n refl)
  ElementStops-stands x n uncut (ElementStops.no_separator {k} {c = c} refuses front end) = (
    omega (arith, length-append k (c ∷ [])),
    ElementStops.no_separator refuses (KeyFront-alike Alike.same front) end,
  )
  ElementStops-stands {b = b} {k = kind} x n uncut
      (ElementStops.in_value {k} {s} {r} {key} {m} front some sep stops) =
      let cut : IsCut (Value o) s r kind → IsCut (Element o b) (k ++ m ∷ s) r kind =
      IsCut-after (k ++ m ∷ []) (append_assoc k (m ∷ []) s) (λ before v h given. (
        Pair key v ∷ [],
        rw (append_assoc k (m ∷ []) before) (Element.pair (KeyFront-alike Alike.same front) some sep given),
      )) in (
        omega (arith, length-append k (m ∷ s)),
        ElementStops.in_value (KeyFront-alike Alike.same front) some
            sep (ValueStops-stands x n (λ c. uncut (cut c)) stops).1,
      )
  ElementStops-stands x n uncut (ElementStops.late_comment mark late within) =
      (omega arith, ElementStops.late_comment mark late within)

  -- a whole element and a CR after a front: the text is whole but for the CR
  IsWholeBeforeCr-after : {T b s r : List ℕ} {items : List Given} {k : ParseKind} → Reads o T [] items b
      → T ≡ b ++ (s ++ r) → IsCut (Element o b) s r k
      → IsWholeBeforeCr o (b ++ s)
  IsWholeBeforeCr-after {b = b} {s} {r} {items} reads h c =
      let t = c.before in
      let begun : Alike (t ++ carriage_return ∷ r) t =
      rw (append-nil t) at (Alike-some t (carriage_return ∷ r) [] (element-some c.whole)) in
      let ahead : Alike (s ++ r) t = rw (c.source, append_assoc t) begun in
      let last : Reads o (b ++ t) b (c.value ++ []) (b ++ t) =
      Reads.step (ap (λ y. b ++ y) (sym (append-nil t))) c.whole
      (Reads.stay [] (sym (append-nil (b ++ t)))) in (
        b ++ t,
        items ++ (c.value ++ []),
        ap (λ y. b ++ y) c.source
            ∙ sym (append_assoc b t (carriage_return ∷ [])),
        Reads-alike ahead h reads last,
      )

  stands : {T front : List ℕ} {kind : ParseKind} (follows other : List ℕ) → Stops o T kind front
      → T ≡ front ++ follows → IsAtCharacter o front follows kind
      → Stops o (front ++ other) kind front
  stands follows other (Stops.stops {b} {s} {r} reads h e) q seen =
      let same : follows ≡ r =
      append_cancel_left (b ++ s) follows r (sym q ∙ h ∙ sym (append_assoc b s r)) in
      let y = ElementStops-stands other seen.not_cut_short
      (λ c. seen.no_last_cr c.kind (same ∙ c.last) (IsWholeBeforeCr-after reads h c)) e in
      rw (append_assoc b s other)
      (Stops.stops (Reads-alike (Alike-some s r other y.0) h reads (Reads.stay (s ++ other) refl)) refl y.1)

pub refusal_stands : (o : ParseOption) (front follows other : List ℕ) (kind : ParseKind)
    → Stops o (front ++ follows) kind front
    → IsAtCharacter o front follows kind → Stops o (front ++ other) kind front
refusal_stands o front follows other kind stop seen = stands o follows other stop refl seen
