-- Reading looks one character ahead: an element stands before each text that begins with the character that
-- followed it.
use Rattle.std.proofs.Common.{◌≤◌, ◌≡◌, ℕ, Bool, List, [], ◌∷◌, ◌++◌, length, refl, sym, ap, ◌∙◌, subst}
use Rattle.std.proofs.Common.{append_assoc, append-nil, arith}
use Rattle.std.proofs.lemmas.List.{append_cancel_left}
use Rattle.ini_text.specs.Options.Backslashes.{Backslash}
use Rattle.ini_text.specs.declared.option.ParseOption.{ParseOption}
use Rattle.ini_text.specs.Grammar.CharacterKinds.{is_blank, is_comment_mark, is_inline_white, is_line_end}
use Rattle.ini_text.specs.Grammar.CharacterKinds.{is_line_feed, is_quote_mark, is_separator, BeginsWith}
use Rattle.ini_text.specs.Grammar.CharacterKinds.{BeginsWithNo}
use Rattle.ini_text.specs.Grammar.WhiteSpace.{Lead}
use Rattle.ini_text.specs.Grammar.Strings.{Ends, Str}
use Rattle.ini_text.specs.Grammar.Lines.{Line, LineTail, LineText, Note}
use Rattle.ini_text.specs.Grammar.Values.{CommentLine, GoesOn, LineEnd, MoreLines, Value}
use Rattle.ini_text.specs.Grammar.Keys.{begins_key, begins_indented_key, KeyFront}
use Rattle.ini_text.specs.Grammar.Elements.{Given, Gap, Element}
use Rattle.ini_text.specs.Grammar.Texts.{Reads}
use Rattle.ini_text.proofs.ReaderLemmas.ValueReaderLemmas.{EndedLine, line_end-some}

-- both texts begin with the same character
pub data Alike : List ℕ → List ℕ → Type 0 where
  same : {c : ℕ} {r x : List ℕ} → Alike (c ∷ r) (c ∷ x)

pub Alike-after : (s : List ℕ) {r x : List ℕ} → Alike r x → Alike (s ++ r) (s ++ x)
Alike-after [] a = a
Alike-after (c ∷ s) a = Alike.same

pub Alike-some : (s : List ℕ) (r x : List ℕ) → 1 ≤ length s → Alike (s ++ r) (s ++ x)
Alike-some [] r x l = absurd (omega arith)
Alike-some (c ∷ s) r x l = Alike.same

pub BeginsWith-alike : (test : ℕ → Bool) {r x : List ℕ} → Alike r x → BeginsWith test r → BeginsWith test x
BeginsWith-alike test Alike.same h = h

pub BeginsWithNo-alike : (test : ℕ → Bool) {r x : List ℕ} → Alike r x → BeginsWithNo test r
    → BeginsWithNo test x
BeginsWithNo-alike test Alike.same h = h

pub Lead-alike : {w r x : List ℕ} → Alike r x → Lead w r → Lead w x
Lead-alike a lead = record { white = lead.white; ends = BeginsWithNo-alike is_inline_white a lead.ends }

pub Str-alike : {e : Backslash} {ends : Ends} {s r v x : List ℕ} → Alike r x
    → Str e ends s r v → Str e ends s x v
Str-alike Alike.same (Str.closed k h) = Str.closed k h
Str-alike Alike.same (Str.before_note c k raw inside note) = Str.before_note c k raw inside note
Str-alike a (Str.lone sp k h) = elim a [ ]

pub LineEnd-alike : {e r x : List ℕ} → Alike r x → LineEnd e r → LineEnd e x
LineEnd-alike a LineEnd.lf = LineEnd.lf
LineEnd-alike a LineEnd.cr_lf = LineEnd.cr_lf
LineEnd-alike a (LineEnd.cr n) = LineEnd.cr (BeginsWithNo-alike is_line_feed a n)

pub Note-alike : {s r x : List ℕ} → Alike r x → Note s r → Note s x
Note-alike Alike.same (Note.note mark all closes) = Note.note mark all closes

pub LineTail-alike : {s r x : List ℕ} → Alike r x → LineTail s r → LineTail s x
LineTail-alike Alike.same (LineTail.none closes) = LineTail.none closes
LineTail-alike a (LineTail.note noted) = LineTail.note (Note-alike a noted)

pub Gap-alike : {b s r x : List ℕ} → Alike r x → Gap b s r → Gap b s x
Gap-alike a (Gap.blank_line c ind h) = Gap.blank_line c ind h
Gap-alike Alike.same (Gap.before_header ind) = Gap.before_header ind
Gap-alike a (Gap.white h n) = Gap.white h n

module _ {o : ParseOption} where
  pub LineText-alike : {first : Bool} {s r v x : List ℕ} → Alike r x → LineText o first s r v
      → LineText o first s x v
  LineText-alike a (LineText.text {p = p} k plain str) =
      LineText.text k (λ on. BeginsWithNo-alike is_quote_mark (Alike-after p a) (plain on)) (Str-alike a str)

  pub Line-alike : {first : Bool} {s r v x : List ℕ} → Alike r x → Line o first s r v → Line o first s x v
  Line-alike a (Line.line {n = n} given tail) =
      Line.line (LineText-alike (Alike-after n a) given) (LineTail-alike a tail)

  -- a line before its line end stands before each text before which the line end does
  pub EndedLine-before : {first : Bool} {w l e r x u : List ℕ} → LineEnd e x → EndedLine o first w l e r u
      → EndedLine o first w l e x u
  EndedLine-before {l = l} {e} {r} {x} end n =
      let a = Alike-some e r x (line_end-some end) in
      record { lead = Lead-alike (Alike-after l a) n.lead; line = Line-alike a n.line; end = end }

  -- before a text that begins alike
  pub GoesOn-alike : {w r x : List ℕ} → Alike r x → GoesOn o w r → GoesOn o w x
  GoesOn-alike a goes = record {
    begins = goes.begins;
    lead = Lead-alike a goes.lead;
    text = λ on. BeginsWithNo-alike is_comment_mark a (goes.text on);
  }

  pub CommentLine-alike : {s r x : List ℕ} → Alike r x → CommentLine o s r → CommentLine o s x
  CommentLine-alike a (CommentLine.comment {n = n} on begins lead noted) =
      CommentLine.comment on begins (Lead-alike (Alike-after n a) lead) (Note-alike a noted)

  -- the line end stands before each text before which it does
  pub GoesOn-before : {w e r : List ℕ} (l x : List ℕ) → LineEnd e r → GoesOn o w (l ++ (e ++ r))
      → GoesOn o w (l ++ (e ++ x))
  GoesOn-before {e = e} {r} l x end goes =
      GoesOn-alike (Alike-after l (Alike-some e r x (line_end-some end))) goes

  pub CommentLine-before : {s e r : List ℕ} (x : List ℕ) → LineEnd e r → CommentLine o s (e ++ r)
      → CommentLine o s (e ++ x)
  CommentLine-before {e = e} {r} x end line = CommentLine-alike (Alike-some e r x (line_end-some end)) line

  pub MoreLines-alike : {s r v x : List ℕ} → Alike r x → MoreLines o s r v → MoreLines o s x v
  MoreLines-alike a (MoreLines.done n m) =
      MoreLines.done (BeginsWithNo-alike is_blank a n) (BeginsWithNo-alike is_line_end a m)
  MoreLines-alike a (MoreLines.empty_lf m) = MoreLines.empty_lf (MoreLines-alike a m)
  MoreLines-alike a (MoreLines.empty_cr_lf m) = MoreLines.empty_cr_lf (MoreLines-alike a m)
  MoreLines-alike {x = x} a (MoreLines.continued {l = l} {t = t} goes ln end m) =
      let n =
      EndedLine-before (LineEnd-alike (Alike-after t a) end)
      (record { lead = goes.lead; line = ln; end = end }) in
      MoreLines.continued (GoesOn-before l (t ++ x) end goes) n.line n.end (MoreLines-alike a m)
  MoreLines-alike a (MoreLines.last goes ln) = elim a [ ]
  MoreLines-alike {x = x} a (MoreLines.comment {t = t} line end m) =
      MoreLines.comment (CommentLine-before (t ++ x) end line) (LineEnd-alike (Alike-after t a) end)
      (MoreLines-alike a m)
  MoreLines-alike a (MoreLines.last_comment line) = elim a [ ]

  pub Value-alike : {s r v x : List ℕ} → Alike r x → Value o s r v → Value o s x v
  Value-alike a (Value.one_line {l = l} off lead ln) =
      Value.one_line off (Lead-alike (Alike-after l a) lead) (Line-alike a ln)
  Value-alike a (Value.to_end on lead ln) = elim a [ ]
  Value-alike a (Value.lines {t = t} on lead ln end m) =
      let n =
      EndedLine-before (LineEnd-alike (Alike-after t a) end)
      (record { lead = lead; line = ln; end = end }) in
      Value.lines on n.lead n.line n.end (MoreLines-alike a m)

  pub KeyFront-alike : {b s r v x : List ℕ} → Alike r x → KeyFront o b s r v → KeyFront o b s x v
  KeyFront-alike a (KeyFront.unindented {s} begins str) =
      KeyFront.unindented (BeginsWith-alike begins_key (Alike-after s a) begins) (Str-alike a str)
  KeyFront-alike a (KeyFront.indented {s = s} ind begins str) =
      KeyFront.indented ind (BeginsWith-alike (begins_indented_key o) (Alike-after s a) begins)
      (Str-alike a str)

  pub Element-alike : {b s r x : List ℕ} {gives : List Given} → Alike r x → Element o b s r gives
      → Element o b s x gives
  Element-alike a (Element.gap g) = Element.gap (Gap-alike a g)
  Element-alike a (Element.comment s one mark all) = Element.comment s one mark all
  Element-alike a (Element.last_comment one mark all) = elim a [ ]
  Element-alike a (Element.indented_comment on ind noted) =
      Element.indented_comment on ind (Note-alike a noted)
  Element-alike a (Element.note may late noted) = Element.note may late (Note-alike a noted)
  Element-alike a (Element.header off str) = Element.header off (Str-alike Alike.same str)
  Element-alike a (Element.bracketed_header on str i) = Element.bracketed_header on (Str-alike a str) i
  Element-alike a (Element.pair front some sep given) =
      Element.pair (KeyFront-alike Alike.same front) some sep (Value-alike a given)
  Element-alike a (Element.lone_key alone front some next) =
      Element.lone_key alone (KeyFront-alike a front) some (BeginsWithNo-alike is_separator a next)
  Element-alike a (Element.dropped_blanks ind) = elim a [ ]
  Element-alike a (Element.dropped_key runs ind begins stops) = elim a [ ]

  pub Reads-front : {T b c : List ℕ} {items : List Given} → Reads o T b items c → (m : List ℕ) × (b ++ m ≡ c)
  Reads-front {b = b} (Reads.stay r h) = ([], append-nil b)
  Reads-front {b = b} (Reads.step {s = s} h e reads) =
      let x = Reads-front reads in (s ++ x.0, sym (append_assoc b s x.0) ∙ x.1)

  -- elements up to the front c, before x in place of r, and then further elements
  pub Reads-alike : {T b c d r x : List ℕ} {items others : List Given} → Alike r x → T ≡ c ++ r
      → Reads o T b items c → Reads o (c ++ x) c others d
      → Reads o (c ++ x) b (items ++ others) d
  Reads-alike a h (Reads.stay y q) rest = rest
  Reads-alike {b = b} {c} {d} {r} {x} {others = others} a h
      (Reads.step {s = s} {r = y} {gives = gives} {items} q e reads) rest =
      let front = Reads-front reads in
      let m = front.0 in
      let following : y ≡ m ++ r = append_cancel_left (b ++ s) y (m ++ r)
      (append_assoc b s y ∙ sym q ∙ h ∙ ap (λ z. z ++ r) (sym front.1) ∙ append_assoc (b ++ s) m r) in
      let whole : c ++ x ≡ b ++ (s ++ (m ++ x)) =
      ap (λ z. z ++ x) (sym front.1) ∙ append_assoc (b ++ s) m x ∙ append_assoc b s (m ++ x) in
      subst (λ z. Reads o (c ++ x) b z d) (sym (append_assoc gives items others))
      (Reads.step whole (Element-alike (Alike-after m a) (subst (λ z. Element o b s z gives) following e))
      (Reads-alike a h reads rest))

  -- elements up to the front c stand there whatever follows its next character
  pub Reads-before : {b c : List ℕ} {items : List Given} (x : ℕ) (r more : List ℕ)
      → Reads o (c ++ x ∷ r) b items c → Reads o (c ++ x ∷ more) b items c
  Reads-before {b} {c} {items} x r more reads =
      subst (λ l. Reads o (c ++ x ∷ more) b l c) (append-nil items)
      (Reads-alike Alike.same refl reads (Reads.stay (x ∷ more) refl))
