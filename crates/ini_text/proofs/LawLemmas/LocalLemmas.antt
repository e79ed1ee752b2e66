-- An element is a local matter: of what stands before it, and of what follows it, one character matters.
use Rattle.std.proofs.Common.{◌≡◌, ℕ, Bool, true, false, ◌||◌, ◌&&◌, List, [], ◌∷◌, ◌++◌, refl, sym, ◌∙◌}
use Rattle.std.proofs.lemmas.Bool.{false≢true}
use Rattle.ini_text.specs.Grammar.CharacterKinds.{is_blank, is_comment_mark, line_feed, BeginsWith}
use Rattle.ini_text.specs.Grammar.Positions.{last_or, starts_line}
use Rattle.ini_text.specs.Grammar.Elements.{Given, Gap, Element, may_have_note}
use Rattle.ini_text.specs.Grammar.Keys.{Indentation, KeyFront}
use Rattle.ini_text.specs.Grammar.Lines.{Note}
use Rattle.ini_text.specs.Laws.PieceLaws.{Agree, BeginAlike}
use Rattle.ini_text.specs.declared.option.ParseOption.{ParseOption}
use Rattle.ini_text.proofs.LawLemmas.OneAheadLemmas.{Alike, Element-alike}

begins_more : (test : ℕ → Bool) (w x : List ℕ) → BeginsWith test w → BeginsWith test (w ++ x)
begins_more test [] x h = absurd (false≢true (sym h))
begins_more test (c ∷ w) x h = h

module _ {o : ParseOption} where
  -- fronts that agree before a text agree before its front
  pub Agree-front : {b c s : List ℕ} (x : List ℕ) → Agree o b c (s ++ x) → Agree o b c s
  Agree-front {s} x a = record {
    line = λ h. a.line (begins_more is_blank s x h);
    column = λ h. a.column (begins_more is_comment_mark s x h);
    comment = λ on h. a.comment on (begins_more is_comment_mark s x h);
  }

  -- a front and its last character agree before any text
  pub by_last : {b s : List ℕ} → Agree o b (last_or line_feed b ∷ []) s
  by_last = record { line = λ h. refl; column = λ h. refl; comment = λ on h. refl }

  pub by_front : {b s : List ℕ} → Agree o (last_or line_feed b ∷ []) b s
  by_front = record { line = λ h. refl; column = λ h. refl; comment = λ on h. refl }

-- a note begins with a mark
Note-begins : {s r : List ℕ} → Note s r → BeginsWith is_comment_mark s
Note-begins (Note.note mark all closes) = mark

-- where a line starts after both fronts or after neither, a note may stand after both or after neither
may_have_note-like : (o : ParseOption) (b c : List ℕ)
    → (o.enabled_indented_comment ≡ true → starts_line b ≡ starts_line c)
    → may_have_note o b ≡ may_have_note o c
may_have_note-like o b c h =
    at o.enabled_inline_comment o.enabled_indented_comment (starts_line b) (starts_line c) h
  where
    at : (n i x y : Bool) → (i ≡ true → x ≡ y) → (n || i && x) ≡ (n || i && y)
    at true i x y h = refl
    at false true x y h = h refl
    at false false x y h = refl

module _ {o : ParseOption} {b c : List ℕ} where
  Indentation-like : {w : List ℕ} → Agree o b c w → Indentation b w → Indentation c w
  Indentation-like a i =
      record { at_line_start = sym (a.line i.some) ∙ i.at_line_start; some = i.some; blank = i.blank }

  Gap-like : {s r : List ℕ} → Agree o b c s → Gap b s r → Gap c s r
  Gap-like a (Gap.blank_line x i e) = Gap.blank_line x (Indentation-like (Agree-front (x ∷ []) a) i) e
  Gap-like a (Gap.before_header i) = Gap.before_header (Indentation-like a i)
  Gap-like a (Gap.white h n) = Gap.white h (λ q. sym (a.line q) ∙ n q)

  pub KeyFront-like : {s r v : List ℕ} → Agree o b c s → KeyFront o b s r v → KeyFront o c s r v
  KeyFront-like a (KeyFront.unindented h str) = KeyFront.unindented h str
  KeyFront-like a (KeyFront.indented {s = s} i h str) =
      KeyFront.indented (Indentation-like (Agree-front s a) i) h str

  -- after a front that agrees
  pub Element-like : {s r : List ℕ} {gives : List Given} → Agree o b c s → Element o b s r gives
      → Element o c s r gives
  Element-like a (Element.gap g) = Element.gap (Gap-like a g)
  Element-like a (Element.comment s at mark all) =
      Element.comment s (sym (a.column mark) ∙ at) mark all
  Element-like a (Element.last_comment at mark all) =
      Element.last_comment (sym (a.column mark) ∙ at) mark all
  Element-like a (Element.indented_comment {s = s} on i noted) =
      Element.indented_comment on (Indentation-like (Agree-front s a) i) noted
  Element-like a (Element.note may late noted) =
      let mark = Note-begins noted in
      Element.note (sym (may_have_note-like o b c (λ on. a.comment on mark)) ∙ may)
      (sym (a.column mark) ∙ late) noted
  Element-like a (Element.header off str) = Element.header off str
  Element-like a (Element.bracketed_header on str i) = Element.bracketed_header on str i
  Element-like a (Element.pair {s = s} {m = m} front some sep value) =
      Element.pair (KeyFront-like (Agree-front (m ∷ s) a) front) some sep value
  Element-like a (Element.lone_key alone front some next) =
      Element.lone_key alone (KeyFront-like a front) some next
  Element-like a (Element.dropped_blanks i) = Element.dropped_blanks (Indentation-like a i)
  Element-like a (Element.dropped_key {s = s} runs i begins stops) =
      Element.dropped_key runs (Indentation-like (Agree-front s a) i) begins stops

-- texts that begin alike
pub BeginAlike-same : (r : List ℕ) → BeginAlike r r
BeginAlike-same [] = BeginAlike.empty
BeginAlike-same (c ∷ r) = BeginAlike.character

pub BeginAlike-after : (s : List ℕ) {r x : List ℕ} → BeginAlike r x → BeginAlike (s ++ r) (s ++ x)
BeginAlike-after [] a = a
BeginAlike-after (c ∷ s) a = BeginAlike.character

-- before a text that begins alike
pub Element-before : {o : ParseOption} {b s r x : List ℕ} {gives : List Given} → BeginAlike r x
    → Element o b s r gives → Element o b s x gives
Element-before BeginAlike.empty e = e
Element-before BeginAlike.character e = Element-alike Alike.same e
