-- A row of elements that no line end follows stands before other texts too.
use Rattle.std.proofs.Common.{◌≡◌, ◌≢◌, ℕ, Bool, true, false, not, ◌||◌, eqb, List, [], ◌∷◌, ◌++◌, refl, sym}
use Rattle.std.proofs.Common.{ap, ◌∙◌, subst, append_assoc, append-nil, eqb-true, inl, inr}
use Rattle.std.specs.Prelude.{◌⊎◌}
use Rattle.std.specs.List.{list_all}
use Rattle.std.proofs.lemmas.Bool.{both_ways, false≢true, and_parts, or_parts, not-true, false_from_ne_true}
use Rattle.std.proofs.lemmas.List.{append_cancel_left}
use Rattle.std.specs.Char.{is_whitespace}
use Rattle.ini_text.specs.Options.Backslashes.{Backslash}
use Rattle.ini_text.specs.declared.option.ParseOption.{ParseOption}
use Rattle.ini_text.specs.Grammar.CharacterKinds.{begins, line_feed, open_bracket, is_blank, is_comment_mark}
use Rattle.ini_text.specs.Grammar.CharacterKinds.{is_line_feed}
use Rattle.ini_text.specs.Grammar.CharacterKinds.{is_line_end, is_separator, BeginsWith, BeginsWithNo}
use Rattle.ini_text.specs.Grammar.Places.{TrailingLines}
use Rattle.ini_text.specs.Grammar.Positions.{last_or, is_column_one}
use Rattle.ini_text.specs.Grammar.Strings.{Closes, Ends, Str, bracketed_name_ends, noted, noted_key_ends}
use Rattle.ini_text.specs.Grammar.Strings.{plain_ends}
use Rattle.ini_text.specs.Grammar.Values.{LineEnd, MoreLines, Value}
use Rattle.ini_text.specs.Grammar.Keys.{KeyFront, begins_key}
use Rattle.ini_text.specs.Grammar.Elements.{Given, Header, Element}
use Rattle.ini_text.specs.Grammar.Texts.{Reads}
use Rattle.ini_text.proofs.GrammarLemmas.KindLemmas.{comment_mark-apart, line_end_no_blank}
use Rattle.ini_text.proofs.LawLemmas.PieceLemmas.{last_or-append}
use Rattle.ini_text.proofs.LawLemmas.OneAheadLemmas.{Alike, CommentLine-before, Element-alike}
use Rattle.ini_text.proofs.LawLemmas.OneAheadLemmas.{EndedLine-before, GoesOn-before, KeyFront-alike}
use Rattle.ini_text.proofs.LawLemmas.OneAheadLemmas.{Reads-front, Str-alike}
use Rattle.ini_text.proofs.ReaderLemmas.KeyReaderLemmas.{key_end_separates}
use Rattle.ini_text.proofs.ReaderLemmas.StringReaderLemmas.{note_parts}
use Rattle.ini_text.proofs.StringLemmas.ScanLemmas.{last_or_append}
use Rattle.ini_text.proofs.PlainLemmas.PlainLineLemmas.{column_one_after}
use Rattle.ini_text.proofs.PlainLemmas.PlainTrimLemmas.{line_end_is_white}
use Rattle.ini_edit.specs.Places.{Follows}
use Rattle.ini_edit.proofs.QuietLemmas.{IsHeader, Quiet, Shape, as_quiet, free, note_ahead, shape}
use Rattle.ini_edit.proofs.ValueLemmas.{closes_line_end, line_closes}

-- a comment mark stands after the front c in column one alone
abbrev pub NoNoteAfter : (c y : List ℕ) → Type 0
NoNoteAfter c y = BeginsWithNo is_comment_mark y ⊎ (is_column_one c ≡ true)

-- What stands after the front c: no line end; and a bracket in column one alone, since blanks before one
-- are an element of their own, and a comment mark, since else a note begins.
pub record FollowsFront (c y : List ℕ) : Type 0 where
  pub some : BeginsWith (λ c. not (is_line_end c)) y
  pub bracket : BeginsWithNo (λ c. eqb c open_bracket) y ⊎ (is_column_one c ≡ true)
  pub note : NoNoteAfter c y

-- blanks don't end in column one
last_blank : (c : ℕ) (w : List ℕ) → list_all is_blank (c ∷ w) ≡ true → is_line_feed (last_or c w) ≡ false
last_blank c [] h =
    let parts = and_parts (is_blank c) true h in
    false_from_ne_true (is_line_feed c)
    (λ q. false≢true (subst (λ z. is_blank z ≡ true) (eqb-true c 0x0A q) parts.0))
last_blank c (d ∷ w) h = last_blank d w (and_parts (is_blank c) (list_all is_blank (d ∷ w)) h).1

pub blank_no_column : (b w : List ℕ) → BeginsWith is_blank w → list_all is_blank w ≡ true
    → is_column_one (b ++ w) ≡ true → ⊥
blank_no_column b [] some all one = false≢true (sym some)
blank_no_column b (c ∷ w) some all one =
    both_ways (is_line_feed (last_or c w)) (last_blank c w all) (sym (column_one_after b c w) ∙ one)

pub no_line_feed : (x : List ℕ) → BeginsWithNo is_line_end x → BeginsWithNo is_line_feed x
no_line_feed [] h = tt
no_line_feed (c ∷ x) h = at (eqb c 0x0A) (eqb c 0x0D) h
  where
    at : (p q : Bool) → (p || q) ≡ false → p ≡ false
    at true q h = h
    at false q h = refl

pub LineEnd-before : {e : List ℕ} (t x y : List ℕ) → BeginsWithNo is_line_end x → LineEnd e (t ++ y)
    → LineEnd e (t ++ x)
LineEnd-before t x y h LineEnd.lf = LineEnd.lf
LineEnd-before t x y h LineEnd.cr_lf = LineEnd.cr_lf
LineEnd-before [] x y h (LineEnd.cr n) = LineEnd.cr (no_line_feed x h)
LineEnd-before (c ∷ t) x y h (LineEnd.cr n) = LineEnd.cr n

-- no text that closes a line begins so
pub closes_no_line : {X : Type 0} (y : List ℕ) → BeginsWith (λ c. not (is_line_end c)) y
    → Closes plain_ends y
    → X
closes_no_line [] begins h = absurd (false≢true (sym begins))
closes_no_line (c ∷ y) begins h =
    absurd (both_ways (is_line_end c) (not-true (is_line_end c) begins) (closes_line_end c h))

-- what a string stands before: what closes it; or a note, behind a blank
pub data StrEnds (ends : Ends) (s r : List ℕ) : Type 0 where
  closed : Closes ends r → StrEnds ends s r
  before_mark : ends.notes ≡ true → ((d : ℕ) → is_blank (last_or d s) ≡ true)
      → begins is_comment_mark r ≡ true
      → StrEnds ends s r

pub str_ends : {e : Backslash} {ends : Ends} {s r v : List ℕ} → Str e ends s r v → StrEnds ends s r
str_ends (Str.closed row h) = StrEnds.closed h
str_ends {ends = ends} {r = r} (Str.before_note {s} c row n inside note) =
    let parts = note_parts ends c r note in
    StrEnds.before_mark parts.0 (λ d. ap is_blank (last_or_append d c s) ∙ parts.1) parts.2
str_ends (Str.lone special row h) = StrEnds.closed h

ends_behind : {ends : Ends} {s r : List ℕ} (w : List ℕ) → StrEnds ends s r → StrEnds ends (w ++ s) r
ends_behind w (StrEnds.closed h) = StrEnds.closed h
ends_behind {s = s} w (StrEnds.before_mark on last mark) =
    StrEnds.before_mark on (λ d. ap is_blank (last_or-append d w s) ∙ last (last_or d w)) mark

pub key_ends_so : {o : ParseOption} {b k r key : List ℕ} → KeyFront o b k r key
    → StrEnds (noted_key_ends o) k r
key_ends_so (KeyFront.unindented begins str) = str_ends str
key_ends_so (KeyFront.indented {w = w} i begins str) = ends_behind w (str_ends str)

-- so what closes it follows it where no note does
no_mark : (y : List ℕ) → BeginsWithNo is_comment_mark y → begins is_comment_mark y ≡ false
no_mark [] h = refl
no_mark (c ∷ y) h = h

pub ends_closed : {ends : Ends} {s y : List ℕ} (f : List ℕ) → NoNoteAfter (f ++ s) y → StrEnds ends s y
    → Closes ends y
ends_closed f apart (StrEnds.closed h) = h
ends_closed {s = s} {y = y} f (inl none) (StrEnds.before_mark on last mark) =
    absurd (both_ways (begins is_comment_mark y) (no_mark y none) mark)
ends_closed {s = s} f (inr one) (StrEnds.before_mark on last mark) =
    let d = last_or (last_or line_feed f) s in
    let feed : is_line_feed d ≡ true = ap is_line_feed (sym (last_or-append line_feed f s)) ∙ one in
    absurd (false≢true (subst (λ z. is_blank z ≡ true) (eqb-true d 0x0A feed) (last (last_or line_feed f))))

-- nor does a key alone stand before one
pub lone_no_line : {X : Type 0} {o : ParseOption} {b k key : List ℕ} (f y : List ℕ)
    → BeginsWith (λ c. not (is_line_end c)) y → NoNoteAfter (f ++ k) y → KeyFront o b k y key
    → BeginsWithNo is_separator y → X
lone_no_line f [] begins apart front next = absurd (false≢true (sym begins))
lone_no_line {o = o} f (c ∷ y) begins apart front next =
    absurd (both_ways (is_separator c) next
    (key_end_separates o.line_without_separator c (ends_closed f apart (key_ends_so front))
    (not-true (is_line_end c) begins)))

y_some : {c y : List ℕ} → FollowsFront c y → y ≢ []
y_some f e = false≢true (sym (subst (BeginsWith (λ c. not (is_line_end c))) e f.some))

-- what gives nothing, and a header, stand before any other text too
quiet_before : {o : ParseOption} {b s y : List ℕ} (x : List ℕ) → FollowsFront (b ++ s) y → Quiet o b s y
    → Element o b s x []
quiet_before x f (Quiet.anywhere e) = free x e
quiet_before {b = b} x f (Quiet.before_header {w = w} i) = elim f.bracket [
  | inl apart ↦ absurd (false≢true (sym apart))
  | inr one ↦ absurd (blank_no_column b w i.some i.blank one)
]
quiet_before x f (Quiet.at_end tail) = absurd (y_some f refl)
quiet_before {y = y} x f (Quiet.at_line_end front noted) = note_ahead y noted f.some

pub nothing_before : {o : ParseOption} {b s y : List ℕ} {gives : List Given} (x : List ℕ)
    → FollowsFront (b ++ s) y → gives ≡ [] → Element o b s y gives → Element o b s x gives
nothing_before {o} {b} {s} x f none e =
    subst (Element o b s x) (sym none) (quiet_before x f (as_quiet e none))

pub header_before : {o : ParseOption} {b s y name : List ℕ} (f x : List ℕ)
    → BeginsWith (λ c. not (is_line_end c)) y → NoNoteAfter (f ++ s) y → IsHeader o s y name
    → Element o b s x (Header name ∷ [])
header_before f x some apart (IsHeader.plain off str) = Element.header off (Str-alike Alike.same str)
header_before {o} {y = y} f x some apart (IsHeader.bracketed {s = s} on str i) =
    at y some (ends_closed (f ++ open_bracket ∷ [])
    (subst (λ z. NoNoteAfter z y) (sym (append_assoc f (open_bracket ∷ []) s)) apart) (str_ends str))
  where
    at : {X : Type 0} (y : List ℕ) → BeginsWith (λ c. not (is_line_end c)) y
        → Closes (noted o bracketed_name_ends) y → X
    at [] some h = absurd (false≢true (sym some))
    at (d ∷ y) some h = closes_no_line (d ∷ y) some h

module _ {o : ParseOption} {x : List ℕ} (follows : Follows o x) where
  module _ (on : o.enabled_indented_mutiline_value ≡ true) where
    MoreLines-before : {t y v : List ℕ} → y ≢ [] → MoreLines o t y v → MoreLines o t x v
    MoreLines-before some (MoreLines.done n m) =
        MoreLines.done (follows.no_blank on) (follows.no_line_end on)
    MoreLines-before some (MoreLines.empty_lf m) = MoreLines.empty_lf (MoreLines-before some m)
    MoreLines-before some (MoreLines.empty_cr_lf m) = MoreLines.empty_cr_lf (MoreLines-before some m)
    MoreLines-before some (MoreLines.continued {l = l} {t = t} goes ln le m) =
        let n = EndedLine-before (LineEnd-before t x _ (follows.no_line_end on) le)
        (record { lead = goes.lead; line = ln; end = le }) in
        MoreLines.continued (GoesOn-before l (t ++ x) le goes) n.line n.end (MoreLines-before some m)
    MoreLines-before some (MoreLines.last goes ln) = absurd (some refl)
    MoreLines-before some (MoreLines.comment {t = t} line le m) =
        MoreLines.comment (CommentLine-before (t ++ x) le line)
        (LineEnd-before t x _ (follows.no_line_end on) le) (MoreLines-before some m)
    MoreLines-before some (MoreLines.last_comment line) = absurd (some refl)

  -- a multiline value that something follows
  pub Value-before : {s y v : List ℕ} → o.enabled_indented_mutiline_value ≡ true → y ≢ [] → Value o s y v
      → Value o s x v
  Value-before on some (Value.one_line off lead ln) =
      absurd (both_ways o.enabled_indented_mutiline_value off on)
  Value-before on some (Value.to_end _ lead ln) = absurd (some refl)
  Value-before on some (Value.lines {t = t} _ lead ln le m) =
      let n = EndedLine-before (LineEnd-before t x _ (follows.no_line_end on) le)
      (record { lead = lead; line = ln; end = le }) in
      Value.lines on n.lead n.line n.end (MoreLines-before on some m)

  pub value_before : {c s y v : List ℕ} → FollowsFront c y → Value o s y v → Value o s x v
  value_before {y = y} f (Value.one_line off lead ln) = closes_no_line y f.some (line_closes ln)
  value_before f (Value.to_end on lead ln) = absurd (y_some f refl)
  value_before f (Value.lines on lead ln le m) = Value-before on (y_some f) (Value.lines on lead ln le m)

  pub tail_before : {c t y : List ℕ} → FollowsFront c y → TrailingLines o t y → TrailingLines o t x
  tail_before {y = y} f (TrailingLines.line off closes) = closes_no_line y f.some closes
  tail_before f (TrailingLines.end on) = absurd (y_some f refl)
  tail_before f (TrailingLines.lines {t = t} on end more all) =
      TrailingLines.lines on (LineEnd-before t x _ (follows.no_line_end on) end)
      (MoreLines-before on (y_some f) more) all

  pub Element-before : {b s y : List ℕ} {gives : List Given} → FollowsFront (b ++ s) y
      → Element o b s y gives
      → Element o b s x gives
  Element-before {b = b} {y = y} f e = at f (shape e)
    where
      at : {s : List ℕ} {gives : List Given} → FollowsFront (b ++ s) y → Shape o b s y gives
          → Element o b s x gives
      at f (Shape.quiet q) = quiet_before x f q
      at f (Shape.header h) = header_before b x f.some f.note h
      at f (Shape.pair front some sep given) =
          Element.pair (KeyFront-alike Alike.same front) some sep (value_before f given)
      at f (Shape.lone_key may_be front some next) = lone_no_line b y f.some f.note front next

  -- elements up to the front c, before x in place of y, and then further elements
  pub Reads-before_line : {T b c d : List ℕ} {items others : List Given} (y : List ℕ) → FollowsFront c y
      → T ≡ c ++ y
      → Reads o T b items c → Reads o (c ++ x) c others d → Reads o (c ++ x) b (items ++ others) d
  Reads-before_line y f h (Reads.stay z q) rest = rest
  Reads-before_line {b = b} {c} {d} {others = others} y f h
      (Reads.step {s = s} {r = z} {gives = gives} {items} q e reads) rest =
      let front = Reads-front reads in
      let m = front.0 in
      let following : z ≡ m ++ y = append_cancel_left (b ++ s) z (m ++ y)
      (append_assoc b s z ∙ sym q ∙ h ∙ ap (λ w. w ++ y) (sym front.1) ∙ append_assoc (b ++ s) m y) in
      let whole : c ++ x ≡ b ++ (s ++ (m ++ x)) =
      ap (λ w. w ++ x) (sym front.1) ∙ append_assoc (b ++ s) m x ∙ append_assoc b s (m ++ x) in
      subst (λ w. Reads o (c ++ x) b w d) (sym (append_assoc gives items others))
      (Reads.step whole (at m front.1 (subst (λ w. Element o b s w gives) following e))
      (Reads-before_line y f h reads rest))
    where
      at : {s : List ℕ} {gives : List Given} (m : List ℕ) → (b ++ s) ++ m ≡ c → Element o b s (m ++ y) gives
          → Element o b s (m ++ x) gives
      at {s} [] is e =
          Element-before (subst (λ z. FollowsFront z y) (sym is ∙ append-nil (b ++ s)) f) e
      at (a ∷ m) is e = Element-alike Alike.same e

-- a key begins so
begins_no_line_end : (c : ℕ) → is_whitespace c ≡ false → not (is_line_end c) ≡ true
begins_no_line_end c h =
    ap not (false_from_ne_true (is_line_end c) (λ q. both_ways (is_whitespace c) h (line_end_is_white c q)))

pub key_follows : {o : ParseOption} {b k key : List ℕ} (r : List ℕ) → KeyFront o b k r key
    → FollowsFront b (k ++ r)
key_follows {b = b} r (KeyFront.unindented {s = s} begins str) = at (s ++ r) begins
  where
    at : (x : List ℕ) → BeginsWith begins_key x → FollowsFront b x
    at [] h = absurd (false≢true (sym h))
    at (c ∷ x) h =
        let parts = or_parts (is_whitespace c || is_comment_mark c) (eqb c open_bracket) (not-true _ h) in
        record {
          some = begins_no_line_end c (or_parts (is_whitespace c) (is_comment_mark c) parts.0).0;
          bracket = inl parts.1;
          note = inl (or_parts (is_whitespace c) (is_comment_mark c) parts.0).1;
        }
key_follows {b = b} r (KeyFront.indented {w = w} {s = s} i begins str) = at w i.some
  where
    at : (w : List ℕ) → BeginsWith is_blank w → FollowsFront b ((w ++ s) ++ r)
    at [] h = absurd (false≢true (sym h))
    at (c ∷ w) h = record {
      some = ap not (false_from_ne_true (is_line_end c)
          (λ q. both_ways (is_blank c) (line_end_no_blank c q) h));
      bracket =
          inl (false_from_ne_true (eqb c open_bracket)
          (λ q. false≢true (subst (λ z. is_blank z ≡ true) (eqb-true c open_bracket q) h)));
      note = inl (false_from_ne_true (is_comment_mark c)
          (λ mark. both_ways (is_blank c) (comment_mark-apart c mark).0 h));
    }

-- what follows a multiline value
pub more_follows : {o : ParseOption} {t r v : List ℕ} → MoreLines o t r v → Follows o r
more_follows (MoreLines.done n m) = record { no_blank = λ _. n; no_line_end = λ _. m }
more_follows (MoreLines.empty_lf m) = more_follows m
more_follows (MoreLines.empty_cr_lf m) = more_follows m
more_follows (MoreLines.continued goes ln le m) = more_follows m
more_follows (MoreLines.last goes ln) = record { no_blank = λ _. tt; no_line_end = λ _. tt }
more_follows (MoreLines.comment line le m) = more_follows m
more_follows (MoreLines.last_comment line) = record { no_blank = λ _. tt; no_line_end = λ _. tt }

pub value_follows : {o : ParseOption} {s r v : List ℕ} → o.enabled_indented_mutiline_value ≡ true
    → Value o s r v → Follows o r
value_follows {o} on (Value.one_line off lead ln) =
    absurd (both_ways o.enabled_indented_mutiline_value off on)
value_follows on (Value.to_end _ lead ln) = record { no_blank = λ _. tt; no_line_end = λ _. tt }
value_follows on (Value.lines _ lead ln le m) = more_follows m

-- where values aren't multiline anything may follow
pub any_follows : {o : ParseOption} (x : List ℕ) → o.enabled_indented_mutiline_value ≡ false → Follows o x
any_follows {o} x off = record {
  no_blank = λ on. absurd (both_ways o.enabled_indented_mutiline_value off on);
  no_line_end = λ on. absurd (both_ways o.enabled_indented_mutiline_value off on);
}

-- a value that isn't multiline is closed
pub value_closes : {o : ParseOption} {s r v : List ℕ} → o.enabled_indented_mutiline_value ≡ false
    → Value o s r v → Closes plain_ends r
value_closes off (Value.one_line _ lead ln) = line_closes ln
value_closes {o} off (Value.to_end on lead ln) = absurd (both_ways o.enabled_indented_mutiline_value off on)
value_closes {o} off (Value.lines on lead ln le m) =
    absurd (both_ways o.enabled_indented_mutiline_value off on)
