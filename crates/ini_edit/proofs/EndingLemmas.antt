-- How texts end: after a row of pieces, a line of a value, and a line end.
use Rattle.std.proofs.Common.{◌≡◌, ◌≢◌, ℕ, Bool, true, false, ◌||◌, eqb, List, [], ◌∷◌, ◌++◌, refl, sym, ap}
use Rattle.std.proofs.Common.{◌∙◌, subst, append_assoc, Some, eqb-true, if◌then◌else◌}
use Rattle.std.proofs.lemmas.Option.{cond_some}
use Rattle.std.proofs.lemmas.Bool.{and_left, and_parts, cond-true, false≢true, false_from_ne_true}
use Rattle.std.specs.Char.{is_digit}
use Rattle.std.specs.List.{list_all}
use Rattle.ini_text.specs.declared.option.ParseOption.{ParseOption}
use Rattle.ini_text.specs.Grammar.CharacterKinds.{backslash, letter_x, line_feed, plus, is_blank}
use Rattle.ini_text.specs.Grammar.CharacterKinds.{is_inline_white, is_line_feed, is_quote_mark, BeginsWith}
use Rattle.ini_text.specs.Grammar.Positions.{last_or, is_column_one}
use Rattle.ini_text.specs.Grammar.EscapeSequences.{EscapeSequence, spelled}
use Rattle.ini_text.specs.Grammar.Strings.{Ends, Row, Str, is_endpoint}
use Rattle.ini_text.specs.Grammar.Lines.{LineText, Quoted}
use Rattle.ini_text.specs.Options.Backslashes.{Escape, Kept, Raw, begins_escape, is_special, reads_escapes}
use Rattle.ini_text.specs.Options.ReadOptions.{backslash_of}
use Rattle.ini_edit.specs.Endings.{Ending, next_ending, ending_from, ending}

-- where escapes are on, they are read, and where they are off, none are
pub on_reads : (o : ParseOption) → o.enabled_escape ≡ true → reads_escapes (backslash_of o) ≡ true
on_reads o on = at o.enabled_escape o.enabled_raw_backslash on
  where
    at : (e r : Bool) → e ≡ true
        → reads_escapes (if e then Escape else if r then Raw else Kept) ≡ true
    at true r h = refl
    at false true h = h
    at false false h = h

pub off_reads : (o : ParseOption) → o.enabled_escape ≡ false → reads_escapes (backslash_of o) ≡ false
off_reads o off = at o.enabled_escape o.enabled_raw_backslash off
  where
    at : (e r : Bool) → e ≡ false
        → reads_escapes (if e then Escape else if r then Raw else Kept) ≡ false
    at true r h = h
    at false true h = refl
    at false false h = refl

-- neither a backslash that takes the next character nor LF
pub record IsInner (o : ParseOption) (c : ℕ) : Type 0 where
  pub no_backslash : begins_escape (backslash_of o) c ≡ false
  pub no_line_feed : eqb c line_feed ≡ false

pub next_inner : (o : ParseOption) (e : Ending) (c : ℕ) → IsInner o c → next_ending o e c ≡ Ending.inside
next_inner o Ending.escape c h = refl
next_inner o Ending.inside c h = rw (h.no_backslash, h.no_line_feed) refl
next_inner o Ending.line c h = rw (h.no_backslash, h.no_line_feed) refl

-- how one text ends after another
pub ending_from-append : (o : ParseOption) (e : Ending) (x y : List ℕ)
    → ending_from o e (x ++ y) ≡ ending_from o (ending_from o e x) y
ending_from-append o e [] y = refl
ending_from-append o e (c ∷ x) y = ending_from-append o (next_ending o e c) x y

-- after such a character the text ends as what follows it does
pub ending-after : (o : ParseOption) (e : Ending) (X : List ℕ) (c : ℕ) (z : List ℕ) → IsInner o c
    → ending_from o e (X ++ c ∷ z) ≡ ending_from o Ending.inside z
ending-after o e [] c z h = ap (λ x. ending_from o x z) (next_inner o e c h)
ending-after o e (x ∷ X) c z h = ending-after o (next_ending o e x) X c z h

-- a character that passes a test isn't one that fails it
pub apart_by : (test : ℕ → Bool) (c d : ℕ) → test d ≡ false → test c ≡ true → eqb c d ≡ false
apart_by test c d fails h =
    false_from_ne_true (eqb c d) (λ q. false≢true (sym fails ∙ subst (λ x. test x ≡ true) (eqb-true c d q) h))

pub no_feed_by : (test : ℕ → Bool) (c : ℕ) → test line_feed ≡ false → test c ≡ true → eqb c line_feed ≡ false
no_feed_by test c fails h = apart_by test c line_feed fails h

pub inner_by : (o : ParseOption) (test : ℕ → Bool) (c : ℕ) → test backslash ≡ false
    → test line_feed ≡ false → test c ≡ true
    → IsInner o c
inner_by o test c no_slash no_feed h = record {
  no_backslash = and_left (eqb c backslash) (is_special (backslash_of o))
      (apart_by test c backslash no_slash h);
  no_line_feed = apart_by test c line_feed no_feed h;
}

pub inline_inner : (o : ParseOption) (c : ℕ) → is_inline_white c ≡ true → IsInner o c
inline_inner o c h = inner_by o is_inline_white c refl refl h

pub mark_inner : (o : ParseOption) (c : ℕ) → is_quote_mark c ≡ true → IsInner o c
mark_inner o c h = inner_by o is_quote_mark c refl refl h

-- four characters that spell one are such characters
digit_inner : (o : ParseOption) (c : ℕ) → is_digit c 16 ≡ true → IsInner o c
digit_inner o c h = inner_by o (λ x. is_digit x 16) c refl refl h

first_inner : (o : ParseOption) (c : ℕ) → (is_digit c 16 || eqb c plus) ≡ true → IsInner o c
first_inner o c h = inner_by o (λ x. is_digit x 16 || eqb x plus) c refl refl h

spelled_inner : (o : ParseOption) (a b c d v : ℕ) → spelled a b c d ≡ Some v
    → IsInner o a × IsInner o b × IsInner o c × IsInner o d
unfolding spelled
spelled_inner o a b c d v h =
    let all = (cond_some _ _ _ h).0 in
    let four = (and_parts _ _ all).0 in
    let three = and_parts _ (is_digit d 16) four in
    let two = and_parts _ (is_digit c 16) three.0 in
    let one = and_parts (is_digit a 16 || eqb a plus) (is_digit b 16) two.0 in
    (first_inner o a one.0, digit_inner o b one.1, digit_inner o c two.1, digit_inner o d three.1)

ending-inner : (o : ParseOption) (c : ℕ) (z : List ℕ) → IsInner o c
    → ending_from o Ending.inside (c ∷ z) ≡ ending_from o Ending.inside z
ending-inner o c z h = ending-after o Ending.inside [] c z h

-- after a backslash that takes the next character
after_special : (o : ParseOption) → is_special (backslash_of o) ≡ true → (c : ℕ) (z : List ℕ)
    → ending_from o Ending.inside (backslash ∷ c ∷ z) ≡ ending_from o Ending.inside z
after_special o special c z =
    ap (λ e. ending_from o e (c ∷ z)) (cond-true (is_special (backslash_of o)) Ending.escape _ special)

-- after a piece
ending-escape : (o : ParseOption) → is_special (backslash_of o) ≡ true
    → {escapes : Bool} {p w : List ℕ} (z : List ℕ)
    → EscapeSequence escapes p w
    → ending_from o Ending.inside (p ++ z) ≡ ending_from o Ending.inside z
ending-escape o special z EscapeSequence.folded = after_special o special line_feed z
ending-escape o special z (EscapeSequence.named {c} on is) = after_special o special c z
ending-escape o special z (EscapeSequence.coded {a} {b} {c} {d} {v} on is) =
    let (ia, ib, ic, id) = spelled_inner o a b c d v is in
    after_special o special letter_x (a ∷ (b ∷ (c ∷ (d ∷ z))))
    ∙ ending-inner o a (b ∷ (c ∷ (d ∷ z))) ia ∙ ending-inner o b (c ∷ (d ∷ z)) ib
    ∙ ending-inner o c (d ∷ z) ic
    ∙ ending-inner o d z id
ending-escape o special z (EscapeSequence.itself {c} on n m k) = after_special o special c z
ending-escape o special z (EscapeSequence.kept {c} off n) = after_special o special c z

no_feed : (ends : Ends) (c : ℕ) → is_endpoint ends line_feed ≡ true → is_endpoint ends c ≡ false
    → eqb c line_feed ≡ false
no_feed ends c feed inside =
    false_from_ne_true (eqb c line_feed)
    (λ q. false≢true (sym inside
    ∙ subst (λ x. is_endpoint ends x ≡ true) (sym (eqb-true c line_feed q)) feed))

-- after a row that LF ends
pub ending-row : (o : ParseOption) {ends : Ends} {s v : List ℕ} (z : List ℕ)
    → is_endpoint ends line_feed ≡ true
    → Row (backslash_of o) ends s v → ending_from o Ending.inside (s ++ z) ≡ ending_from o Ending.inside z
ending-row o z feed Row.none = refl
ending-row o {ends = ends} z feed (Row.raw {c} {s = s} n inside apart rest) =
    ending-inner o c (s ++ z) (record { no_backslash = n; no_line_feed = no_feed ends c feed inside })
    ∙ ending-row o z feed rest
ending-row o z feed (Row.escape {p = p} {s = s} special k rest) =
    ap (ending_from o Ending.inside) (append_assoc p s z) ∙ ending-escape o special (s ++ z) k
    ∙ ending-row o z feed rest

pub ending-white : (o : ParseOption) (w z : List ℕ) → list_all is_inline_white w ≡ true
    → ending_from o Ending.inside (w ++ z) ≡ ending_from o Ending.inside z
ending-white o [] z h = refl
ending-white o (c ∷ w) z h =
    let parts = and_parts (is_inline_white c) (list_all is_inline_white w) h in
    ending-inner o c (w ++ z) (inline_inner o c parts.0) ∙ ending-white o w z parts.1

pub ending-quoted : {o : ParseOption} {q w : List ℕ} {some : Bool} (z : List ℕ) → Quoted o q w some
    → ending_from o Ending.inside (q ++ z) ≡ ending_from o Ending.inside z
ending-quoted {o} z Quoted.none = refl
ending-quoted {o} z (Quoted.part {m = m} {s = s} {q = q} on mark str rest) =
    ap (λ x. ending_from o Ending.inside (m ∷ x)) (append_assoc s (m ∷ q) z)
    ∙ ending-after o Ending.inside (m ∷ s) m (q ++ z) (mark_inner o m mark) ∙ ending-quoted z rest

-- after a line's text that something follows
ending-str : (o : ParseOption) {ends : Ends} {s r v : List ℕ} (z : List ℕ)
    → is_endpoint ends line_feed ≡ true → r ≢ [] → Str (backslash_of o) ends s r v
    → ending_from o Ending.inside (s ++ z) ≡ ending_from o Ending.inside z
ending-str o z feed some (Str.closed row h) = ending-row o z feed row
ending-str o {ends = ends} z feed some (Str.before_note {s} c row n inside note) =
    ap (ending_from o Ending.inside) (append_assoc s (c ∷ []) z) ∙ ending-row o (c ∷ z) feed row
    ∙ ending-inner o c z (record { no_backslash = n; no_line_feed = no_feed ends c feed inside })
ending-str o z feed some (Str.lone special row h) = absurd (some refl)

pub ending-text : {o : ParseOption} {first : Bool} {l r v : List ℕ} (z : List ℕ) → r ≢ []
    → LineText o first l r v
    → ending_from o Ending.inside (l ++ z) ≡ ending_from o Ending.inside z
ending-text {o} z some (LineText.text {q = q} {p = p} quoted plain str) =
    ap (ending_from o Ending.inside) (append_assoc q p z) ∙ ending-quoted (p ++ z) quoted
    ∙ ending-str o z refl some str

-- after the lead of a line that goes on with a value
pub ending-lead : (o : ParseOption) (e : Ending) (w z : List ℕ) → BeginsWith is_blank w
    → list_all is_inline_white w ≡ true
    → ending_from o e (w ++ z) ≡ ending_from o Ending.inside z
ending-lead o e [] z some h = absurd (false≢true (sym some))
ending-lead o e (c ∷ w) z some h =
    let parts = and_parts (is_inline_white c) (list_all is_inline_white w) h in
    ap (λ x. ending_from o x (w ++ z)) (next_inner o e c (inline_inner o c parts.0))
    ∙ ending-white o w z parts.1

-- column one is after an LF
pub column_ending : (o : ParseOption) (W : List ℕ) → ending o W ≡ Ending.line → is_column_one W ≡ true
column_ending o W h = at Ending.line line_feed W (λ _. refl) h
  where
    next : (e : Ending) (c : ℕ) → next_ending o e c ≡ Ending.line → is_line_feed c ≡ true
    next Ending.escape c h = cc
    next Ending.inside c h = by (begins_escape (backslash_of o) c) (eqb c line_feed) refl h
      where
        by : (x y : Bool) → eqb c line_feed ≡ y
            → (if x then Ending.escape else (if y then Ending.line else Ending.inside)) ≡ Ending.line
            → eqb c line_feed ≡ true
        by true y is h = cc
        by false true is h = is
        by false false is h = cc
    next Ending.line c h = by (begins_escape (backslash_of o) c) (eqb c line_feed) refl h
      where
        by : (x y : Bool) → eqb c line_feed ≡ y
            → (if x then Ending.escape else (if y then Ending.line else Ending.inside)) ≡ Ending.line
            → eqb c line_feed ≡ true
        by true y is h = cc
        by false true is h = is
        by false false is h = cc

    at : (e : Ending) (d : ℕ) (cs : List ℕ) → (e ≡ Ending.line → is_line_feed d ≡ true)
        → ending_from o e cs ≡ Ending.line → is_line_feed (last_or d cs) ≡ true
    at e d [] h is = h is
    at e d (c ∷ cs) h is = at (next_ending o e c) c cs (next e c) is
