-- Lines after a value, which give line feeds alone: a walk over them knows where each ends.
use Rattle.std.proofs.Common.{◌≡◌, ◌≢◌, ◌∙◌, ◌==◌, ◌&&◌, ◌||◌, ℕ, Bool, true, false, not, Some, [], ◌∷◌, ◌++◌}
use Rattle.std.proofs.Common.{ap, append_assoc, append-nil, eqb, eqb-true, if◌then◌else◌, inl, inr, refl}
use Rattle.std.proofs.Common.{subst, sym}
use Rattle.std.specs.Prelude.{⊤}
use Rattle.std.proofs.lemmas.Bool.{and_left, and_parts, and_right, both_ways, cond-false, cond-true}
use Rattle.std.proofs.lemmas.Bool.{false_from_ne_true, false≢true, not-true, or_cases, or_from, or_parts}
use Rattle.std.proofs.lemmas.List.Folds.{list_all-append}
use Rattle.std.proofs.lemmas.Option.{cond_some}
use Rattle.std.specs.Char.{is_digit}
use Rattle.std.specs.List.{list_all}
use Rattle.ini_text.specs.Grammar.CharacterKinds.{BeginsWith, BeginsWithNo, backslash, begins}
use Rattle.ini_text.specs.Grammar.CharacterKinds.{carriage_return, hash, is_blank, is_comment_mark}
use Rattle.ini_text.specs.Grammar.CharacterKinds.{is_inline_white, is_line_end, is_line_feed, is_quote_mark}
use Rattle.ini_text.specs.Grammar.CharacterKinds.{letter_x, line_feed, plus, semicolon, space, tab}
use Rattle.ini_text.specs.Grammar.EscapeSequences.{EscapeSequence, spelled}
use Rattle.ini_text.specs.Grammar.Keys.{begins_note}
use Rattle.ini_text.specs.Grammar.Lines.{Line, LineTail, LineText, Note, Quoted}
use Rattle.ini_text.specs.Grammar.Strings.{Closes, Row, Str, is_before_note, is_endpoint, noted, plain_ends}
use Rattle.ini_text.specs.Grammar.Strings.{quote_ends}
use Rattle.ini_text.specs.Grammar.Values.{CommentLine, GoesOn, LineEnd}
use Rattle.ini_text.specs.Options.Backslashes.{begins_escape, is_special}
use Rattle.ini_text.specs.Options.ReadOptions.{backslash_of}
use Rattle.ini_text.specs.declared.option.ParseOption.{ParseOption}
use Rattle.ini.specs.Texts.{Text}
use Rattle.ini_edit.specs.SourceLines.{LinePlace, are_quiet, ends_line, is_blank_or_line_end, is_line}
use Rattle.ini_edit.specs.SourceLines.{is_line_from, next_place, quiet_lines_from}

-- neither a backslash nor a line end nor a blank
record IsWithin (o : ParseOption) (c : ℕ) : Type 0 where
  no_backslash : begins_escape (backslash_of o) c ≡ false
  no_line_end : is_line_end c ≡ false
  no_blank : is_blank c ≡ false

inside_within : (o : ParseOption) (c : ℕ) (cs : Text) → IsWithin o c
    → next_place o LinePlace.within c cs ≡ LinePlace.within
inside_within o c cs h = at (or_parts (is_line_feed c) (c == carriage_return) h.no_line_end)
  where
    at : (is_line_feed c ≡ false) × ((c == carriage_return) ≡ false)
        → next_place o LinePlace.within c cs ≡ LinePlace.within
    at parts = rw (parts.0, parts.1, h.no_backslash, h.no_blank) refl

line_within : (o : ParseOption) (c : ℕ) (cs : Text) → IsWithin o c
    → next_place o LinePlace.line c cs ≡ LinePlace.within
line_within o c cs h = at (or_parts (is_line_feed c) (c == carriage_return) h.no_line_end)
  where
    at : (is_line_feed c ≡ false) × ((c == carriage_return) ≡ false)
        → next_place o LinePlace.line c cs ≡ LinePlace.within
    at parts = rw (parts.0, parts.1, h.no_blank, h.no_backslash) refl

-- a character that passes a test is none that fails it
apart_by : (test : ℕ → Bool) (c d : ℕ) → test c ≡ true → test d ≡ false → (c == d) ≡ false
apart_by test c d h is = false_from_ne_true (c == d)
    (λ q. false≢true (sym is ∙ subst (λ x. test x ≡ true) (eqb-true c d q) h))

no_end_by : (test : ℕ → Bool) (c : ℕ) → test line_feed ≡ false → test carriage_return ≡ false
    → test c ≡ true → is_line_end c ≡ false
no_end_by test c feed return h = or_from (is_line_feed c) (c == carriage_return)
    (apart_by test c line_feed h feed) (apart_by test c carriage_return h return)

within_by : (o : ParseOption) (test : ℕ → Bool) (c : ℕ) → test backslash ≡ false → test line_feed ≡ false
    → test carriage_return ≡ false → test space ≡ false → test tab ≡ false → test c ≡ true → IsWithin o c
within_by o test c slash feed return blank tabbed h = record {
  no_backslash =
      and_left (c == backslash) (is_special (backslash_of o)) (apart_by test c backslash h slash);
  no_line_end = no_end_by test c feed return h;
  no_blank =
      or_from (c == space) (c == tab) (apart_by test c space h blank) (apart_by test c tab h tabbed);
}

-- a walk over s, before z, from one place leads to another
record Passes (o : ParseOption) (p : LinePlace) (s : Text) (q : LinePlace) (z : Text) : Type 0 where
  blank : quiet_lines_from o p (s ++ z) ≡ quiet_lines_from o q z
  line : is_line_from o p (s ++ z) ≡ is_line_from o q z

passes_none : {o : ParseOption} {p : LinePlace} {z : Text} → Passes o p [] p z
passes_none = record { blank = refl; line = refl }

passes_both : {o : ParseOption} {p q m : LinePlace} (s t : Text) {z : Text} → Passes o p s m (t ++ z)
    → Passes o m t q z → Passes o p (s ++ t) q z
passes_both {o} {p} s t {z} a b = record {
  blank = ap (quiet_lines_from o p) (append_assoc s t z) ∙ a.blank ∙ b.blank;
  line = ap (is_line_from o p) (append_assoc s t z) ∙ a.line ∙ b.line;
}

-- within a line a step is by the next character
data IsInside : LinePlace → Type 0 where
  in_text : IsInside LinePlace.within
  behind_blank : IsInside LinePlace.space

passes_step : {o : ParseOption} {p q : LinePlace} (c : ℕ) {z : Text} → IsInside p → next_place o p c z ≡ q
    → Passes o p (c ∷ []) q z
passes_step {o} c {z} IsInside.in_text is =
    record { blank = ap (λ e. quiet_lines_from o e z) is; line = ap (λ e. is_line_from o e z) is }
passes_step {o} c {z} IsInside.behind_blank is =
    record { blank = ap (λ e. quiet_lines_from o e z) is; line = ap (λ e. is_line_from o e z) is }

passes_one : (o : ParseOption) {c : ℕ} {z : Text} → IsWithin o c
    → Passes o LinePlace.within (c ∷ []) LinePlace.within z
passes_one o {c} {z} h = passes_step c IsInside.in_text (inside_within o c z h)

passes_more : (o : ParseOption) {c : ℕ} {s z : Text} → IsWithin o c
    → Passes o LinePlace.within s LinePlace.within z → Passes o LinePlace.within (c ∷ s) LinePlace.within z
passes_more o {c} {s} h rest = passes_both (c ∷ []) s (passes_one o h) rest

spelled_within : (o : ParseOption) (a b c d v : ℕ) → spelled a b c d ≡ Some v
    → IsWithin o a × IsWithin o b × IsWithin o c × IsWithin o d
unfolding spelled
spelled_within o a b c d v h =
    let all = (cond_some _ _ _ h).0 in
    let four = (and_parts _ _ all).0 in
    let three = and_parts _ (is_digit d 16) four in
    let two = and_parts _ (is_digit c 16) three.0 in
    let one = and_parts (is_digit a 16 || eqb a plus) (is_digit b 16) two.0 in (
      within_by o (λ x. is_digit x 16 || eqb x plus) a refl refl refl refl refl one.0,
      digit_within b one.1,
      digit_within c two.1,
      digit_within d three.1,
    )
  where
    digit_within : (x : ℕ) → is_digit x 16 ≡ true → IsWithin o x
    digit_within x q = within_by o (λ y. is_digit y 16) x refl refl refl refl refl q

-- a backslash takes a character
slash_takes : (o : ParseOption) (p : LinePlace) (z : Text) → IsInside p → is_special (backslash_of o) ≡ true
    → next_place o p backslash z ≡ LinePlace.escape
slash_takes o _ z IsInside.in_text special =
    cond-true (is_special (backslash_of o)) LinePlace.escape LinePlace.within special
slash_takes o _ z IsInside.behind_blank special =
    cond-false (o.enabled_inline_comment && false) LinePlace.note _
    (and_right o.enabled_inline_comment false refl)
    ∙ cond-true (is_special (backslash_of o)) LinePlace.escape LinePlace.within special

passes_two : (o : ParseOption) {p : LinePlace} (c : ℕ) {z : Text} → IsInside p
    → is_special (backslash_of o) ≡ true → Passes o p (backslash ∷ c ∷ []) LinePlace.within z
passes_two o {p} c {z} inside special =
    let takes = passes_step {o = o} backslash {z = c ∷ z} inside (slash_takes o p (c ∷ z) inside special) in
    record { blank = takes.blank; line = takes.line }

passes_escape : (o : ParseOption) {place : LinePlace} → IsInside place → is_special (backslash_of o) ≡ true
    → {escapes : Bool} {p w z : Text} → EscapeSequence escapes p w → Passes o place p LinePlace.within z
passes_escape o inside special EscapeSequence.folded = passes_two o line_feed inside special
passes_escape o inside special (EscapeSequence.named {c} on is) = passes_two o c inside special
passes_escape o inside special {z = z} (EscapeSequence.coded {a} {b} {c} {d} {v} on is) =
    let (ia, ib, ic, id) = spelled_within o a b c d v is in
    let four : Passes o LinePlace.within (a ∷ b ∷ c ∷ d ∷ []) LinePlace.within z =
    passes_more o ia (passes_more o ib (passes_more o ic (passes_one o id))) in
    passes_both (backslash ∷ letter_x ∷ []) (a ∷ b ∷ c ∷ d ∷ []) (passes_two o letter_x inside special) four
passes_escape o inside special (EscapeSequence.itself {c} on n m k) = passes_two o c inside special
passes_escape o inside special (EscapeSequence.kept {c} off n) = passes_two o c inside special

-- behind a raw blank no note begins here
abbrev NoNote : ParseOption → LinePlace → Text → Type 0
NoNote o LinePlace.space t = (o.enabled_inline_comment && begins is_comment_mark t) ≡ false
NoNote o _ t = ⊤

no_ends_line : (c : ℕ) (cs : Text) → is_line_end c ≡ false → ends_line c cs ≡ false
no_ends_line c cs inner =
    let parts = or_parts (is_line_feed c) (c == carriage_return) inner in
    or_from (is_line_feed c) _ parts.0 (and_left _ _ parts.1)

abbrev raw_place : ℕ → LinePlace
raw_place c = if is_blank c then LinePlace.space else LinePlace.within

raw_inside : (c : ℕ) → IsInside (raw_place c)
raw_inside c = at (is_blank c)
  where
    at : (b : Bool) → IsInside (if b then LinePlace.space else LinePlace.within)
    at true = IsInside.behind_blank
    at false = IsInside.in_text

next_raw : (o : ParseOption) (p : LinePlace) (c : ℕ) (t z : Text) → IsInside p → NoNote o p (c ∷ t)
    → is_line_end c ≡ false → begins_escape (backslash_of o) c ≡ false → next_place o p c z ≡ raw_place c
next_raw o _ c t z IsInside.in_text none inner raw =
    cond-false (ends_line c z) _ _ (no_ends_line c z inner)
    ∙ cond-false (begins_escape (backslash_of o) c) _ _ raw
next_raw o _ c t z IsInside.behind_blank none inner raw =
    cond-false (ends_line c z) _ _ (no_ends_line c z inner)
    ∙ cond-false (o.enabled_inline_comment && is_comment_mark c) _ _ none
    ∙ cond-false (begins_escape (backslash_of o) c) _ _ raw

-- after a raw character
raw_no_note : (o : ParseOption) (c : ℕ) (t : Text) → is_before_note (noted o plain_ends) c t ≡ false
    → NoNote o (raw_place c) t
raw_no_note o c t apart = at (is_blank c) apart
  where
    at : (b : Bool) → (o.enabled_inline_comment && (b && begins is_comment_mark t)) ≡ false
        → NoNote o (if b then LinePlace.space else LinePlace.within) t
    at true h = h
    at false h = tt

plain_no_end : (c : ℕ) → is_endpoint plain_ends c ≡ false → is_line_end c ≡ false
plain_no_end c h = at (eqb c 0x0A) (eqb c 0x0D) h
  where
    at : (x y : Bool) → (x || (y || false)) ≡ false → (x || y) ≡ false
    at true y h = h
    at false true h = h
    at false false h = h

-- a walk over s, before z, ends within its line
record Ends (o : ParseOption) (p : LinePlace) (s z : Text) : Type 0 where
  place : LinePlace
  inside : IsInside place
  passes : Passes o p s place z

no_note_slash : (o : ParseOption) (p : LinePlace) (s : Text) → IsInside p → NoNote o p (backslash ∷ s)
no_note_slash o _ s IsInside.in_text = tt
no_note_slash o _ s IsInside.behind_blank = and_right o.enabled_inline_comment false refl

passes_row : (o : ParseOption) {s v z : Text} → Row (backslash_of o) (noted o plain_ends) s v
    → (p : LinePlace) → IsInside p → NoNote o p s → Ends o p s z
passes_row o Row.none p inside none = record { place = p; inside = inside; passes = passes_none }
passes_row o {z = z} (Row.raw {c} {s} raw no_end apart rest) p inside none =
    let later = passes_row o {z = z} rest (raw_place c) (raw_inside c) (raw_no_note o c s apart) in
    record {
      place = later.place;
      inside = later.inside;
      passes = passes_both (c ∷ []) s
          (passes_step c inside (next_raw o p c s (s ++ z) inside none (plain_no_end c no_end) raw))
          later.passes;
    }
passes_row o {z = z} (Row.escape {p = piece} {s = s} special k rest) p inside none =
    let later = passes_row o {z = z} rest LinePlace.within IsInside.in_text tt in
    record {
      place = later.place;
      inside = later.inside;
      passes = passes_both piece s (passes_escape o inside special k) later.passes;
    }

mark_solid : (m : ℕ) → is_quote_mark m ≡ true → is_blank_or_line_end m ≡ false
mark_solid m h = elim (or_cases (m == 34) (m == 39) h)
    [ inl q ↦ rw (eqb-true m 34 q) refl | inr q ↦ rw (eqb-true m 39 q) refl ]

pub feeds_left : (u v : Text) → list_all is_line_feed (u ++ v) ≡ true → list_all is_line_feed u ≡ true
feeds_left u v h =
    (and_parts (list_all is_line_feed u) (list_all is_line_feed v)
    (sym (list_all-append is_line_feed u v) ∙ h)).0

pub feeds_right : (u v : Text) → list_all is_line_feed (u ++ v) ≡ true → list_all is_line_feed v ≡ true
feeds_right u v h =
    (and_parts (list_all is_line_feed u) (list_all is_line_feed v)
    (sym (list_all-append is_line_feed u v) ∙ h)).1

-- a walk over s and the mark m, in quotes, before z, from within a line or from its start
record InQuotes (o : ParseOption) (s : Text) (m : ℕ) (z : Text) : Type 0 where
  blank : quiet_lines_from o LinePlace.within (s ++ m ∷ z) ≡ quiet_lines_from o LinePlace.within z
  line : is_line_from o LinePlace.within (s ++ m ∷ z) ≡ is_line_from o LinePlace.within z
  start_blank : quiet_lines_from o LinePlace.line (s ++ m ∷ z) ≡ quiet_lines_from o LinePlace.within z
  start_line : is_line_from o LinePlace.line (s ++ m ∷ z) ≡ is_line_from o LinePlace.within z
  loud : are_quiet o LinePlace.line (s ++ m ∷ z) ≡ false

-- a piece that a backslash begins is no quiet line
record NoQuiet (o : ParseOption) (p y : Text) : Type 0 where
  blank : quiet_lines_from o LinePlace.line (p ++ y) ≡ quiet_lines_from o LinePlace.within (p ++ y)
  line : is_line_from o LinePlace.line (p ++ y) ≡ is_line_from o LinePlace.within (p ++ y)
  loud : are_quiet o LinePlace.line (p ++ y) ≡ false

escape_loud : (o : ParseOption) {escapes : Bool} {p w : Text} (y : Text) → EscapeSequence escapes p w
    → NoQuiet o p y
escape_loud o y EscapeSequence.folded = record { blank = refl; line = refl; loud = refl }
escape_loud o y (EscapeSequence.named on is) = record { blank = refl; line = refl; loud = refl }
escape_loud o y (EscapeSequence.coded on is) = record { blank = refl; line = refl; loud = refl }
escape_loud o y (EscapeSequence.itself on n m k) = record { blank = refl; line = refl; loud = refl }
escape_loud o y (EscapeSequence.kept off n) = record { blank = refl; line = refl; loud = refl }

module _ (o : ParseOption) (m : ℕ) (mark : is_quote_mark m ≡ true) where
  mark_within : IsWithin o m
  mark_within = within_by o is_quote_mark m refl refl refl refl refl mark

  -- what quotes hold that give line feeds: these, and escapes
  in_quotes : {s v z : Text} → Row (backslash_of o) (quote_ends m) s v → list_all is_line_feed v ≡ true
      → InQuotes o s m z
  in_quotes {z = z} Row.none all =
      let solid = mark_solid m mark in
      let next = line_within o m z mark_within in
      record {
        blank = ap (λ p. quiet_lines_from o p z) (inside_within o m z mark_within);
        line = ap (λ p. is_line_from o p z) (inside_within o m z mark_within);
        start_blank = cond-false (are_quiet o LinePlace.line (m ∷ z)) _ _ (and_left _ _ solid)
            ∙ ap (λ p. quiet_lines_from o p z) next;
        start_line = ap (λ p. is_line_from o p z) next;
        loud = and_left _ _ solid;
      }
  in_quotes {z = z} (Row.raw {c} {s} {v} n inside apart rest) all =
      let parts = and_parts (is_line_feed c) (list_all is_line_feed v) all in
      let r : InQuotes o s m z = in_quotes rest parts.1 in
      subst (λ d. InQuotes o (d ∷ s) m z) (sym (eqb-true c line_feed parts.0)) (record {
        blank = r.start_blank;
        line = r.start_line;
        start_blank = cond-false (are_quiet o LinePlace.line (s ++ m ∷ z)) _ _ r.loud ∙ r.start_blank;
        start_line = r.start_line;
        loud = r.loud;
      })
  in_quotes {z = z} (Row.escape {p = p} {w = w} {s = s} {v = v} special k rest) all =
      let r : InQuotes o s m z = in_quotes rest (feeds_right w v all) in
      let over : Passes o LinePlace.within p LinePlace.within (s ++ m ∷ z) =
      passes_escape o IsInside.in_text special k in
      let front = escape_loud o (s ++ m ∷ z) k in
      let seam = append_assoc p s (m ∷ z) in
      record {
        blank = ap (quiet_lines_from o LinePlace.within) seam ∙ over.blank ∙ r.blank;
        line = ap (is_line_from o LinePlace.within) seam ∙ over.line ∙ r.line;
        start_blank =
            ap (quiet_lines_from o LinePlace.line) seam ∙ front.blank ∙ over.blank ∙ r.blank;
        start_line = ap (is_line_from o LinePlace.line) seam ∙ front.line ∙ over.line ∙ r.line;
        loud = ap (are_quiet o LinePlace.line) seam ∙ front.loud;
      }

passes_quoted : {o : ParseOption} {q w z : Text} {some : Bool} → Quoted o q w some
    → list_all is_line_feed w ≡ true → Passes o LinePlace.within q LinePlace.within z
passes_quoted Quoted.none all = passes_none
passes_quoted {o = o} {z = z} (Quoted.part {m = m} {s} {v} {q} {w} on mark (Str.closed row h) rest) all =
    let within = mark_within o m mark in
    let more : Passes o LinePlace.within q LinePlace.within z = passes_quoted rest (feeds_right v w all) in
    let there : InQuotes o s m (q ++ z) = in_quotes o m mark row (feeds_left v w all) in
    record {
      blank = ap (λ t. quiet_lines_from o LinePlace.within (m ∷ t)) (append_assoc s (m ∷ q) z)
          ∙ ap (λ p. quiet_lines_from o p (s ++ m ∷ (q ++ z)))
          (inside_within o m (s ++ m ∷ (q ++ z)) within)
          ∙ there.blank ∙ more.blank;
      line = ap (λ t. is_line_from o LinePlace.within (m ∷ t)) (append_assoc s (m ∷ q) z)
          ∙ ap (λ p. is_line_from o p (s ++ m ∷ (q ++ z))) (inside_within o m (s ++ m ∷ (q ++ z)) within)
          ∙ there.line ∙ more.line;
    }
passes_quoted (Quoted.part on mark (Str.before_note c row raw inside note) rest) all =
    absurd (false≢true note)

-- a note behind a raw blank, and in general
note_next : (o : ParseOption) (m : ℕ) (x : Text) → o.enabled_inline_comment ≡ true
    → is_comment_mark m ≡ true → next_place o LinePlace.space m x ≡ LinePlace.note
note_next o m x on mark = elim (or_cases (m == semicolon) (m == hash) mark)
    [ inl q ↦ rw (eqb-true m semicolon q, on) refl | inr q ↦ rw (eqb-true m hash q, on) refl ]

pub next_note : (o : ParseOption) (c : ℕ) (x : Text) → is_line_end c ≡ false
    → next_place o LinePlace.note c x ≡ LinePlace.note
next_note o c x inner =
    cond-false (ends_line c x) _ _ (no_ends_line c x inner) ∙ cond-false (is_line_end c) _ _ inner

over_note : (o : ParseOption) (s : Text) {x : Text} → list_all (λ c. not (is_line_end c)) s ≡ true
    → Passes o LinePlace.note s LinePlace.note x
over_note o [] all = passes_none
over_note o (c ∷ s) {x} all =
    let parts = and_parts (not (is_line_end c)) _ all in
    let next = next_note o c (s ++ x) (not-true (is_line_end c) parts.0) in
    let rest = over_note o s {x = x} parts.1 in
    record {
      blank = ap (λ p. quiet_lines_from o p (s ++ x)) next ∙ rest.blank;
      line = ap (λ p. is_line_from o p (s ++ x)) next ∙ rest.line;
    }

-- where a line's end is walked over: within the line, or in a note
data IsOpen : LinePlace → Type 0 where
  in_line : {p : LinePlace} → IsInside p → IsOpen p
  in_note : IsOpen LinePlace.note

record Reaches (o : ParseOption) (p : LinePlace) (s z : Text) : Type 0 where
  place : LinePlace
  ends : IsOpen place
  passes : Passes o p s place z

reaches_by : {o : ParseOption} {p m : LinePlace} {s z : Text} (t : Text) → Passes o p s m (t ++ z)
    → Reaches o m t z → Reaches o p (s ++ t) z
reaches_by {s = s} t front rest =
    record { place = rest.place; ends = rest.ends; passes = passes_both s t front rest.passes }

mark_no_end : (m : ℕ) → is_comment_mark m ≡ true → is_endpoint plain_ends m ≡ false
mark_no_end m mark = elim (or_cases (m == semicolon) (m == hash) mark)
    [ inl q ↦ rw (eqb-true m semicolon q) refl | inr q ↦ rw (eqb-true m hash q) refl ]

blank_no_mark : (c : ℕ) → is_blank c ≡ true → is_comment_mark c ≡ false
blank_no_mark c blank = elim (or_cases (c == space) (c == tab) blank)
    [ inl q ↦ rw (eqb-true c space q) refl | inr q ↦ rw (eqb-true c tab q) refl ]

no_note_blank : (o : ParseOption) (p : LinePlace) (c : ℕ) (t : Text) → IsInside p → is_blank c ≡ true
    → NoNote o p (c ∷ t)
no_note_blank o _ c t IsInside.in_text blank = tt
no_note_blank o _ c t IsInside.behind_blank blank =
    and_right o.enabled_inline_comment (is_comment_mark c) (blank_no_mark c blank)

closes_no_note : (r : Text) → Closes plain_ends r → begins is_comment_mark r ≡ false
closes_no_note [] closes = refl
closes_no_note (c ∷ r) closes = false_from_ne_true (is_comment_mark c)
    (λ mark. both_ways (is_endpoint plain_ends c) (mark_no_end c mark) closes)

-- the text t of a line and its note are walked over, before any text; or the line ends with the text, and
-- none ends there
data LineWalk (o : ParseOption) (t r : Text) : Type 0 where
  reaches : ((z : Text) → Reaches o LinePlace.within t z) → LineWalk o t r
  at_end : r ≡ [] → quiet_lines_from o LinePlace.within t ≡ [] → is_line_from o LinePlace.within t ≡ false
      → LineWalk o t r

module _ {o : ParseOption} where
  row_reaches : {p v : Text} → Row (backslash_of o) (noted o plain_ends) p v → (z : Text)
      → Reaches o LinePlace.within p z
  row_reaches row z =
      let ends = passes_row o {z = z} row LinePlace.within IsInside.in_text tt in
      record { place = ends.place; ends = IsOpen.in_line ends.inside; passes = ends.passes }

  -- a note, behind a raw blank
  noted_reaches : {u v : Text} (s : Text) (c m : ℕ) → Row (backslash_of o) (noted o plain_ends) u v
      → begins_escape (backslash_of o) c ≡ false → is_endpoint plain_ends c ≡ false
      → o.enabled_inline_comment ≡ true → is_blank c ≡ true → is_comment_mark m ≡ true
      → list_all (λ c. not (is_line_end c)) s ≡ true → (z : Text)
      → Reaches o LinePlace.within ((u ++ c ∷ []) ++ m ∷ s) z
  noted_reaches {u} s c m row raw no_end on blank mark all z =
      let row_ends = passes_row o {z = c ∷ m ∷ (s ++ z)} row LinePlace.within IsInside.in_text tt in
      let to_space : raw_place c ≡ LinePlace.space = cond-true (is_blank c) _ _ blank in
      let step : Passes o row_ends.place (c ∷ []) LinePlace.space (m ∷ (s ++ z)) =
      passes_step c row_ends.inside
      (next_raw o row_ends.place c [] (m ∷ (s ++ z)) row_ends.inside
      (no_note_blank o row_ends.place c [] row_ends.inside blank) (plain_no_end c no_end) raw ∙ to_space) in
      let begun : Passes o LinePlace.space (m ∷ []) LinePlace.note (s ++ z) =
      passes_step m IsInside.behind_blank (note_next o m (s ++ z) on mark) in
      let remark : Passes o LinePlace.space (m ∷ s) LinePlace.note z =
      passes_both (m ∷ []) s begun (over_note o s all) in
      record {
        place = LinePlace.note;
        ends = IsOpen.in_note;
        passes = passes_both (u ++ c ∷ []) (m ∷ s)
            (passes_both u (c ∷ []) row_ends.passes step) remark;
      }

  plain_walk : {p n r v : Text} → LineTail n r → Str (backslash_of o) (noted o plain_ends) p (n ++ r) v
      → LineWalk o (p ++ n) r
  plain_walk {p} {r = r} (LineTail.none closes) str =
      subst (λ t. LineWalk o t r) (sym (append-nil p)) (at closes str)
    where
      at : {p r v : Text} → Closes plain_ends r → Str (backslash_of o) (noted o plain_ends) p r v
          → LineWalk o p r
      at closes (Str.closed row h) = LineWalk.reaches (row_reaches row)
      at {r = r} closes (Str.before_note c row raw inside note) =
          absurd (both_ways (begins is_comment_mark r) (closes_no_note r closes)
          (and_parts (is_blank c) _ (and_parts o.enabled_inline_comment _ note).1).1)
      at closes (Str.lone {s = s} special row text) =
          let ends = passes_row o {z = backslash ∷ []} row LinePlace.within IsInside.in_text tt in
          let takes = slash_takes o ends.place [] ends.inside special in
          let step = passes_step {o = o} backslash {z = []} ends.inside takes in
          LineWalk.at_end refl (ends.passes.blank ∙ step.blank) (ends.passes.line ∙ step.line)
  plain_walk (LineTail.note (Note.note {m} {s} mark all closes)) (Str.closed row h) =
      absurd (both_ways (is_endpoint plain_ends m) (mark_no_end m mark) h)
  plain_walk (LineTail.note (Note.note {m} {s} mark all closes)) (Str.before_note c row raw inside note) =
      let parts = and_parts o.enabled_inline_comment _ note in
      LineWalk.reaches
      (noted_reaches s c m row raw inside parts.0 (and_parts (is_blank c) _ parts.1).0 mark all)

  -- quoted parts before it
  quoted_walk : {q w t r : Text} {some : Bool} → Quoted o q w some → list_all is_line_feed w ≡ true
      → LineWalk o t r → LineWalk o (q ++ t) r
  quoted_walk {q} {t = t} quoted all (LineWalk.reaches walk) =
      LineWalk.reaches (λ z. reaches_by t (passes_quoted quoted all) (walk z))
  quoted_walk {q} {t = t} quoted all (LineWalk.at_end none blank line) =
      let over : Passes o LinePlace.within q LinePlace.within t = passes_quoted quoted all in
      LineWalk.at_end none (over.blank ∙ blank) (over.line ∙ line)

  line_walk : {first : Bool} {l r v : Text} → Line o first l r v → list_all is_line_feed v ≡ true
      → LineWalk o l r
  line_walk (Line.line {n = n} {r = r} given tail) all = at given tail all
    where
      at : {first : Bool} {t v : Text} → LineText o first t (n ++ r) v → LineTail n r
          → list_all is_line_feed v ≡ true → LineWalk o (t ++ n) r
      at (LineText.text {q = q} {w} {p = p} quoted plain str) tail all =
          subst (λ t. LineWalk o t r) (sym (append_assoc q p n))
          (quoted_walk quoted (feeds_left w _ all) (plain_walk tail str))

  passes_line : {first : Bool} {l r v : Text} (z : Text) → r ≢ [] → Line o first l r v
      → list_all is_line_feed v ≡ true → Reaches o LinePlace.within l z
  passes_line {l = l} {r} z some ln all = at (line_walk ln all)
    where
      at : LineWalk o l r → Reaches o LinePlace.within l z
      at (LineWalk.reaches walk) = walk z
      at (LineWalk.at_end none blank line) = absurd (some none)

  -- a line that ends the text has no quiet lines at its end, and none ends there
  last_passes : {first : Bool} {l v : Text} → Line o first l [] v → list_all is_line_feed v ≡ true
      → (quiet_lines_from o LinePlace.within l ≡ []) × (is_line_from o LinePlace.within l ≡ false)
  last_passes {l = l} ln all = at (line_walk ln all)
    where
      open_apart : {p : LinePlace} → IsOpen p → is_line p ≡ false
      open_apart (IsOpen.in_line IsInside.in_text) = refl
      open_apart (IsOpen.in_line IsInside.behind_blank) = refl
      open_apart IsOpen.in_note = refl

      at : LineWalk o l [] → (quiet_lines_from o LinePlace.within l ≡ [])
          × (is_line_from o LinePlace.within l ≡ false)
      at (LineWalk.reaches walk) =
          let over = walk [] in (
            ap (quiet_lines_from o LinePlace.within) (sym (append-nil l)) ∙ over.passes.blank,
            ap (is_line_from o LinePlace.within) (sym (append-nil l)) ∙ over.passes.line
                ∙ open_apart over.ends,
          )
      at (LineWalk.at_end none blank line) = (blank, line)

-- after a line end a line starts
lone_return : (t r : Text) → BeginsWithNo is_line_feed (t ++ r) → begins is_line_feed t ≡ false
lone_return [] r h = refl
lone_return (c ∷ t) r h = h

after_return : (o : ParseOption) (t r : Text) → BeginsWithNo is_line_feed (t ++ r)
    → next_place o LinePlace.within carriage_return t ≡ LinePlace.line
after_return o t r h = rw (lone_return t r h) refl

after_space_return : (o : ParseOption) (t r : Text) → BeginsWithNo is_line_feed (t ++ r)
    → next_place o LinePlace.space carriage_return t ≡ LinePlace.line
after_space_return o t r h = rw (lone_return t r h) refl

after_note_return : (o : ParseOption) (t r : Text) → BeginsWithNo is_line_feed (t ++ r)
    → next_place o LinePlace.note carriage_return t ≡ LinePlace.line
after_note_return o t r h = rw (lone_return t r h) refl

space_return : (o : ParseOption) (t : Text)
    → next_place o LinePlace.space carriage_return (line_feed ∷ t) ≡ LinePlace.within
space_return o t =
    cond-false (o.enabled_inline_comment && false) LinePlace.note LinePlace.within
    (and_right o.enabled_inline_comment false refl)

pub past_end : (o : ParseOption) {e : Text} (t r : Text) → LineEnd e (t ++ r)
    → (quiet_lines_from o LinePlace.within (e ++ t) ≡ quiet_lines_from o LinePlace.line t)
    × (is_line_from o LinePlace.within (e ++ t) ≡ is_line_from o LinePlace.line t)
past_end o t r LineEnd.lf = (refl, refl)
past_end o t r LineEnd.cr_lf = (refl, refl)
past_end o t r (LineEnd.cr n) = (
  ap (λ p. quiet_lines_from o p t) (after_return o t r n),
  ap (λ p. is_line_from o p t) (after_return o t r n),
)

space_end : (o : ParseOption) {e : Text} (t r : Text) → LineEnd e (t ++ r)
    → (quiet_lines_from o LinePlace.space (e ++ t) ≡ quiet_lines_from o LinePlace.line t)
    × (is_line_from o LinePlace.space (e ++ t) ≡ is_line_from o LinePlace.line t)
space_end o t r LineEnd.lf = (refl, refl)
space_end o t r LineEnd.cr_lf = (
  ap (λ p. quiet_lines_from o p (line_feed ∷ t)) (space_return o t),
  ap (λ p. is_line_from o p (line_feed ∷ t)) (space_return o t),
)
space_end o t r (LineEnd.cr n) = (
  ap (λ p. quiet_lines_from o p t) (after_space_return o t r n),
  ap (λ p. is_line_from o p t) (after_space_return o t r n),
)

pub note_end : (o : ParseOption) {e : Text} (t r : Text) → LineEnd e (t ++ r)
    → (quiet_lines_from o LinePlace.note (e ++ t) ≡ quiet_lines_from o LinePlace.line t)
    × (is_line_from o LinePlace.note (e ++ t) ≡ is_line_from o LinePlace.line t)
note_end o t r LineEnd.lf = (refl, refl)
note_end o t r LineEnd.cr_lf = (refl, refl)
note_end o t r (LineEnd.cr n) = (
  ap (λ p. quiet_lines_from o p t) (after_note_return o t r n),
  ap (λ p. is_line_from o p t) (after_note_return o t r n),
)

-- of a line that is walked over
reached_end : (o : ParseOption) {s e : Text} (t r : Text) → LineEnd e (t ++ r)
    → Reaches o LinePlace.within s (e ++ t)
    → (quiet_lines_from o LinePlace.within (s ++ (e ++ t)) ≡ quiet_lines_from o LinePlace.line t)
    × (is_line_from o LinePlace.within (s ++ (e ++ t)) ≡ is_line_from o LinePlace.line t)
reached_end o {e = e} t r end walk =
    let ends = at walk.ends in (walk.passes.blank ∙ ends.0, walk.passes.line ∙ ends.1)
  where
    at : {p : LinePlace} → IsOpen p
        → (quiet_lines_from o p (e ++ t) ≡ quiet_lines_from o LinePlace.line t)
        × (is_line_from o p (e ++ t) ≡ is_line_from o LinePlace.line t)
    at (IsOpen.in_line IsInside.in_text) = past_end o t r end
    at (IsOpen.in_line IsInside.behind_blank) = space_end o t r end
    at IsOpen.in_note = note_end o t r end

pub line_end_follows : {e x : Text} (y : Text) → LineEnd e x → e ++ y ≢ []
line_end_follows y LineEnd.lf h = cc
line_end_follows y LineEnd.cr_lf h = cc
line_end_follows y (LineEnd.cr n) h = cc

-- the white space that begins a line
pub first_lead : (o : ParseOption) (c : ℕ) (x : Text) → is_blank c ≡ true
    → next_place o LinePlace.line c x ≡ LinePlace.lead
first_lead o c x blank = elim (or_cases (c == space) (c == tab) blank)
    [ inl q ↦ rw (eqb-true c space q) refl | inr q ↦ rw (eqb-true c tab q) refl ]

pub next_lead : (o : ParseOption) (c : ℕ) (x : Text) → is_inline_white c ≡ true
    → next_place o LinePlace.lead c x ≡ LinePlace.lead
next_lead o c x white =
    cond-false (ends_line c x) _ _ (no_ends_line c x (no_end_by is_inline_white c refl refl white))
    ∙ cond-true (is_inline_white c) _ _ white

pub over_lead : (o : ParseOption) (w x : Text) → list_all is_inline_white w ≡ true
    → (quiet_lines_from o LinePlace.lead (w ++ x) ≡ quiet_lines_from o LinePlace.lead x)
    × (is_line_from o LinePlace.lead (w ++ x) ≡ is_line_from o LinePlace.lead x)
over_lead o [] x white = (refl, refl)
over_lead o (c ∷ w) x white =
    let parts = and_parts (is_inline_white c) (list_all is_inline_white w) white in
    let next = next_lead o c (w ++ x) parts.0 in
    let rest = over_lead o w x parts.1 in (
      ap (λ p. quiet_lines_from o p (w ++ x)) next ∙ rest.0,
      ap (λ p. is_line_from o p (w ++ x)) next
          ∙ rest.1,
    )

pub no_note : (o : ParseOption) (c : ℕ) → (o.enabled_indented_comment ≡ true → is_comment_mark c ≡ false)
    → begins_note o c ≡ false
no_note o c h = at o.enabled_indented_comment h
  where
    at : (b : Bool) → (b ≡ true → is_comment_mark c ≡ false) → (b && is_comment_mark c) ≡ false
    at true h = h refl
    at false h = refl

-- text that is no note is walked as within a line
pub from_lead : (o : ParseOption) (x : Text) → BeginsWithNo is_inline_white x
    → (o.enabled_indented_comment ≡ true → BeginsWithNo is_comment_mark x)
    → (quiet_lines_from o LinePlace.lead x ≡ quiet_lines_from o LinePlace.within x)
    × (is_line_from o LinePlace.lead x ≡ is_line_from o LinePlace.within x)
from_lead o [] ends text = (refl, refl)
from_lead o (c ∷ x) ends text = (
  ap (λ p. quiet_lines_from o p x) (at (no_note o c text)),
  ap (λ p. is_line_from o p x) (at (no_note o c
      text)),
)
  where
    at : begins_note o c ≡ false → next_place o LinePlace.lead c x ≡ next_place o LinePlace.within c x
    at none =
        ap (λ z. if ends_line c x then LinePlace.line else z)
        (cond-false (is_inline_white c) LinePlace.lead _ ends
        ∙ cond-false (begins_note o c) LinePlace.note _ none)

-- a note, from the white space before it on
pub first_note : (o : ParseOption) (m : ℕ) (x : Text) → o.enabled_indented_comment ≡ true
    → is_comment_mark m ≡ true → next_place o LinePlace.lead m x ≡ LinePlace.note
first_note o m x on mark = elim (or_cases (m == semicolon) (m == hash) mark)
    [ inl q ↦ rw (eqb-true m semicolon q, on) refl | inr q ↦ rw (eqb-true m hash q, on) refl ]

pub from_note : (o : ParseOption) {n r : Text} (x : Text) → o.enabled_indented_comment ≡ true → Note n r
    → (quiet_lines_from o LinePlace.lead (n ++ x) ≡ quiet_lines_from o LinePlace.note x)
    × (is_line_from o LinePlace.lead (n ++ x) ≡ is_line_from o LinePlace.note x)
from_note o x on (Note.note {m} {s} mark all closes) =
    let next = first_note o m (s ++ x) on mark in
    let rest = over_note o s {x = x} all in (
      ap (λ p. quiet_lines_from o p (s ++ x)) next ∙ rest.blank,
      ap (λ p. is_line_from o p (s ++ x)) next ∙ rest.line,
    )

-- a line s, from its start on, after which the walk stands where the line t starts
pub record PassedLine (o : ParseOption) (s t : Text) : Type 0 where
  pub head : ℕ
  pub tail : Text
  pub whole : s ≡ head ∷ tail
  pub blank : quiet_lines_from o (next_place o LinePlace.line head tail) tail
      ≡ quiet_lines_from o LinePlace.line t
  pub line : is_line_from o LinePlace.line s ≡ is_line_from o LinePlace.line t

-- a line s that ends the text
pub record PassedLast (o : ParseOption) (s : Text) : Type 0 where
  pub head : ℕ
  pub tail : Text
  pub whole : s ≡ head ∷ tail
  pub blank : quiet_lines_from o (next_place o LinePlace.line head tail) tail ≡ []
  pub line : is_line_from o LinePlace.line s ≡ false

-- without what follows the line end it begins as it does
pub no_begin : {e y : Text} (test : ℕ → Bool) (l t r : Text) → LineEnd e y
    → BeginsWithNo test (l ++ (e ++ (t ++ r))) → BeginsWithNo test (l ++ (e ++ t))
no_begin test [] t r LineEnd.lf h = h
no_begin test [] t r LineEnd.cr_lf h = h
no_begin test [] t r (LineEnd.cr n) h = h
no_begin test (c ∷ l) t r end h = h

module _ {o : ParseOption} where
  pub passed_line : (w l : Text) {first : Bool} {e u : Text} (t r : Text)
      → GoesOn o w (l ++ (e ++ (t ++ r))) → Line o first l (e ++ (t ++ r)) u
      → list_all is_line_feed u ≡ true → LineEnd e (t ++ r) → PassedLine o (w ++ (l ++ (e ++ t))) t
  passed_line [] l t r goes ln all end = absurd (false≢true (sym goes.begins))
  passed_line (c ∷ w) l {e = e} t r goes ln all end =
      let x = l ++ (e ++ t) in
      let first = first_lead o c (w ++ x) goes.begins in
      let white = (and_parts (is_inline_white c) (list_all is_inline_white w) goes.lead.white).1 in
      let over = over_lead o w x white in
      let front = from_lead o x (no_begin is_inline_white l t r end goes.lead.ends)
      (λ on. no_begin is_comment_mark l t r end (goes.text on)) in
      let ends = reached_end o t r end (passes_line (e ++ t) (line_end_follows (t ++ r) end) ln all) in
      record {
        head = c;
        tail = w ++ x;
        whole = refl;
        blank = ap (λ p. quiet_lines_from o p (w ++ x)) first ∙ over.0 ∙ front.0 ∙ ends.0;
        line = ap (λ p. is_line_from o p (w ++ x)) first ∙ over.1 ∙ front.1 ∙ ends.1;
      }

  pub passed_last : (w l : Text) {first : Bool} {u : Text} → GoesOn o w l → Line o first l [] u
      → list_all is_line_feed u ≡ true → PassedLast o (w ++ l)
  passed_last [] l goes ln all = absurd (false≢true (sym goes.begins))
  passed_last (c ∷ w) l goes ln all =
      let first = first_lead o c (w ++ l) goes.begins in
      let white = (and_parts (is_inline_white c) (list_all is_inline_white w) goes.lead.white).1 in
      let over = over_lead o w l white in
      let front = from_lead o l goes.lead.ends goes.text in
      let passes = last_passes ln all in
      record {
        head = c;
        tail = w ++ l;
        whole = refl;
        blank = ap (λ p. quiet_lines_from o p (w ++ l)) first ∙ over.0 ∙ front.0 ∙ passes.0;
        line = ap (λ p. is_line_from o p (w ++ l)) first ∙ over.1 ∙ front.1 ∙ passes.1;
      }

  pub passed_comment : {s e : Text} (t r : Text) → CommentLine o s (e ++ (t ++ r)) → LineEnd e (t ++ r)
      → PassedLine o (s ++ (e ++ t)) t
  passed_comment {e = e} t r (CommentLine.comment {w} {n} on some lead noted) end =
      at w some lead.white
    where
      at : (w : Text) → BeginsWith is_blank w → list_all is_inline_white w ≡ true
          → PassedLine o ((w ++ n) ++ (e ++ t)) t
      at [] some white = absurd (false≢true (sym some))
      at (c ∷ w) some white =
          let x = e ++ t in
          let seam = append_assoc w n x in
          let first = first_lead o c (w ++ (n ++ x)) some in
          let over = over_lead o w (n ++ x) (and_parts (is_inline_white c) _ white).1 in
          let front = from_note o x on noted in
          let ends = note_end o t r end in
          record {
            head = c;
            tail = (w ++ n) ++ x;
            whole = refl;
            blank = ap (λ z. quiet_lines_from o (next_place o LinePlace.line c z) z) seam
                ∙ ap (λ p. quiet_lines_from o p (w ++ (n ++ x))) first ∙ over.0 ∙ front.0 ∙ ends.0;
            line = ap (λ z. is_line_from o LinePlace.line (c ∷ z)) seam
                ∙ ap (λ p. is_line_from o p (w ++ (n ++ x))) first ∙ over.1 ∙ front.1 ∙ ends.1;
          }

  pub passed_last_comment : {s : Text} → CommentLine o s [] → PassedLast o s
  passed_last_comment (CommentLine.comment {w} {n} on some lead noted) = at w some lead.white
    where
      at : (w : Text) → BeginsWith is_blank w → list_all is_inline_white w ≡ true → PassedLast o (w ++ n)
      at [] some white = absurd (false≢true (sym some))
      at (c ∷ w) some white =
          let first = first_lead o c (w ++ n) some in
          let over = over_lead o w n (and_parts (is_inline_white c) _ white).1 in
          let front = from_note o [] on noted in
          let same = append-nil n in
          record {
            head = c;
            tail = w ++ n;
            whole = refl;
            blank = ap (λ p. quiet_lines_from o p (w ++ n)) first ∙ over.0
                ∙ ap (quiet_lines_from o LinePlace.lead) (sym same) ∙ front.0;
            line = ap (λ p. is_line_from o p (w ++ n)) first ∙ over.1
                ∙ ap (is_line_from o LinePlace.lead) (sym same) ∙ front.1;
          }
