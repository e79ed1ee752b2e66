-- Derivations of written-out texts, put together from the front to the end. What the grammar asks of a plain
-- part of a text, one without backslashes and quotes, is one test here, which computes.
use Rattle.std.proofs.Common.{◌≡◌, ◌≢◌, inl, inr, ℕ, Bool, true, false, not, ◌&&◌, List, [], ◌∷◌, ◌++◌, refl}
use Rattle.std.proofs.Common.{sym, ◌∙◌, append_assoc, subst}
use Rattle.std.specs.Prelude.{◌==◌, if◌then◌else◌, Option, Some, map}
use Rattle.std.specs.Char.{is_whitespace}
use Rattle.std.specs.List.{list_all}
use Rattle.std.proofs.lemmas.List.{append-nil}
use Rattle.std.proofs.lemmas.Bool.{and_parts, and_cases, and_left, and_right, eqb-false, not-true, false≢true}
use Rattle.std.proofs.lemmas.Bool.{both_ways}
use Rattle.ini_text.specs.Grammar.CharacterKinds.{backslash, equals, double_quote, open_bracket}
use Rattle.ini_text.specs.Grammar.CharacterKinds.{close_bracket, begins, is_blank, is_comment_mark}
use Rattle.ini_text.specs.Grammar.CharacterKinds.{is_line_end, is_quote_mark, is_inline_white, BeginsWith}
use Rattle.ini_text.specs.Grammar.CharacterKinds.{BeginsWithNo}
use Rattle.ini_text.specs.Grammar.Positions.{starts_line}
use Rattle.ini_text.specs.Grammar.WhiteSpace.{Lead, trimmed, end_trimmed}
use Rattle.ini_text.specs.Grammar.EscapeSequences.{Units}
use Rattle.ini_text.specs.Grammar.Strings.{Ends, is_before_note, is_endpoint, Row, Str, Closes, name_ends}
use Rattle.ini_text.specs.Grammar.Strings.{bracketed_name_ends, noted, noted_key_ends, quote_ends, plain_ends}
use Rattle.ini_text.specs.Grammar.Lines.{Quoted, Line, LineTail, LineText, Note, BeginsPlain, plain_value}
use Rattle.ini_text.specs.Grammar.Values.{GoesOn, Value, ValueStops}
use Rattle.ini_text.specs.Grammar.Keys.{Indentation, begins_key, begins_indented_key, begins_note, KeyFront}
use Rattle.ini_text.specs.Options.Backslashes.{Backslash, Raw, is_special}
use Rattle.ini_text.specs.Options.ReadOptions.{backslash_of}
use Rattle.ini_text.specs.Grammar.Elements.{Given, Element, ElementStops, Gap}
use Rattle.ini_text.specs.Grammar.Elements.Given.{Header, Pair}
use Rattle.ini_text.specs.Grammar.Texts.{Reads, Derives, Stops}
use Rattle.ini_text.specs.Inside.Scans.{is_raw}
use Rattle.ini_text.specs.declared.option.ParseOption.{ParseOption}
use Rattle.ini_text.specs.declared.error.ParseKind.{ParseKind}
use Rattle.ini_text.proofs.GrammarLemmas.ItemLemmas.{reads-append}
use Rattle.ini_text.proofs.GrammarLemmas.LineLemmas.{line_of_text}
use Rattle.ini_text.proofs.ReaderLemmas.NoteLemmas.{other_text}

-- after the front b, the rest t of a text gives the items
pub data RestGives (o : ParseOption) : List ℕ → List ℕ → List Given → Type 0 where
  whole : {b : List ℕ} → RestGives o b [] []
  skip : {b s r : List ℕ} {items : List Given} → Element o b s r [] → RestGives o (b ++ s) r items
      → RestGives o b (s ++ r) items
  give : {b s r : List ℕ} {item : Given} {items : List Given} → Element o b s r (item ∷ [])
      → RestGives o (b ++ s) r items → RestGives o b (s ++ r) (item ∷ items)

-- after the front b, reading the rest t of a text stops at the end of the front f
pub data RestStops (o : ParseOption) : List ℕ → List ℕ → ParseKind → List ℕ → Type 0 where
  stop : {b s r : List ℕ} {kind : ParseKind} → ElementStops o b s r kind
      → RestStops o b (s ++ r) kind (b ++ s)
  past : {b s r f : List ℕ} {kind : ParseKind} {gives : List Given} → Element o b s r gives
      → RestStops o (b ++ s) r kind f → RestStops o b (s ++ r) kind f

rest_reads : {o : ParseOption} {T b t : List ℕ} {items : List Given} → T ≡ b ++ t → RestGives o b t items
    → Reads o T b items T
rest_reads {o} {T} {b} e RestGives.whole =
    subst (λ c. Reads o T b [] c) (sym (e ∙ append-nil b)) (Reads.stay [] e)
rest_reads {b = b} e (RestGives.skip {s = s} {r = r} x rest) =
    Reads.step e x (rest_reads (e ∙ sym (append_assoc b s r)) rest)
rest_reads {b = b} e (RestGives.give {s = s} {r = r} x rest) =
    Reads.step e x (rest_reads (e ∙ sym (append_assoc b s r)) rest)

pub derives : {o : ParseOption} {T : List ℕ} {items : List Given} → RestGives o [] T items
    → Derives o T items
derives rest = rest_reads refl rest

rest_stops : {o : ParseOption} {T b t f : List ℕ} {items : List Given} {kind : ParseKind}
    → Reads o T [] items b → T ≡ b ++ t → RestStops o b t kind f → Stops o T kind f
rest_stops before e (RestStops.stop x) = Stops.stops before e x
rest_stops {b = b} before e (RestStops.past {s = s} {r = r} x rest) =
    let more = e ∙ sym (append_assoc b s r) in
    rest_stops (reads-append before (Reads.step e x (Reads.stay r more))) more rest

pub stops : {o : ParseOption} {T f : List ℕ} {kind : ParseKind} → RestStops o [] T kind f → Stops o T kind f
stops {T = T} rest = rest_stops (Reads.stay T refl) refl rest

-- two characters that differ
pub differs : {c d : ℕ} → (c == d) ≡ false → c ≢ d
differs {c} {d} h = eqb-false c d h

-- `BeginsWithNo` and `Closes` as tests
abbrev pub begins_no : (ℕ → Bool) → List ℕ → Bool
begins_no test [] = true
begins_no test (c ∷ cs) = not (test c)

abbrev pub closes : Ends → List ℕ → Bool
closes ends [] = ends.text
closes ends (c ∷ cs) = is_endpoint ends c

begins_with : (test : ℕ → Bool) (cs : List ℕ) → begins test cs ≡ true → BeginsWith test cs
begins_with test [] h = absurd (false≢true h)
begins_with test (c ∷ cs) h = h

begins_with_no : (test : ℕ → Bool) (cs : List ℕ) → begins_no test cs ≡ true → BeginsWithNo test cs
begins_with_no test [] h = tt
begins_with_no test (c ∷ cs) h = not-true (test c) h

closed_by : (ends : Ends) (r : List ℕ) → closes ends r ≡ true → Closes ends r
closed_by ends [] h = h
closed_by ends (c ∷ cs) h = h

-- raw characters before a text, none of which is a blank before a note
abbrev pub are_raw : Ends → List ℕ → List ℕ → Bool
are_raw ends [] t = true
are_raw ends (c ∷ s) t = is_raw ends c && (not (is_before_note ends c (s ++ t)) && are_raw ends s t)

pub raws_before : {b : Backslash} {ends : Ends} {t v : List ℕ} (s : List ℕ)
    → are_raw ends s t ≡ true → Row b ends t v → Row b ends (s ++ t) (s ++ v)
raws_before [] h row = row
raws_before {b} {ends} {t} (c ∷ s) h row =
    let here = is_before_note ends c (s ++ t) in
    let parts = and_parts (is_raw ends c) (not here && are_raw ends s t) h in
    let raw = and_parts (not (c == backslash)) (not (is_endpoint ends c)) parts.0 in
    let more = and_parts (not here) (are_raw ends s t) parts.1 in
    Row.raw (and_left (c == backslash) (is_special b) (not-true (c == backslash) raw.0))
    (not-true (is_endpoint ends c) raw.1) (not-true here more.0) (raws_before s more.1 row)

pub raws : {b : Backslash} {ends : Ends} (s : List ℕ) → are_raw ends s [] ≡ true → Row b ends s s
raws {b} {ends} s h =
    let row : Row b ends (s ++ []) (s ++ []) = raws_before s h Row.none in rw append-nil at row

-- where a backslash is a character like any other, all characters but endpoints are raw
abbrev pub are_characters : Ends → List ℕ → Bool
are_characters ends [] = true
are_characters ends (c ∷ s) =
    not (is_endpoint ends c) && (not (is_before_note ends c s) && are_characters ends s)

pub characters : {ends : Ends} (s : List ℕ) → are_characters ends s ≡ true → Row Raw ends s s
characters [] h = Row.none
characters {ends} (c ∷ s) h =
    let here = is_before_note ends c s in
    let parts = and_parts (not (is_endpoint ends c)) (not here && are_characters ends s) h in
    let more = and_parts (not here) (are_characters ends s) parts.1 in
    Row.raw (and_right (c == backslash) false refl) (not-true (is_endpoint ends c) parts.0)
    (not-true here more.0) (characters s more.1)

-- a string of raw characters
abbrev pub is_raw_string : Ends → List ℕ → List ℕ → Bool
is_raw_string ends s r = are_raw ends s [] && closes ends r

pub raw_string : {b : Backslash} {ends : Ends} {r : List ℕ} (s : List ℕ) → is_raw_string ends s r ≡ true
    → Str b ends s r s
raw_string {ends = ends} {r = r} s h = let parts = and_parts (are_raw ends s []) (closes ends r) h
    in Str.closed (raws s parts.0) (closed_by ends r parts.1)

-- such a string that the raw blank c ends, before a note
abbrev pub is_noted_string : Ends → List ℕ → ℕ → List ℕ → Bool
is_noted_string ends s c r = are_raw ends s [] && (is_raw ends c && is_before_note ends c r)

pub noted_string : {b : Backslash} {ends : Ends} {r : List ℕ} (s : List ℕ) (c : ℕ)
    → is_noted_string ends s c r ≡ true → Str b ends (s ++ c ∷ []) r (s ++ c ∷ [])
noted_string {b} {ends} {r} s c h =
    let parts = and_parts (are_raw ends s []) (is_raw ends c && is_before_note ends c r) h in
    let last = and_parts (is_raw ends c) (is_before_note ends c r) parts.1 in
    let raw = and_parts (not (c == backslash)) (not (is_endpoint ends c)) last.0 in
    Str.before_note c (raws s parts.0)
    (and_left (c == backslash) (is_special b) (not-true (c == backslash) raw.0))
    (not-true (is_endpoint ends c) raw.1) last.1

-- units of one character each, before others
pub units_before : {t : List ℕ} {us : List (Option ℕ)} (u : List ℕ)
    → list_all (λ c. not (c == backslash)) u ≡ true → Units t us → Units (u ++ t) (map Some u ++ us)
units_before [] h rest = rest
units_before (c ∷ u) h rest =
    let parts = and_parts (not (c == backslash)) (list_all (λ e. not (e == backslash)) u) h in
    Units.character (eqb-false c backslash (not-true (c == backslash) parts.0)) (units_before u parts.1 rest)

-- the white space before a line
abbrev pub is_lead : List ℕ → List ℕ → Bool
is_lead w r = list_all is_inline_white w && begins_no is_inline_white r

pub lead : (w r : List ℕ) → is_lead w r ≡ true → Lead w r
lead w r h =
    let parts = and_parts (list_all is_inline_white w) (begins_no is_inline_white r) h in
    record { white = parts.0; ends = begins_with_no is_inline_white r parts.1 }

-- the white space before a line with which a value goes on
pub goes_on : {o : ParseOption} {w r : List ℕ} → BeginsWith is_blank w → Lead w r
    → begins (begins_note o) r ≡ false → GoesOn o w r
goes_on {o} {r = r} blank lead none = record { begins = blank; lead = lead; text = other_text o r none }

-- the blanks before a key, a header or a line end
abbrev pub is_indentation : List ℕ → List ℕ → Bool
is_indentation b w = starts_line b && (begins is_blank w && list_all is_blank w)

pub indentation : (b w : List ℕ) → is_indentation b w ≡ true → Indentation b w
indentation b w h =
    let start = and_parts (starts_line b) (begins is_blank w && list_all is_blank w) h in
    let blanks = and_parts (begins is_blank w) (list_all is_blank w) start.1 in
    record { at_line_start = start.0; some = begins_with is_blank w blanks.0; blank = blanks.1 }

-- a part in double quotes, before other parts
pub quoted : {o : ParseOption} {q w : List ℕ} {some : Bool} (s : List ℕ) → o.enabled_quote ≡ true
    → is_raw_string (quote_ends double_quote) s (double_quote ∷ []) ≡ true
    → Quoted o q w some → Quoted o (double_quote ∷ (s ++ double_quote ∷ q)) (s ++ w) true
quoted s on h rest = Quoted.part on refl (raw_string s h) rest

begins_plain : (o : ParseOption) (cs : List ℕ) → begins_no is_quote_mark cs ≡ true → BeginsPlain o cs
begins_plain o cs h _ = begins_with_no is_quote_mark cs h

-- a line whose plain part goes up to its end
pub whole_line : {o : ParseOption} {first quoted : Bool} {q w p r v : List ℕ} → Quoted o q w quoted
    → BeginsPlain o (p ++ r) → Row (backslash_of o) (noted o plain_ends) p v → closes plain_ends r ≡ true
    → Line o first (q ++ p) r (w ++ plain_value first quoted v)
whole_line {r = r} parts mark row close =
    let closed = closed_by plain_ends r close in
    line_of_text closed (LineText.text parts mark (Str.closed row closed))

-- a line without quotes
pub unquoted_line : {o : ParseOption} {first : Bool} {s r v : List ℕ}
    → begins_no is_quote_mark (s ++ r) ≡ true
    → Row (backslash_of o) (noted o plain_ends) s v
    → closes plain_ends r ≡ true → Line o first s r (plain_value first false v)
unquoted_line {o} {s = s} {r = r} mark row close =
    whole_line Quoted.none (begins_plain o (s ++ r) mark) row close

-- a line without quotes and backslashes
abbrev pub is_plain_line : ParseOption → List ℕ → List ℕ → Bool
is_plain_line o s r =
    begins_no is_quote_mark (s ++ r) && (are_raw (noted o plain_ends) s [] && closes plain_ends r)

pub plain_line : {o : ParseOption} {first : Bool} {r : List ℕ} (s : List ℕ) → is_plain_line o s r ≡ true
    → Line o first s r (plain_value first false s)
plain_line {o} {r = r} s h =
    let raw = are_raw (noted o plain_ends) s [] in
    let parts = and_parts (begins_no is_quote_mark (s ++ r)) (raw && closes plain_ends r) h in
    let both = and_parts raw (closes plain_ends r) parts.1 in
    unquoted_line parts.0 (raws s both.0) both.1

-- such a line that ends with the blank c and a note
abbrev pub is_noted_line : ParseOption → List ℕ → ℕ → List ℕ → Bool
is_noted_line o s c r =
    begins_no is_quote_mark ((s ++ c ∷ []) ++ r) && is_noted_string (noted o plain_ends) s c r

pub noted_line : {o : ParseOption} {first : Bool} {n r : List ℕ} (s : List ℕ) (c : ℕ) → Note n r
    → is_noted_line o s c (n ++ r) ≡ true
    → Line o first ((s ++ c ∷ []) ++ n) r (plain_value first false (s ++ c ∷ []))
noted_line {o} {n = n} {r} s c is_note h =
    let mark = begins_no is_quote_mark ((s ++ c ∷ []) ++ (n ++ r)) in
    let parts = and_parts mark (is_noted_string (noted o plain_ends) s c (n ++ r)) h in
    Line.line (LineText.text Quoted.none (begins_plain o ((s ++ c ∷ []) ++ (n ++ r)) parts.0)
    (noted_string s c parts.1)) (LineTail.note is_note)

-- the mark m and the characters s as a note
abbrev pub is_note : ℕ → List ℕ → List ℕ → Bool
is_note m s r = is_comment_mark m && (list_all (λ c. not (is_line_end c)) s && closes plain_ends r)

pub note_of : {r : List ℕ} (m : ℕ) (s : List ℕ) → is_note m s r ≡ true → Note (m ∷ s) r
note_of {r} m s h =
    let line = list_all (λ c. not (is_line_end c)) s in
    let parts = and_parts (is_comment_mark m) (line && closes plain_ends r) h in
    let both = and_parts line (closes plain_ends r) parts.1 in
    Note.note parts.0 both.0 (closed_by plain_ends r both.1)

-- a value of one line, with nothing before it
pub one_line : {o : ParseOption} {s r v : List ℕ} → o.enabled_indented_mutiline_value ≡ false
    → is_lead [] (s ++ r) ≡ true → Line o true s r v → Value o s r v
one_line {s = s} {r = r} m h content = Value.one_line {w = []} m (lead [] (s ++ r) h) content

-- what a key of the string k after the blanks w is, without backslashes
abbrev pub key_of : ParseOption → List ℕ → List ℕ → List ℕ
key_of o w k = if o.enabled_preserve_key_leading_whitespace then end_trimmed (w ++ k) else trimmed k

abbrev pub is_any : ℕ → Bool
is_any c = true

pub not_empty : {key : List ℕ} → begins is_any key ≡ true → key ≢ []
not_empty {key} h e =
    let P : List ℕ → Type 0 = λ k. begins is_any k ≡ true in absurd (false≢true (subst P e h))

-- a key before r that isn't indented
abbrev pub is_plain_key : ParseOption → List ℕ → List ℕ → Bool
is_plain_key o k r = begins begins_key (k ++ r) && is_raw_string (noted_key_ends o) k r

pub plain_key : {o : ParseOption} {b r : List ℕ} (k : List ℕ) → is_plain_key o k r ≡ true
    → KeyFront o b k r (key_of o [] k)
plain_key {o} {r = r} k h =
    let raw = is_raw_string (noted_key_ends o) k r in
    let parts = and_parts (begins begins_key (k ++ r)) raw h in
    KeyFront.unindented (begins_with begins_key (k ++ r) parts.0) (raw_string k parts.1)

-- a key before r after the blanks w
abbrev pub is_indented_key : ParseOption → List ℕ → List ℕ → List ℕ → List ℕ → Bool
is_indented_key o b w k r = is_indentation b w
    && (begins (begins_indented_key o) (k ++ r) && is_raw_string (noted_key_ends o) k r)

pub key_after_blanks : {o : ParseOption} {b r : List ℕ} (w k : List ℕ) → is_indented_key o b w k r ≡ true
    → KeyFront o b (w ++ k) r (key_of o w k)
key_after_blanks {o} {b} {r} w k h =
    let raw = is_raw_string (noted_key_ends o) k r in
    let blanks = and_parts (is_indentation b w) (begins (begins_indented_key o) (k ++ r) && raw) h in
    let parts = and_parts (begins (begins_indented_key o) (k ++ r)) raw blanks.1 in
    KeyFront.indented (indentation b w blanks.0) (begins_with (begins_indented_key o) (k ++ r) parts.0)
    (raw_string k parts.1)

-- a pair whose key has no backslashes, not indented and indented
pub pair_of : {o : ParseOption} {b s r v : List ℕ} (k : List ℕ) → is_plain_key o k (equals ∷ (s ++ r)) ≡ true
    → begins is_any (key_of o [] k) ≡ true
    → Value o s r v → Element o b (k ++ equals ∷ s) r (Pair (key_of o [] k) v ∷ [])
pair_of k key some value = Element.pair (plain_key k key) (not_empty some) refl value

pub pair_after_blanks : {o : ParseOption} {b s r v : List ℕ} (w k : List ℕ)
    → is_indented_key o b w k (equals ∷ (s ++ r)) ≡ true → begins is_any (key_of o w k) ≡ true
    → Value o s r v → Element o b ((w ++ k) ++ equals ∷ s) r (Pair (key_of o w k) v ∷ [])
pair_after_blanks w k key some value = Element.pair (key_after_blanks w k key) (not_empty some) refl value

-- such a pair in whose value reading stops
pub stops_in_value_of : {o : ParseOption} {b s r : List ℕ} {kind : ParseKind} (k : List ℕ)
    → is_plain_key o k (equals ∷ (s ++ r)) ≡ true → begins is_any (key_of o [] k) ≡ true
    → ValueStops o s r kind → ElementStops o b (k ++ equals ∷ s) r kind
stops_in_value_of k key some value = ElementStops.in_value (plain_key k key) (not_empty some) refl value

-- a pair on one line, without quotes and backslashes
abbrev pub is_plain_pair : ParseOption → List ℕ → List ℕ → List ℕ → Bool
is_plain_pair o k s r = not o.enabled_indented_mutiline_value
    && (begins is_any (key_of o [] k)
    && (is_plain_key o k (equals ∷ (s ++ r)) && (is_lead [] (s ++ r) && is_plain_line o s r)))

pub plain_pair : {o : ParseOption} {b r : List ℕ} (k s : List ℕ) → is_plain_pair o k s r ≡ true
    → Element o b (k ++ equals ∷ s) r (Pair (key_of o [] k) (trimmed s) ∷ [])
plain_pair {o} {r = r} k s h =
    let key = is_plain_key o k (equals ∷ (s ++ r)) in
    let value = is_lead [] (s ++ r) && is_plain_line o s r in
    let one =
    and_parts (not o.enabled_indented_mutiline_value) (begins is_any (key_of o [] k) && (key && value)) h in
    let some = and_parts (begins is_any (key_of o [] k)) (key && value) one.1 in
    let both = and_parts key value some.1 in
    let parts = and_parts (is_lead [] (s ++ r)) (is_plain_line o s r) both.1 in
    pair_of k both.0
    some.0 (one_line (not-true o.enabled_indented_mutiline_value one.0) parts.0 (plain_line s parts.1))

-- a header without backslashes
abbrev pub is_plain_header : ParseOption → List ℕ → List ℕ → Bool
is_plain_header o n r =
    not o.enabled_brackets_in_section_names && is_raw_string name_ends n (close_bracket ∷ r)

pub plain_header : {o : ParseOption} {b r : List ℕ} (n : List ℕ) → is_plain_header o n r ≡ true
    → Element o b (open_bracket ∷ (n ++ close_bracket ∷ [])) r (Header (trimmed n) ∷ [])
plain_header {o} {r = r} n h =
    let parts =
    and_parts (not o.enabled_brackets_in_section_names) (is_raw_string name_ends n (close_bracket ∷ r)) h in
    Element.header (not-true o.enabled_brackets_in_section_names parts.0) (raw_string n parts.1)

-- such a header with brackets in names, and the blanks w after its last bracket
abbrev pub is_bracketed_header : ParseOption → List ℕ → List ℕ → List ℕ → Bool
is_bracketed_header o n w r =
    o.enabled_brackets_in_section_names
    && (list_all is_blank w && is_raw_string (noted o bracketed_name_ends) (n ++ close_bracket ∷ w) r)

pub plain_bracketed_header : {o : ParseOption} {b r : List ℕ} (n w : List ℕ)
    → is_bracketed_header o n w r ≡ true
    → Element o b (open_bracket ∷ (n ++ close_bracket ∷ w)) r (Header (trimmed n) ∷ [])
plain_bracketed_header {o} {r = r} n w h =
    let line = n ++ close_bracket ∷ w in
    let raw = is_raw_string (noted o bracketed_name_ends) line r in
    let on = and_parts o.enabled_brackets_in_section_names (list_all is_blank w && raw) h in
    let parts = and_parts (list_all is_blank w) raw on.1 in
    Element.bracketed_header on.0 (raw_string line parts.1)
    (record { blanks = w; blank = parts.0; whole = refl })

-- one white character as a gap
abbrev pub is_white_gap : List ℕ → ℕ → Bool
is_white_gap b c = is_whitespace c && not (is_blank c && starts_line b)

pub white : {o : ParseOption} {b r : List ℕ} {c : ℕ} → is_white_gap b c ≡ true → Element o b (c ∷ []) r []
white {b = b} {c = c} h =
    let parts = and_parts (is_whitespace c) (not (is_blank c && starts_line b)) h in
    Element.gap (Gap.white parts.0
    (λ e. elim (and_cases (is_blank c) (starts_line b) (not-true (is_blank c && starts_line b) parts.1)) [
      | inl n ↦ absurd (both_ways (is_blank c) n e)
      | inr n ↦ n
    ]))
