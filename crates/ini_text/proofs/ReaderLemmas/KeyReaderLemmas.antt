-- What follows a key's string, and what begins an indented key.
use Rattle.std.proofs.Common.{◌⊎◌, ◌∙◌, if◌then◌else◌, ◌≡◌, ◌≢◌, ◌≤◌, ℕ, Bool, true, false, not, ◌||◌, ◌==◌}
use Rattle.std.proofs.Common.{List, [], ◌∷◌, ◌++◌, drop, length, length-append, arith, inl, inr, refl, sym}
use Rattle.std.proofs.Common.{ap, chars, eqb-true, ne_eqb, true≢false}
use Rattle.std.proofs.Math.Bool.{or-false}
use Rattle.std.proofs.lemmas.Bool.{and_parts, both_ways, cond-false, cond-true, or_cases, or_left, or_parts}
use Rattle.std.proofs.lemmas.Bool.{or_right, not-true, true_from_ne_false}
use Rattle.ini_text.specs.Options.Backslashes.{Backslash}
use Rattle.ini_text.specs.Options.ReadOptions.{backslash_of}
use Rattle.ini_text.specs.declared.option.LoneLine.{LoneLine}
use Rattle.ini_text.specs.declared.option.LoneLine.TheVariants.{RunsOn, Refused, Key}
use Rattle.ini_text.specs.declared.option.ParseOption.{ParseOption}
use Rattle.ini_text.specs.declared.parser.fault.Stop.{Stop}
use Rattle.ini_text.specs.declared.parser.fault.Stop.TheVariants as stops
use Rattle.ini_text.specs.declared.parser.endpoints.Endpoints.TheVariants as endpoints
use Rattle.ini_text.specs.declared.error.ParseKind.{ParseKind}
use Rattle.ini_text.specs.declared.error.ParseKind.TheVariants.{EndOfText, MissingKey}
use Rattle.ini_text.specs.Grammar.CharacterKinds.{carriage_return, colon, equals, hash, line_feed}
use Rattle.ini_text.specs.Grammar.CharacterKinds.{open_bracket, semicolon, begins, is_comment_mark}
use Rattle.ini_text.specs.Grammar.CharacterKinds.{is_line_end, is_blank, is_separator, BeginsWithNo}
use Rattle.ini_text.specs.Grammar.EscapeSequences.{EscapeStops}
use Rattle.ini_text.specs.Grammar.WhiteSpace.{trimmed, end_trimmed}
use Rattle.ini_text.specs.Grammar.Strings.{Closes, Ends, ends_with_line, is_endpoint, Str, StrStops, key_ends}
use Rattle.ini_text.specs.Grammar.Strings.{noted_key_ends}
use Rattle.ini_text.specs.Grammar.Keys.{begins_indented_key, begins_note, KeyFront}
use Rattle.ini_text.specs.Grammar.Elements.{Pair, ends_part}
use Rattle.ini_text.specs.Inside.ElementReader.{after_key, key_string, lone_key, pair_of_value}
use Rattle.ini_text.specs.Inside.ElementReader.{after_separator, trimmed_key, dropped_tail}
use Rattle.ini_text.specs.Inside.ElementReader.{indented_pair_of_key, kept_blanks, indented_pair}
use Rattle.ini_text.specs.Inside.ElementReader.{after_blanks}
use Rattle.ini_text.specs.Inside.Reading.{Answer, found, stopped, prepend, altered_answer, StopsBy}
use Rattle.ini_text.specs.Inside.Scans.{trimmed_at}
use Rattle.ini_text.specs.Inside.ValueReader.{value}
use Rattle.ini_text.proofs.ReaderLemmas.ReaderLemmas.{IsReader, prepend-nil}
use Rattle.ini_text.proofs.ReaderLemmas.RunReaderLemmas.{BeginsWith-some}
use Rattle.ini_text.proofs.ReaderLemmas.StringReaderLemmas.{empty_row, no_backslash_ends, note_parts}
use Rattle.ini_text.proofs.ReaderLemmas.StringReaderLemmas.{string-reads}

-- what follows a string: what closes it, or, where it ends before notes, a note
abbrev pub MayFollow : Ends → List ℕ → Type 0
MayFollow ends r = Closes ends r ⊎ ((ends.notes ≡ true) × (begins is_comment_mark r ≡ true))

pub str_ends : {e : Backslash} {ends : Ends} {s r v : List ℕ} → Str e ends s r v → MayFollow ends r
str_ends (Str.closed row h) = inl h
str_ends {ends = ends} {r = r} (Str.before_note c row n h note) =
    let three = note_parts ends c r note in inr (three.0, three.2)
str_ends (Str.lone sp row h) = inl h

-- where it doesn't end before notes
pub str_closes : {e : Backslash} {ends : Ends} {s r v : List ℕ} → Str e ends s r v → ends.notes ≡ false
    → Closes ends r
str_closes str off = elim (str_ends str) [ inl h ↦ h | inr note ↦ absurd (true≢false (sym note.0 ∙ off)) ]

-- what follows a string that the text's end doesn't end begins with an endpoint, or with a note's mark
pub endpoint_follows : {e : Backslash} {ends : Ends} {s r v : List ℕ} → Str e ends s r v → ends.text ≡ false
    → (c : ℕ) × (t : List ℕ) × (r ≡ c ∷ t)
    × ((is_endpoint ends c ≡ true) ⊎ ((ends.notes ≡ true) × (is_comment_mark c ≡ true)))
endpoint_follows {ends = ends} {r = r} str n = by r (str_ends str)
  where
    by : (r : List ℕ) → MayFollow ends r → (c : ℕ) × (t : List ℕ) × (r ≡ c ∷ t)
        × ((is_endpoint ends c ≡ true) ⊎ ((ends.notes ≡ true) × (is_comment_mark c ≡ true)))
    by [] (inl h) = absurd (true≢false (sym h ∙ n))
    by [] (inr note) = absurd (true≢false (sym note.1))
    by (c ∷ t) h = (c, t, refl, h)

pub KeyFront-ends : {o : ParseOption} {b k r key : List ℕ} → KeyFront o b k r key
    → MayFollow (noted_key_ends o) r
KeyFront-ends (KeyFront.unindented begins str) = str_ends str
KeyFront-ends (KeyFront.indented ind begins str) = str_ends str

-- where keys don't end before notes
pub KeyFront-closes : {o : ParseOption} {b k r key : List ℕ} → KeyFront o b k r key
    → (noted_key_ends o).notes ≡ false → Closes (key_ends o.line_without_separator) r
KeyFront-closes (KeyFront.unindented begins str) off = str_closes str off
KeyFront-closes (KeyFront.indented ind begins str) off = str_closes str off

-- a key that isn't empty has a source
empty_str : {e : Backslash} {ends : Ends} {s r v : List ℕ} → Str e ends s r v → s ≡ [] → v ≡ []
empty_str (Str.closed row closes) h = empty_row row h
empty_str (Str.before_note {s} c row n begins note) h =
    absurd (omega (arith, length-append s (c ∷ []), ap length h))
empty_str (Str.lone {s} sp row text) h = absurd (omega (arith, length-append s (0x5C ∷ []), ap length h))

empty_key : (kept : Bool) → (if kept then end_trimmed [] else trimmed []) ≡ []
empty_key true = refl
empty_key false = refl

pub KeyFront-some : {o : ParseOption} {b k r key : List ℕ} → KeyFront o b k r key → key ≢ [] → 1 ≤ length k
KeyFront-some {o} (KeyFront.unindented {s = []} begins str) some =
    let kept = o.enabled_preserve_key_leading_whitespace in
    absurd (some (ap (λ v. if kept then end_trimmed v else trimmed v) (empty_str str refl) ∙ empty_key kept))
KeyFront-some (KeyFront.unindented {s = c ∷ s} begins str) some = omega arith
KeyFront-some (KeyFront.indented {w} {s} ind begins str) some =
    omega (arith, length-append w s, BeginsWith-some is_blank w ind.some)

-- a string that meets the text's end leaves nothing
escape_at_end : {s r : List ℕ} {k : ParseKind} → EscapeStops s r k → k ≡ EndOfText → r ≡ []
escape_at_end (EscapeStops.cut_short units few) e = refl
escape_at_end (EscapeStops.cut_in_unit units few) e = refl
escape_at_end (EscapeStops.broken units few other) e = cc
escape_at_end (EscapeStops.unknown units four none) e = cc

pub stopped_at_end : {e : Backslash} {ends : Ends} {s r : List ℕ} {k : ParseKind} → StrStops e ends s r k
    → k ≡ EndOfText → r ≡ []
stopped_at_end (StrStops.at_end row h) e = refl
stopped_at_end (StrStops.after_backslash sp row h) e = refl
stopped_at_end (StrStops.in_escape row on stop) e = escape_at_end stop e

-- the key that a key front gives of its string
pub key_value : (kept : Bool) (v : List ℕ)
    → trimmed_at (not kept) v ≡ (if kept then end_trimmed v else trimmed v)
key_value true v = refl
key_value false v = refl

pub indented_value : (kept : Bool) (w v : List ℕ)
    → trimmed_at (not kept) ((if kept then w else []) ++ v)
    ≡ (if kept then end_trimmed (w ++ v) else trimmed v)
indented_value true w v = refl
indented_value false w v = refl

-- after a key, and where an indented key begins
pub value_after : (o : ParseOption) (key r : List ℕ) → key ≢ []
    → after_separator o key r ≡ pair_of_value key (value o r)
value_after o [] r some = absurd (some refl)
value_after o (c ∷ key) r some = refl

pub separated : (o : ParseOption) (key : List ℕ) {t r : List ℕ} {c : ℕ} → t ≡ c ∷ r → is_separator c ≡ true
    → after_key o key t ≡ after_separator o key r
separated o key {r = r} {c} is sep = rw is (cond-true (is_separator c) _ _ sep)

pub alone_after : (o : ParseOption) (key t : List ℕ) → BeginsWithNo is_separator t
    → after_key o key t ≡ lone_key o.line_without_separator key t
alone_after o key [] none = refl
alone_after o key (c ∷ t) none = cond-false (is_separator c) _ _ none

pub key_at : (o : ParseOption) (w : List ℕ) {t cs : List ℕ} {c : ℕ} → t ≡ c ∷ cs → is_line_end c ≡ false
    → c ≢ open_bracket → begins_note o c ≡ false → after_blanks o w t ≡ indented_pair o w t
key_at o w {c = c} is end bracket key = rw is (rw (end, ne_eqb c 91 bracket, key))

-- what an indented key doesn't begin with
pub record KeyApart (o : ParseOption) (c : ℕ) : Type 0 where
  pub blank : is_blank c ≡ false
  pub line_end : is_line_end c ≡ false
  pub bracket : (c == open_bracket) ≡ false
  pub note : begins_note o c ≡ false

pub key_apart : (o : ParseOption) (c : ℕ) → begins_indented_key o c ≡ true → KeyApart o c
key_apart o c begins =
    let z = or_parts (is_blank c || is_line_end c || c == open_bracket) (begins_note o c)
    (not-true _ begins) in
    let x = or_parts (is_blank c || is_line_end c) (c == open_bracket) z.0 in
    let y = or_parts (is_blank c) (is_line_end c) x.0 in
    record { blank = y.0; line_end = y.1; bracket = x.1; note = z.1 }

-- where blanks aren't kept, a key is trimmed at both ends
pub unkept : (o : ParseOption) (w : List ℕ) (a : Answer ℕ)
    → o.enabled_preserve_key_leading_whitespace ≡ false
    → trimmed_key o (prepend (kept_blanks o w) a) ≡ altered_answer (trimmed_at true) a
unkept o w a off = rw off (ap (altered_answer (trimmed_at true)) (prepend-nil a))

-- where keys run on, other stops than the text's end stay; else all
pub not_dropped : (line : LoneLine) (r : List ℕ) (kind : ParseKind)
    → (line ≡ RunsOn → kind ≢ EndOfText) → dropped_tail line r kind ≡ stopped r kind
not_dropped RunsOn r EndOfText other = absurd (other refl refl)
not_dropped RunsOn r kind other = refl
not_dropped Refused r kind other = refl
not_dropped Key r kind other = refl

-- a key alone
pub some_lone_key : (key r : List ℕ) → key ≢ [] → lone_key Key key r ≡ found (Pair key [] ∷ []) r
some_lone_key [] r some = absurd (some refl)
some_lone_key (c ∷ key) r some = refl

pub no_lone_key : (r : List ℕ) → r ≢ [] → lone_key Key [] r ≡ stopped (drop 1 r) MissingKey
no_lone_key [] some = absurd (some refl)
no_lone_key (c ∷ r) some = refl

-- where keys end with their lines, each stop stays
pub stop_stays : (o : ParseOption) (a : Answer ℕ) (stop : Stop) → o.line_without_separator ≢ RunsOn
    → StopsBy a stop → StopsBy (indented_pair_of_key o a) stop
stop_stays o a stops.Memory other h = tt
stop_stays o a (stops.Fault fault) other h =
    ap (indented_pair_of_key o) h
    ∙ not_dropped o.line_without_separator (chars fault.rest.now) fault.kind (λ runs. absurd (other runs))

-- at the text's end a key ends where it may be alone
pub text_ends_key : (line : LoneLine) → (key_ends line).text ≡ true → line ≡ Key
text_ends_key RunsOn h = let z : false ≡ true = h in cc
text_ends_key Refused h = let z : false ≡ true = h in cc
text_ends_key Key h = refl

pub key_at_end : (o : ParseOption) → MayFollow (noted_key_ends o) [] → o.line_without_separator ≡ Key
key_at_end o (inl h) = text_ends_key o.line_without_separator h
key_at_end o (inr note) = absurd (true≢false (sym note.1))

separates : (x y l r : Bool) → (x || (y || (l || (r || false)))) ≡ true → (l || r) ≡ false
    → (x || y) ≡ true
separates true y l r h k = refl
separates false true l r h k = refl
separates false false false false h k = h
separates false false true r h k = let z : true ≡ false = k in cc
separates false false false true h k = let z : true ≡ false = k in cc

line_ends : (x y l r : Bool) → (x || (y || (l || (r || false)))) ≡ true → (x || y) ≡ false
    → (l || r) ≡ true
line_ends true y l r h k = let z : true ≡ false = k in cc
line_ends false true l r h k = let z : true ≡ false = k in cc
line_ends false false true r h k = refl
line_ends false false false true h k = refl
line_ends false false false false h k = h

-- in a text a key ends at a separator or at a line end
pub key_end_separates : (line : LoneLine) (m : ℕ) → is_endpoint (key_ends line) m ≡ true
    → is_line_end m ≡ false → is_separator m ≡ true
key_end_separates RunsOn m ends other = rw (or-false (m == colon)) at ends
key_end_separates Refused m ends other =
    separates (m == equals) (m == colon) (m == line_feed) (m == carriage_return) ends other
key_end_separates Key m ends other =
    separates (m == equals) (m == colon) (m == line_feed) (m == carriage_return) ends other

-- a key that no separator follows ends with its line, at a line end or before a note
abbrev pub EndsLine : ParseOption → ℕ → Type 0
EndsLine o m = (ends_with_line o.line_without_separator ≡ true) × (ends_part m ≡ true)

key_end_ends : (line : LoneLine) (m : ℕ) → is_endpoint (key_ends line) m ≡ true → is_separator m ≡ false
    → (ends_with_line line ≡ true) × (is_line_end m ≡ true)
key_end_ends RunsOn m ends none = absurd (true≢false (sym (rw (or-false (m == colon)) at ends) ∙ none))
key_end_ends Refused m ends none = (
  refl,
  line_ends (m == equals) (m == colon) (m == line_feed)
      (m == carriage_return) ends none,
)
key_end_ends Key m ends none = (
  refl,
  line_ends (m == equals) (m == colon) (m == line_feed)
      (m == carriage_return) ends none,
)

pub key_ends_line : (o : ParseOption) (m : ℕ) (r : List ℕ) → MayFollow (noted_key_ends o) (m ∷ r)
    → is_separator m ≡ false → EndsLine o m
key_ends_line o m r (inl ends) none =
    let two = key_end_ends o.line_without_separator m ends none in (two.0, or_left _ _ two.1)
key_ends_line o m r (inr note) none = (
  (and_parts (ends_with_line o.line_without_separator) o.enabled_inline_comment note.0).0,
  or_right (is_line_end m) _ note.1,
)

-- and where its line doesn't end, a separator follows it
pub part_separates : (o : ParseOption) (m : ℕ) (r : List ℕ) → MayFollow (noted_key_ends o) (m ∷ r)
    → ends_part m ≡ false → is_separator m ≡ true
part_separates o m r follows other = true_from_ne_false (is_separator m)
    (λ none. both_ways (ends_part m) other (key_ends_line o m r follows none).1)

pub separator_no_line_end : (m : ℕ) → is_separator m ≡ true → is_line_end m ≡ false
separator_no_line_end m h = elim (or_cases (m == equals) (m == colon) h)
    [ inl q ↦ rw (eqb-true m 0x3D q) refl | inr q ↦ rw (eqb-true m 0x3A q) refl ]

-- and at no line end where keys run on
pub key_runs_on : (m : ℕ) → is_endpoint (key_ends RunsOn) m ≡ true → is_line_end m ≡ true → ⊥
key_runs_on m ends end =
    let sep : is_separator m ≡ true = rw (or-false (m == colon)) at ends in
    true≢false (sym end ∙ separator_no_line_end m sep)

pub mark_no_separator : (m : ℕ) → is_comment_mark m ≡ true → is_separator m ≡ false
mark_no_separator m h = elim (or_cases (m == semicolon) (m == hash) h)
    [ inl q ↦ rw (eqb-true m 0x3B q) refl | inr q ↦ rw (eqb-true m 0x23 q) refl ]

pub line_end_no_separator : (m : ℕ) → is_line_end m ≡ true → is_separator m ≡ false
line_end_no_separator m h = elim (or_cases (m == line_feed) (m == carriage_return) h)
    [ inl q ↦ rw (eqb-true m 0x0A q) refl | inr q ↦ rw (eqb-true m 0x0D q) refl ]

pub part_no_separator : (m : ℕ) → ends_part m ≡ true → is_separator m ≡ false
part_no_separator m h = elim (or_cases (is_line_end m) (is_comment_mark m) h)
    [ inl end ↦ line_end_no_separator m end | inr mark ↦ mark_no_separator m mark ]

pub key_string-reads : (o : ParseOption) → IsReader (Str (backslash_of o) (noted_key_ends o))
    (StrStops (backslash_of o) (noted_key_ends o)) (key_string o)
key_string-reads o =
    string-reads (backslash_of o) (noted_key_ends o) (no_backslash_ends o endpoints.Key)
