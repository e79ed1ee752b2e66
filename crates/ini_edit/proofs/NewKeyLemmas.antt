-- A key as it is written between white space, in the place of another key, read back there.
use Rattle.std.proofs.Common.{◌≡◌, ◌≢◌, ◌⊎◌, inl, inr, ◌∙◌, ℕ, Bool, true, false, not, ◌||◌, cond, eqb, List}
use Rattle.std.proofs.Common.{[], ◌∷◌, ◌++◌, refl, sym, ap, subst, append_assoc, append-nil}
use Rattle.std.proofs.lemmas.Bool.{and_from, and_left, and_parts, both_ways, cases_Bool, cond-false}
use Rattle.std.proofs.lemmas.Bool.{cond_both, false≢true, not-true, or_from, or_left, or_parts}
use Rattle.std.specs.Char.{is_whitespace}
use Rattle.std.specs.List.{list_all}
use Rattle.std.specs.Str.{drop_trailing_whitespace, skip_leading_whitespace}
use Rattle.ini_text.specs.Options.Backslashes.{Backslash, is_special}
use Rattle.ini_text.specs.Options.ReadOptions.{backslash_of}
use Rattle.ini_text.specs.declared.option.LoneLine.{LoneLine}
use Rattle.ini_text.specs.declared.option.LoneLine.TheVariants.{RunsOn, Refused, Key}
use Rattle.ini_text.specs.declared.option.ParseOption.{ParseOption}
use Rattle.ini_text.specs.declared.write.policy.EscapePolicy.{EscapePolicy}
use Rattle.ini_text.specs.Escaping.EscapedTexts.{escaped}
use Rattle.ini_text.specs.Grammar.CharacterKinds.{backslash, open_bracket, is_blank, is_comment_mark}
use Rattle.ini_text.specs.Grammar.CharacterKinds.{begins, is_line_end, line_feed}
use Rattle.ini_text.specs.Grammar.CharacterKinds.{is_inline_white, BeginsWith, BeginsWithNo}
use Rattle.ini_text.specs.Grammar.Keys.{Indentation, KeyFront, begins_key, begins_indented_key}
use Rattle.ini_text.specs.Grammar.EscapeSequences.{EscapeSequence}
use Rattle.ini_text.specs.Grammar.Strings.{Closes, Ends, Row, Str, is_before_note, is_endpoint, key_ends}
use Rattle.ini_text.specs.Grammar.Strings.{noted_key_ends}
use Rattle.ini_text.specs.Grammar.WhiteSpace.{trimmed, end_trimmed}
use Rattle.ini_text.specs.Laws.Plain.{IsBareKey, IsIndentedByEscape}
use Rattle.ini_text.proofs.GrammarLemmas.KindLemmas.{blank_is_white, no_white_no_blank}
use Rattle.ini_text.proofs.LawLemmas.OneAheadLemmas.{Alike}
use Rattle.ini_text.specs.Grammar.Positions.{last_or}
use Rattle.ini_text.proofs.LawLemmas.PieceLemmas.{last_or-append}
use Rattle.ini_text.proofs.PlainLemmas.EscapedTextLemmas.{all_read, row_escaped}
use Rattle.ini_text.proofs.ReaderLemmas.StringReaderLemmas.{no_note_after, note_parts}
use Rattle.ini_text.proofs.PlainLemmas.PlainPairLemmas.{bare_begins, bare_indented, bare_unindented}
use Rattle.ini_text.proofs.PlainLemmas.PlainPairLemmas.{key_no_end, no_white_no_line_end, value_no_end}
use Rattle.ini_text.proofs.PlainLemmas.PlainTrimLemmas.{skip_none, trimmed_begins, trimmed_end}
use Rattle.ini_edit.proofs.EndingLemmas.{apart_by}
use Rattle.ini_edit.specs.Places.{Follows}
use Rattle.ini_edit.specs.Renamed.{HasEdges, IsPlainBareKey, is_key_white}
use Rattle.ini_edit.proofs.KeyEdgeLemmas.{end_trimmed-before_white, skip_all_white}
use Rattle.ini_edit.proofs.TriedLineLemmas.{no_escape}

inline_parts : (c : ℕ) → is_inline_white c ≡ true
    → (is_whitespace c ≡ true) × (is_endpoint (key_ends Refused) c ≡ false)
inline_parts c h =
    let parts = and_parts (is_whitespace c) (not (is_line_end c)) h in
    let ends = or_parts (eqb c 0x0A) (eqb c 0x0D) (not-true _ parts.1) in
    let equal : eqb c 0x3D ≡ false = apart_by is_whitespace c 0x3D refl parts.0 in
    let colon : eqb c 0x3A ≡ false = apart_by is_whitespace c 0x3A refl parts.0 in (
      parts.0,
      or_from (eqb c 0x3D) _ equal (or_from (eqb c 0x3A) _ colon
          (or_from (eqb c 0x0A) _ ends.0 (or_from (eqb c 0x0D) false ends.1 refl))),
    )

inline_from : (c : ℕ) → is_whitespace c ≡ true → is_endpoint (key_ends Refused) c ≡ false
    → is_inline_white c ≡ true
inline_from c white inside =
    let x = or_parts (eqb c 0x3D) _ inside in
    let y = or_parts (eqb c 0x3A) _ x.1 in
    let z = or_parts (eqb c 0x0A) _ y.1 in
    let w = or_parts (eqb c 0x0D) false z.1 in
    and_from (is_whitespace c) _ white (ap not (or_from (eqb c 0x0A) (eqb c 0x0D) z.0 w.0))

-- white space that may stand after a key is white space at which no key ends
key_white_parts : (line : LoneLine) (c : ℕ) → is_key_white line c ≡ true
    → (is_whitespace c ≡ true) × (is_endpoint (key_ends line) c ≡ false)
key_white_parts RunsOn c h =
    let equal : eqb c 0x3D ≡ false = apart_by is_whitespace c 0x3D refl h in
    let colon : eqb c 0x3A ≡ false = apart_by is_whitespace c 0x3A refl h in
    (h, or_from (eqb c 0x3D) _ equal (or_from (eqb c 0x3A) false colon refl))
key_white_parts Refused c h = inline_parts c h
key_white_parts Key c h = inline_parts c h

key_white_from : (line : LoneLine) (c : ℕ) → is_whitespace c ≡ true → is_endpoint (key_ends line) c ≡ false
    → is_key_white line c ≡ true
key_white_from RunsOn c white inside = white
key_white_from Refused c white inside = inline_from c white inside
key_white_from Key c white inside = inline_from c white inside

all_white : (line : LoneLine) (w : List ℕ) → list_all (is_key_white line) w ≡ true
    → list_all is_whitespace w ≡ true
all_white line [] h = refl
all_white line (c ∷ w) h =
    let parts = and_parts (is_key_white line c) (list_all (is_key_white line) w) h in
    and_from (is_whitespace c) _ (key_white_parts line c parts.0).0 (all_white line w parts.1)

-- no comment mark begins it
no_mark_white : (c : ℕ) → is_whitespace c ≡ true → is_comment_mark c ≡ false
no_mark_white c h =
    or_from (eqb c 0x3B) (eqb c 0x23) (apart_by is_whitespace c 0x3B refl h)
    (apart_by is_whitespace c 0x23 refl h)

no_mark_whites : (line : LoneLine) (w t : List ℕ) → list_all (is_key_white line) w ≡ true
    → BeginsWithNo is_comment_mark t → BeginsWithNo is_comment_mark (w ++ t)
no_mark_whites line [] t h none = none
no_mark_whites line (c ∷ w) t h none =
    no_mark_white c
    (key_white_parts line c (and_parts (is_key_white line c) (list_all (is_key_white line) w) h).0).0

unmarked : (t : List ℕ) → BeginsWithNo is_comment_mark t → begins is_comment_mark t ≡ false
unmarked [] h = refl
unmarked (c ∷ t) h = h

white_apart : (c : ℕ) → is_whitespace c ≡ true → eqb c backslash ≡ false
white_apart c white = apart_by is_whitespace c backslash refl white

-- before a row of pieces of a key it stands for itself
white_row : {b : Backslash} (o : ParseOption) {s v : List ℕ} (w : List ℕ)
    → list_all (is_key_white o.line_without_separator) w ≡ true → BeginsWithNo is_comment_mark s
    → Row b (noted_key_ends o) s v → Row b (noted_key_ends o) (w ++ s) (w ++ v)
white_row o [] h none row = row
white_row {b} o {s} (c ∷ w) h none row =
    let line = o.line_without_separator in
    let parts = and_parts (is_key_white line c) (list_all (is_key_white line) w) h in
    let kinds = key_white_parts line c parts.0 in
    Row.raw (and_left (eqb c backslash) (is_special b) (white_apart c kinds.0)) kinds.1
    (no_note_after (noted_key_ends o) c (w ++ s) (unmarked (w ++ s) (no_mark_whites line w s parts.1 none)))
    (white_row o w parts.1 none row)

-- and white space with which a key begins is of that kind, if that of what follows its row is
abbrev IsKeyWhite : LoneLine → List ℕ → Type 0
IsKeyWhite line t = (x y : List ℕ) → t ≡ x ++ y → list_all is_whitespace x ≡ true
    → list_all (is_key_white line) x ≡ true

row_white : {b : Backslash} (o : ParseOption) (x y t : List ℕ) {s v : List ℕ} → Row b (noted_key_ends o) s v
    → IsKeyWhite o.line_without_separator t → s ++ t ≡ x ++ y → list_all is_whitespace x ≡ true
    → list_all (is_key_white o.line_without_separator) x ≡ true
row_white o [] y t row at same white = refl
row_white o (c ∷ x) y t Row.none at same white = at (c ∷ x) y same white
row_white o (c ∷ x) y t (Row.raw {c = d} {s} n inside unnoted row) at same white =
    let line = o.line_without_separator in
    let parts = and_parts (is_whitespace c) (list_all is_whitespace x) white in
    let is : d ≡ c = cc in
    let rest : s ++ t ≡ x ++ y = cc in
    and_from (is_key_white line c) _
    (key_white_from line c parts.0 (subst (λ z. is_endpoint (key_ends line) z ≡ false) is inside))
    (row_white o x y t row at rest parts.1)
row_white o (c ∷ x) y t (Row.escape {p = p} {s = s} special is row) at same white =
    let parts = and_parts (is_whitespace c) (list_all is_whitespace x) white in
    no_escape c (s ++ t) (x ++ y) is (white_apart c parts.0) (sym (append_assoc p s t) ∙ same)

none_white : (line : LoneLine) → IsKeyWhite line []
none_white line [] y same white = refl
none_white line (c ∷ x) y same white = absurd (let no : [] ≡ c ∷ (x ++ y) = same in cc)

backslash_white : (line : LoneLine) → IsKeyWhite line (backslash ∷ [])
backslash_white line [] y same white = refl
backslash_white line (c ∷ x) y same white =
    let parts = and_parts (is_whitespace c) (list_all is_whitespace x) white in
    let is : backslash ≡ c = let all : backslash ∷ [] ≡ c ∷ (x ++ y) = same in cc in
    absurd (false≢true (subst (λ z. is_whitespace z ≡ true) (sym is) parts.0))

one_white : (line : LoneLine) (d : ℕ) → is_key_white line d ≡ true → IsKeyWhite line (d ∷ [])
one_white line d h [] y same white = refl
one_white line d h (c ∷ []) y same white =
    let is : d ≡ c = let all : d ∷ [] ≡ c ∷ y = same in cc in
    and_from (is_key_white line c) true (subst (λ z. is_key_white line z ≡ true) is h) refl
one_white line d h (c ∷ e ∷ x) y same white = absurd (let no : d ∷ [] ≡ c ∷ e ∷ (x ++ y) = same in cc)

-- the blank before a note, behind which a key's string ends, is of that kind too
blank_key_white : (o : ParseOption) (c : ℕ) (r : List ℕ) → is_endpoint (noted_key_ends o) c ≡ false
    → is_before_note (noted_key_ends o) c r ≡ true → is_key_white o.line_without_separator c ≡ true
blank_key_white o c r inside note =
    let three = note_parts (noted_key_ends o) c r note in
    key_white_from o.line_without_separator c (blank_is_white c three.1) inside

key_white : {b : Backslash} (o : ParseOption) {s r v : List ℕ} (x y : List ℕ)
    → Str b (noted_key_ends o) s r v → s ≡ x ++ y → list_all is_whitespace x ≡ true
    → list_all (is_key_white o.line_without_separator) x ≡ true
key_white o x y (Str.closed {s = s} row closes) same white =
    row_white o x y [] row (none_white o.line_without_separator) (append-nil s ∙ same) white
key_white o {r = r} x y (Str.before_note c row n inside note) same white =
    row_white o x y (c ∷ []) row (one_white o.line_without_separator c (blank_key_white o c r inside note)) same
    white
key_white o x y (Str.lone special row text) same white =
    row_white o x y (backslash ∷ []) row (backslash_white o.line_without_separator) same white

-- What follows a key's source, which ends in this white space: an end of keys; or a note, behind the blank
-- that is last.
pub data EndsKey (o : ParseOption) (pad after : List ℕ) : Type 0 where
  at_key_end : Closes (noted_key_ends o) after → EndsKey o pad after
  before_note : (white : List ℕ) (c : ℕ) → pad ≡ white ++ c ∷ []
      → is_before_note (noted_key_ends o) c after ≡ true → EndsKey o pad after

-- a row of white space gives that
row_gives : {b : Backslash} {ends : Ends} {s v : List ℕ} → Row b ends s v → list_all is_whitespace s ≡ true
    → v ≡ s
row_gives Row.none white = refl
row_gives (Row.raw {c} {s} n inside unnoted row) white =
    ap (λ t. c ∷ t) (row_gives row (and_parts (is_whitespace c) (list_all is_whitespace s) white).1)
row_gives (Row.escape {p = []} {s = s} special is row) white = no_piece is
  where
    no_piece : {X : Type 0} {e : Bool} {w : List ℕ} → EscapeSequence e [] w → X
    no_piece is = no_escape line_feed (line_feed ∷ []) [] is refl refl
row_gives (Row.escape {p = c ∷ p} {s = s} special is row) white =
    no_escape c s (p ++ s) is
    (white_apart c (and_parts (is_whitespace c) (list_all is_whitespace (p ++ s)) white).0) refl

white_front : (s : List ℕ) (c : ℕ) → list_all is_whitespace (s ++ c ∷ []) ≡ true
    → (list_all is_whitespace s ≡ true) × (is_whitespace c ≡ true)
white_front [] c h = (refl, (and_parts (is_whitespace c) true h).0)
white_front (d ∷ s) c h =
    let parts = and_parts (is_whitespace d) (list_all is_whitespace (s ++ c ∷ [])) h in
    let rest = white_front s c parts.1 in
    (and_from (is_whitespace d) _ parts.0 rest.0, rest.1)

-- a text's last character, if it has one
data Ended : List ℕ → Type 0 where
  nothing : Ended []
  last : (front : List ℕ) (c : ℕ) → Ended (front ++ c ∷ [])

ended : (t : List ℕ) → Ended t
ended [] = Ended.nothing
ended (c ∷ t) = after (ended t)
  where
    after : {t : List ℕ} → Ended t → Ended (c ∷ t)
    after Ended.nothing = Ended.last [] c
    after (Ended.last front d) = Ended.last (c ∷ front) d

-- the white space with which a key's source ends has the source's last character, where that is white space
last_white : (line : LoneLine) (indent own pad s : List ℕ) (c : ℕ) → s ++ c ∷ [] ≡ indent ++ (own ++ pad)
    → is_key_white line c ≡ true → is_key_white line (last_or backslash own) ≡ false
    → (own ++ pad ≡ [] → ⊥) → (white : List ℕ) × (pad ≡ white ++ c ∷ [])
last_white line indent own pad s c same white ends some = at own (ended pad) same ends some
  where
    at : (own : List ℕ) {pad : List ℕ} → Ended pad → s ++ c ∷ [] ≡ indent ++ (own ++ pad)
        → is_key_white line (last_or backslash own) ≡ false
        → (own ++ pad ≡ [] → ⊥) → (white : List ℕ) × (pad ≡ white ++ c ∷ [])
    at [] Ended.nothing same ends some = absurd (some refl)
    at (d ∷ own) Ended.nothing same ends some =
        let is : c ≡ last_or d own =
        sym (last_or-append backslash s (c ∷ [])) ∙ ap (last_or backslash) same
        ∙ ap (λ t. last_or backslash (indent ++ t)) (append-nil (d ∷ own))
        ∙ last_or-append backslash indent (d ∷ own) in
        absurd (both_ways (is_key_white line c) (ap (is_key_white line) is ∙ ends) white)
    at own (Ended.last front d) same ends some =
        let is : c ≡ d =
        sym (last_or-append backslash s (c ∷ [])) ∙ ap (last_or backslash) same
        ∙ ap (last_or backslash) (sym (append_assoc indent own (front ++ d ∷ []))
        ∙ sym (append_assoc (indent ++ own) front (d ∷ [])))
        ∙ last_or-append backslash ((indent ++ own) ++ front) (d ∷ []) in
        (front, ap (λ x. front ++ x ∷ []) (sym is))

begins_after : (test : ℕ → Bool) (cs w : List ℕ) → cs ≢ [] → BeginsWithNo test cs
    → BeginsWithNo test (cs ++ w)
begins_after test [] w some h = absurd (some refl)
begins_after test (c ∷ cs) w some h = h

-- white space that is blanks, and then more
split_white : (w s i y : List ℕ) → list_all is_blank w ≡ true → BeginsWithNo is_whitespace y
    → w ++ s ≡ i ++ y → (x : List ℕ) × (i ≡ w ++ x) × (s ≡ x ++ y)
split_white [] s i y blank ink e = (i, refl, e)
split_white (c ∷ w) s [] y blank ink e =
    let parts = and_parts (is_blank c) (list_all is_blank w) blank in
    absurd (both_ways (is_whitespace c) (subst (BeginsWithNo is_whitespace) (sym e) ink)
    (blank_is_white c parts.0))
split_white (c ∷ w) s (d ∷ i) y blank ink e =
    let parts = and_parts (is_blank c) (list_all is_blank w) blank in
    let same : c ≡ d = cc in
    let rest : w ++ s ≡ i ++ y = cc in
    let more = split_white w s i y parts.1 ink rest in
    (more.0, ap (λ z. z ∷ i) (sym same) ∙ ap (λ z. c ∷ z) more.1, more.2)

white_after : (w x : List ℕ) → list_all is_whitespace (w ++ x) ≡ true → list_all is_whitespace x ≡ true
white_after [] x h = h
white_after (c ∷ w) x h =
    white_after w x (and_parts (is_whitespace c) (list_all is_whitespace (w ++ x)) h).1

-- all white, it gives no key
trimmed_white : (w : List ℕ) → list_all is_whitespace w ≡ true → trimmed w ≡ []
trimmed_white w h =
    ap drop_trailing_whitespace (ap skip_leading_whitespace (sym (append-nil w)) ∙ skip_all_white w [] h)

no_last : (t : List ℕ) (c : ℕ) → t ++ c ∷ [] ≡ [] → ⊥
no_last [] c e = cc
no_last (d ∷ t) c e = let no : d ∷ (t ++ c ∷ []) ≡ [] = e in cc

-- a key that isn't empty is not all white space
some_own : {b : Backslash} {o : ParseOption} {s indent pad : List ℕ} (edges : HasEdges o s indent pad)
    (w t v x : List ℕ) (c : ℕ) → s ≡ w ++ (t ++ c ∷ [])
    → cond o.enabled_preserve_key_leading_whitespace x (trimmed (v ++ c ∷ [])) ≢ []
    → Row b (noted_key_ends o) t v → edges.own ++ pad ≡ [] → ⊥
some_own {o = o} {indent = indent} edges w t v x c whole some row none =
    let kept = o.enabled_preserve_key_leading_whitespace in
    let is : w ++ (t ++ c ∷ []) ≡ indent =
    sym whole ∙ edges.whole ∙ ap (λ u. indent ++ u) none ∙ append-nil indent in
    let white : list_all is_whitespace (t ++ c ∷ []) ≡ true =
    white_after w (t ++ c ∷ []) (subst (λ u. list_all is_whitespace u ≡ true) (sym is) edges.white_indent) in
    elim (cases_Bool kept) [
      | inl on ↦ no_last (w ++ t) c (append_assoc w t (c ∷ []) ∙ is ∙ edges.kept on)
      | inr off ↦
          some (cond-false kept x (trimmed (v ++ c ∷ [])) off
          ∙ ap (λ u. trimmed (u ++ c ∷ [])) (row_gives row (white_front t c white).0)
          ∙ trimmed_white (t ++ c ∷ []) white)
    ]

ends_str : {b : Backslash} {o : ParseOption} {s indent pad after t v : List ℕ} (edges : HasEdges o s indent pad)
    (w x : List ℕ) → s ≡ w ++ t → cond o.enabled_preserve_key_leading_whitespace x (trimmed v) ≢ []
    → Str b (noted_key_ends o) t after v → EndsKey o pad after
ends_str edges w x whole some (Str.closed row closes) = EndsKey.at_key_end closes
ends_str {o = o} {indent = indent} {pad = pad} {after = after} edges w x whole some
    (Str.before_note {s = t} {v = v} c row n inside note) =
    let last = last_white o.line_without_separator indent edges.own pad (w ++ t) c
    (append_assoc w t (c ∷ []) ∙ sym whole ∙ edges.whole) (blank_key_white o c after inside note) edges.ends
    (some_own edges w t v x c whole some row) in
    EndsKey.before_note last.0 c last.1 note
ends_str edges w x whole some (Str.lone special row text) = EndsKey.at_key_end text

-- so a key's source stands that was read
pub ends_key : {o : ParseOption} {b s indent pad after was : List ℕ} → KeyFront o b s after was → was ≢ []
    → HasEdges o s indent pad → EndsKey o pad after
ends_key (KeyFront.unindented {v = v} begins str) some edges =
    ends_str edges [] (end_trimmed v) refl some str
ends_key (KeyFront.indented {w = w} {v = v} i begins str) some edges =
    ends_str edges w (end_trimmed (w ++ v)) refl some str

key_white_front : (line : LoneLine) (w : List ℕ) (c : ℕ) → list_all (is_key_white line) (w ++ c ∷ []) ≡ true
    → (list_all (is_key_white line) w ≡ true) × (is_key_white line c ≡ true)
key_white_front line [] c h = (refl, (and_parts (is_key_white line c) true h).0)
key_white_front line (d ∷ w) c h =
    let parts = and_parts (is_key_white line d) (list_all (is_key_white line) (w ++ c ∷ [])) h in
    let rest = key_white_front line w c parts.1 in
    (and_from (is_key_white line d) _ parts.0 rest.0, rest.1)

module _ {o : ParseOption} {policy : EscapePolicy} {key : List ℕ} (plain : IsPlainBareKey o policy key)
    (pad : List ℕ) (white_pad : list_all (is_key_white o.line_without_separator) pad ≡ true)
    (after : List ℕ) (ends : EndsKey o pad after) where
  abbrev bare : IsBareKey o policy key
  bare = plain.bare

  abbrev line : LoneLine
  line = o.line_without_separator

  -- the key as it is written, and white space
  abbrev source : List ℕ
  source = escaped policy key ++ pad

  bare_end : end_trimmed key ≡ key
  bare_end = elim bare.is_trimmed [
    | inl t ↦ trimmed_end key t
    | inr i ↦ i.end_is_trimmed
  ]

  -- before white space it is a row of pieces, which no comment mark begins
  key_row : (w : List ℕ) → list_all (is_key_white line) w ≡ true
      → Row (backslash_of o) (noted_key_ends o) (escaped policy key ++ w) (key ++ w)
  key_row w white =
      let read = all_read {o = o} policy key plain.read_back in
      row_escaped key read (key_no_end line policy key bare.no_separator (value_no_end read)) plain.no_note
      (subst (BeginsWithNo is_comment_mark) (append-nil w) (no_mark_whites line w [] white tt))
      (subst (λ z. Row (backslash_of o) (noted_key_ends o) z z) (append-nil w)
      (white_row o w white tt Row.none))

  no_mark : (w : List ℕ) → BeginsWithNo is_comment_mark (escaped policy key ++ w)
  no_mark w =
      bare_begins (BeginsWithNo is_comment_mark) (λ y. refl) policy w bare (λ c y white mark bracket. mark)

  -- after white space it is the key's string
  key_string : (x : List ℕ) → list_all (is_key_white line) x ≡ true
      → Str (backslash_of o) (noted_key_ends o) (x ++ source) after (x ++ (key ++ pad))
  key_string x white = by white_pad ends
    where
      string : (w : List ℕ) → list_all (is_key_white line) w ≡ true
          → Row (backslash_of o) (noted_key_ends o) (x ++ (escaped policy key ++ w)) (x ++ (key ++ w))
      string w h = white_row o x white (no_mark w) (key_row w h)

      by : {pad : List ℕ} → list_all (is_key_white line) pad ≡ true → EndsKey o pad after
          → Str (backslash_of o) (noted_key_ends o) (x ++ (escaped policy key ++ pad)) after (x ++ (key ++ pad))
      by {pad} h (EndsKey.at_key_end closes) = Str.closed (string pad h) closes
      by {pad} h (EndsKey.before_note white c is note) =
          let parts = key_white_front line white c (subst (λ t. list_all (is_key_white line) t ≡ true) is h) in
          let kinds = key_white_parts line c parts.1 in
          let in_order : (k : List ℕ) → (x ++ (k ++ white)) ++ c ∷ [] ≡ x ++ (k ++ pad) = λ k.
          append_assoc x (k ++ white) (c ∷ [])
          ∙ ap (λ t. x ++ t) (append_assoc k white (c ∷ []) ∙ ap (λ t. k ++ t) (sym is)) in
          subst (λ v. Str (backslash_of o) (noted_key_ends o) (x ++ (escaped policy key ++ pad)) after v) (in_order key)
          (subst (λ s. Str (backslash_of o) (noted_key_ends o) s after ((x ++ (key ++ white)) ++ c ∷ []))
          (in_order (escaped policy key))
          (Str.before_note c (string white parts.0) (and_left (eqb c backslash) (is_special (backslash_of o))
          (white_apart c kinds.0)) kinds.1 note))

  -- after white space, where keys don't keep it
  trimmed_key : (x : List ℕ) → o.enabled_preserve_key_leading_whitespace ≡ false
      → list_all is_whitespace x ≡ true → trimmed (x ++ (key ++ pad)) ≡ key
  trimmed_key x off white =
      ap drop_trailing_whitespace (skip_all_white x (key ++ pad) white
      ∙ skip_none (key ++ pad) (begins_after is_whitespace key pad bare.some (begins bare.is_trimmed)))
      ∙ end_trimmed-before_white key pad (all_white line pad white_pad) ∙ bare_end
    where
      begins : (trimmed key ≡ key) ⊎ IsIndentedByEscape o policy key → BeginsWithNo is_whitespace key
      begins (inl t) = trimmed_begins key t
      begins (inr i) = absurd (both_ways o.enabled_preserve_key_leading_whitespace off i.kept)

  read_key : cond o.enabled_preserve_key_leading_whitespace (end_trimmed (key ++ pad)) (trimmed (key ++ pad))
      ≡ key
  read_key = cond_both o.enabled_preserve_key_leading_whitespace _ _ (λ k. k ≡ key)
      (λ on. end_trimmed-before_white key pad (all_white line pad white_pad) ∙ bare_end)
      (λ off. trimmed_key [] off refl)

  pub unindented : {b : List ℕ} → KeyFront o b source after key
  unindented {b} =
      let begins : BeginsWith begins_key (source ++ after) =
      rw (append_assoc (escaped policy key) pad after) (bare_unindented policy (pad ++ after) bare) in
      subst (KeyFront o b source after) read_key
      (KeyFront.unindented begins (key_string [] refl))

  pub indented : {b w : List ℕ} (s x : List ℕ) → Indentation b w
      → o.enabled_preserve_key_leading_whitespace ≡ false → list_all (is_key_white line) x ≡ true
      → (y : List ℕ)
      → BeginsWith (begins_indented_key o) ((x ++ y) ++ s)
      → KeyFront o b (w ++ (x ++ source)) after key
  indented {b} {w} s x i off white y was =
      let value : cond o.enabled_preserve_key_leading_whitespace (end_trimmed (w ++ (x ++ (key ++ pad))))
      (trimmed (x ++ (key ++ pad))) ≡ key =
      cond_both o.enabled_preserve_key_leading_whitespace _ _ (λ k. k ≡ key)
      (λ on. absurd (both_ways o.enabled_preserve_key_leading_whitespace off on))
      (λ _. trimmed_key x off (all_white line x white)) in
      subst (KeyFront o b (w ++ (x ++ source)) after) value
      (KeyFront.indented i (begins x was) (key_string x white))
    where
      begins : (x : List ℕ) → BeginsWith (begins_indented_key o) ((x ++ y) ++ s)
          → BeginsWith (begins_indented_key o) ((x ++ source) ++ after)
      begins [] h =
          rw (append_assoc (escaped policy key) pad after) (bare_indented policy (pad ++ after) bare)
      begins (c ∷ x) h = h

  pub follows : Follows o (source ++ after)
  follows =
      let whole = sym (append_assoc (escaped policy key) pad after) in
      record {
        no_blank = λ _. subst (BeginsWithNo is_blank) whole
            (bare_begins (BeginsWithNo is_blank) (λ y. refl) policy (pad ++ after) bare
            (λ c y white mark bracket. no_white_no_blank c white));
        no_line_end = λ _. subst (BeginsWithNo is_line_end) whole
            (bare_begins (BeginsWithNo is_line_end) (λ y. refl) policy (pad ++ after) bare
            (λ c y white mark bracket. no_white_no_line_end c white));
      }

  -- In the place of another key's source the new one is read as the key, and what stands before it is read
  -- as before: it begins alike, or so that it may follow anything.
  pub record ReadsInPlace (b old new : List ℕ) : Type 0 where
    pub front : KeyFront o b new after key
    pub ahead : Alike (old ++ after) (new ++ after) ⊎ Follows o (new ++ after)

  in_place_bare : {b old : List ℕ} → ReadsInPlace b old source
  in_place_bare = record { front = unindented; ahead = inr follows }

  in_place_indented : {b s k was : List ℕ} (c : ℕ) (i own tail : List ℕ)
      → o.enabled_preserve_key_leading_whitespace ≡ false
      → KeyFront o b s k was → s ≡ (c ∷ i) ++ (own ++ tail) → list_all is_whitespace (c ∷ i) ≡ true
      → BeginsWithNo is_whitespace (own ++ tail) → ReadsInPlace b s ((c ∷ i) ++ source)
  in_place_indented {k = k} c i own tail off (KeyFront.unindented {s = s} begins str) whole white ink =
      let begins_white : is_whitespace c ≡ true =
      (and_parts (is_whitespace c) (list_all is_whitespace i) white).0 in
      let is : begins_key c ≡ true = subst (λ z. BeginsWith begins_key (z ++ k)) whole begins in
      absurd (both_ways (begins_key c)
      (ap not (or_left (is_whitespace c || is_comment_mark c) (eqb c open_bracket)
      (or_left (is_whitespace c) (is_comment_mark c) begins_white))) is)
  in_place_indented {b = b} {k = k} c i own tail off
      (KeyFront.indented {w = w} {s = s} ind begins str) whole white ink =
      let parts = split_white w s (c ∷ i) (own ++ tail) ind.blank ink whole in
      let x = parts.0 in
      let all : list_all (is_key_white line) x ≡ true =
      key_white o x (own ++ tail) str parts.2
      (white_after w x (subst (λ z. list_all is_whitespace z ≡ true) parts.1 white)) in
      let front : KeyFront o b (w ++ (x ++ source)) after key =
      indented k x ind off all (own ++ tail)
      (subst (λ z. BeginsWith (begins_indented_key o) (z ++ k)) parts.2 begins) in
      let same : w ++ (x ++ source) ≡ (c ∷ i) ++ source =
      sym (append_assoc w x source) ∙ ap (λ z. z ++ source) (sym parts.1) in
      record {
        front = subst (λ z. KeyFront o b z after key) same front;
        ahead = inl (subst (λ z. Alike (z ++ after) (((c ∷ i) ++ source) ++ after)) (sym whole) Alike.same);
      }

  pub in_place : {b s k was : List ℕ} (indent : List ℕ) → KeyFront o b s k was → HasEdges o s indent pad
      → ReadsInPlace b s (indent ++ source)
  in_place [] front edges = in_place_bare
  in_place (c ∷ i) front edges = elim (cases_Bool o.enabled_preserve_key_leading_whitespace) [
    | inl on ↦ absurd (let never : c ∷ i ≡ [] = edges.kept on in cc)
    | inr off ↦
        in_place_indented c i edges.own pad off front edges.whole edges.white_indent (edges.begins off)
  ]
