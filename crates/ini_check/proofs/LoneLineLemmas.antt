-- Where keys don't run on, backslashes alone join a key's lines, and no line is dropped.
use Rattle.std.proofs.Common.{◌≡◌, ◌∙◌, ℕ, Bool, true, false, List, [], ◌∷◌, ◌++◌, append-nil, refl, subst}
use Rattle.std.proofs.Common.{◌≢◌, append_assoc, ap, eqb-true, inl, inr, ne_eqb, sym}
use Rattle.std.proofs.Math.Bool.{and-false}
use Rattle.std.proofs.lemmas.Bool.{and_parts, cases_Bool, not-true, or_cases, or_parts}
use Rattle.std.proofs.lemmas.Option.{cond_some}
use Rattle.std.specs.Char.{is_digit}
use Rattle.std.specs.List.{list_all}
use Rattle.std.specs.Prelude.{◌||◌, ◌&&◌, ◌==◌, not}
use Rattle.ini.specs.Texts.{Text}
use Rattle.ini_text.specs.Grammar.CharacterKinds.{backslash, carriage_return, colon, equals, hash, is_blank}
use Rattle.ini_text.specs.Grammar.CharacterKinds.{is_comment_mark, is_line_end, line_feed, plus, semicolon}
use Rattle.ini_text.specs.Grammar.Elements.{Element, Gap, Given}
use Rattle.ini_text.specs.Grammar.EscapeSequences.{EscapeSequence, spelled}
use Rattle.ini_text.specs.Grammar.Keys.{KeyFront}
use Rattle.ini_text.specs.Grammar.Lines.{Note}
use Rattle.ini_text.specs.Grammar.Strings.{Row, Str, is_endpoint, key_ends, noted_key_ends}
use Rattle.ini_text.specs.Options.Backslashes.{Backslash, begins_escape, is_special}
use Rattle.ini_text.specs.Options.ReadOptions.{backslash_of}
use Rattle.ini_text.specs.declared.option.LoneLine.{LoneLine}
use Rattle.ini_text.specs.declared.option.LoneLine.TheVariants.{Key, Refused, RunsOn}
use Rattle.ini_text.specs.declared.option.ParseOption.{ParseOption}
use Rattle.ini_text.proofs.GrammarLemmas.KindLemmas.{comment_mark-apart, line_end_no_blank}
use Rattle.ini_check.specs.Traps.Keys.{has_bare_line_end}
use Rattle.ini_check.specs.Traps.LostLines.{begins_bare, drops_line, has_later_bare_line}

-- neither a line end nor a backslash
record IsInner (c : ℕ) : Type 0 where
  pub stays : is_line_end c ≡ false
  pub takes_none : (c == backslash) ≡ false

-- no digit, and no plus sign, is a character that is none
other_than : (c other : ℕ) → (is_digit other 16 || other == plus) ≡ false
    → (is_digit c 16 || c == plus) ≡ true → (c == other) ≡ false
other_than c other none h =
    ne_eqb c other (λ same. let z = subst (λ x. (is_digit x 16 || x == plus) ≡ true) same h in cc)

first_digit_inner : (c : ℕ) → (is_digit c 16 || c == plus) ≡ true → IsInner c
first_digit_inner c h = record {
  stays = rw (other_than c 10 refl h, other_than c 13 refl h) refl;
  takes_none = other_than c 92 refl h;
}

digit_inner : (c : ℕ) → is_digit c 16 ≡ true → IsInner c
digit_inner c h = first_digit_inner c (rw h refl)

blank_inner : (c : ℕ) → is_blank c ≡ true → IsInner c
blank_inner c h = elim (or_cases (c == 32) (c == 9) h) [
  | inl q ↦ rw (eqb-true c 32 q) (record { stays = refl; takes_none = refl })
  | inr q ↦ rw (eqb-true c 9 q) (record { stays = refl; takes_none = refl })
]

ends_no_line : (c : ℕ) → is_endpoint (key_ends Refused) c ≡ false → is_line_end c ≡ false
ends_no_line c none =
    let ends = c == line_feed || (c == carriage_return || false) in
    let after_equals = or_parts (c == equals) (c == colon || ends) none in
    let after_colon = or_parts (c == colon) ends after_equals.1 in
    let feed = or_parts (c == line_feed) (c == carriage_return || false) after_colon.1 in
    let alone = or_parts (c == carriage_return) false feed.1 in
    rw (feed.0, alone.0) refl

-- where keys don't run on, what is no endpoint ends no line
no_line_end : (line : LoneLine) (c : ℕ) → line ≢ RunsOn → is_endpoint (key_ends line) c ≡ false
    → is_line_end c ≡ false
no_line_end RunsOn c keeps none = absurd (keeps refl)
no_line_end Refused c keeps none = ends_no_line c none
no_line_end Key c keeps none = ends_no_line c none

module _ (b : Backslash) where
  raw_passes : (c : ℕ) (s : Text) → is_line_end c ≡ false → begins_escape b c ≡ false
      → has_bare_line_end b false (c ∷ s) ≡ has_bare_line_end b false s
  raw_passes c s stays takes_none = rw (stays, takes_none) refl

  inner_passes : (c : ℕ) (s : Text) → IsInner c
      → has_bare_line_end b false (c ∷ s) ≡ has_bare_line_end b false s
  inner_passes c s inner = raw_passes c s inner.stays (rw inner.takes_none refl)

  taken_passes : (c : ℕ) (s : Text) → is_special b ≡ true
      → has_bare_line_end b false (backslash ∷ c ∷ s) ≡ has_bare_line_end b false s
  taken_passes c s special = rw (special, and-false (c == backslash && true)) refl

  escape_passes : {p w : List ℕ} {escapes : Bool} (s : Text) → is_special b ≡ true
      → EscapeSequence escapes p w → has_bare_line_end b false (p ++ s) ≡ has_bare_line_end b false s
  unfolding spelled
  escape_passes s special EscapeSequence.folded = taken_passes 10 s special
  escape_passes s special (EscapeSequence.named {c} on is) = taken_passes c s special
  escape_passes s special (EscapeSequence.coded {a} {b = second} {c} {d} on is) =
      let all_d = and_parts _ _ (and_parts _ _ (cond_some _ _ _ is).0).0 in
      let all_c = and_parts _ _ all_d.0 in
      let all_b = and_parts _ _ all_c.0 in
      taken_passes 0x78 (a ∷ second ∷ c ∷ d ∷ s) special
      ∙ inner_passes a (second ∷ c ∷ d ∷ s) (first_digit_inner a all_b.0)
      ∙ inner_passes second (c ∷ d ∷ s) (digit_inner second all_b.1)
      ∙ inner_passes c (d ∷ s) (digit_inner c all_c.1)
      ∙ inner_passes d s (digit_inner d all_d.1)
  escape_passes s special (EscapeSequence.itself {c} on no_feed no_x no_control) = taken_passes c s special
  escape_passes s special (EscapeSequence.kept {c} off no_feed) = taken_passes c s special

  blanks_pass : (w s : Text) → list_all is_blank w ≡ true
      → has_bare_line_end b false (w ++ s) ≡ has_bare_line_end b false s
  blanks_pass [] s blank = refl
  blanks_pass (c ∷ w) s blank =
      let parts = and_parts (is_blank c) (list_all is_blank w) blank in
      inner_passes c (w ++ s) (blank_inner c parts.0) ∙ blanks_pass w s parts.1

  module _ (o : ParseOption) (keeps : o.line_without_separator ≢ RunsOn) where
    row_passes : {s v : List ℕ} (t : Text) → Row b (noted_key_ends o) s v
        → has_bare_line_end b false (s ++ t) ≡ has_bare_line_end b false t
    row_passes t Row.none = refl
    row_passes t (Row.raw {c} {s} takes_none no_end no_note row) =
        raw_passes c (s ++ t) (no_line_end o.line_without_separator c keeps no_end) takes_none
        ∙ row_passes t row
    row_passes t (Row.escape {p} {s = s} special escape row) =
        ap (has_bare_line_end b false) (append_assoc p s t) ∙ escape_passes (s ++ t) special escape
        ∙ row_passes t row

    string_joined : {s r v : List ℕ} → Str b (noted_key_ends o) s r v → has_bare_line_end b false s ≡ false
    string_joined (Str.closed {s} row closes) =
        ap (has_bare_line_end b false) (sym (append-nil s)) ∙ row_passes [] row
    string_joined (Str.before_note c row takes_none no_end note) =
        row_passes (c ∷ []) row
        ∙ raw_passes c [] (no_line_end o.line_without_separator c keeps no_end) takes_none
    string_joined (Str.lone special row ends) = row_passes (backslash ∷ []) row

module _ (o : ParseOption) (keeps : o.line_without_separator ≢ RunsOn) where
  pub key_joined : {b k r key : List ℕ} → KeyFront o b k r key
      → has_bare_line_end (backslash_of o) false k ≡ false
  key_joined (KeyFront.unindented begins str) =
      string_joined (backslash_of o) o keeps str
  key_joined (KeyFront.indented {w} {s} ind begins str) =
      blanks_pass (backslash_of o) w s ind.blank
      ∙ string_joined (backslash_of o) o keeps str

-- nothing in it is a line that is no comment
pub record IsEmptyLine (s : Text) : Type 0 where
  pub bare : begins_bare s ≡ false
  pub later : has_later_bare_line s ≡ false
  pub dropped : drops_line s ≡ false

pub after_blanks_empty : (w s : Text) → list_all is_blank w ≡ true → IsEmptyLine s → IsEmptyLine (w ++ s)
after_blanks_empty [] s blank empty = empty
after_blanks_empty (c ∷ w) s blank empty =
    let parts = and_parts (is_blank c) (list_all is_blank w) blank in
    let rest = after_blanks_empty w s parts.1 empty in
    let inner = blank_inner c parts.0 in
    record {
      bare = rw (parts.0, rest.bare) refl;
      later = rw (inner.stays, rest.later) refl;
      dropped = rw (parts.0, inner.stays, rest.bare, rest.later) refl;
    }

-- a comment mark ends no line
pub mark_stays : (c : ℕ) → is_comment_mark c ≡ true → is_line_end c ≡ false
mark_stays c mark = elim (or_cases (c == semicolon) (c == hash) mark)
    [ inl q ↦ rw (eqb-true c 0x3B q) refl | inr q ↦ rw (eqb-true c 0x23 q) refl ]

line_empty : (s : Text) → list_all (λ c. not (is_line_end c)) s ≡ true → has_later_bare_line s ≡ false
line_empty [] all = refl
line_empty (c ∷ s) all =
    let parts = and_parts (not (is_line_end c)) (list_all (λ c. not (is_line_end c)) s) all in
    rw (not-true (is_line_end c) parts.0, line_empty s parts.1) refl

line_end_empty : (c : ℕ) → is_line_end c ≡ true → IsEmptyLine (c ∷ [])
line_end_empty c ends =
    let no_blank = line_end_no_blank c ends in
    record {
      bare = rw (no_blank, ends) refl;
      later = rw ends refl;
      dropped = rw no_blank refl;
    }

pub note_empty : {s r : Text} → Note s r → IsEmptyLine s
note_empty (Note.note {m} {s} mark all closes) =
    let later = line_empty s all in
    let stays = mark_stays m mark in
    record {
      bare = rw ((comment_mark-apart m mark).0, stays, mark) refl;
      later = rw (stays, later) refl;
      dropped = rw ((comment_mark-apart m mark).0) refl;
    }

blanks_empty : (w : Text) → list_all is_blank w ≡ true → drops_line w ≡ false
blanks_empty w blank =
    ap drops_line (sym (append-nil w))
    ∙ (after_blanks_empty w [] blank (record { bare = refl; later = refl; dropped = refl })).dropped

one_white : (c : ℕ) → drops_line (c ∷ []) ≡ false
one_white c = elim (cases_Bool (is_blank c))
    [ inl blank ↦ rw (blank, (blank_inner c blank).stays) refl | inr other ↦ rw other refl ]

gap_drops_none : {b s r : Text} → Gap b s r → drops_line s ≡ false
gap_drops_none (Gap.blank_line {w} c ind ends) =
    (after_blanks_empty w (c ∷ []) ind.blank (line_end_empty c ends)).dropped
gap_drops_none (Gap.before_header {w} ind) = blanks_empty w ind.blank
gap_drops_none (Gap.white {c} white apart) = one_white c

pub nothing_dropped : {o : ParseOption} {b s r : Text} {items : List Given}
    → o.line_without_separator ≢ RunsOn → items ≡ [] → Element o b s r items → drops_line s ≡ false
nothing_dropped keeps none (Element.gap g) = gap_drops_none g
nothing_dropped keeps none (Element.comment {m} s one mark all) = rw ((comment_mark-apart m mark).0) refl
nothing_dropped keeps none (Element.last_comment {m} one mark all) = rw ((comment_mark-apart m mark).0) refl
nothing_dropped keeps none (Element.indented_comment {w} {s} on ind n) =
    (after_blanks_empty w s ind.blank (note_empty n)).dropped
nothing_dropped keeps none (Element.note may later n) = (note_empty n).dropped
nothing_dropped keeps none (Element.header off str) = cc
nothing_dropped keeps none (Element.bracketed_header on str i) = cc
nothing_dropped keeps none (Element.pair front some sep given) = cc
nothing_dropped keeps none (Element.lone_key may_be front some next) = cc
nothing_dropped keeps none (Element.dropped_blanks {w} ind) = blanks_empty w ind.blank
nothing_dropped keeps none (Element.dropped_key runs ind begins stops) =
    absurd (keeps runs)
