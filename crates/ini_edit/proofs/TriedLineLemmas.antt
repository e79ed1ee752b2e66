-- The line by which a value is tried, and what is read of it.
use Rattle.std.proofs.Common.{◌≡◌, ◌∙◌, ℕ, Bool, true, false, ◌||◌, ◌==◌, cond, not, [], ◌∷◌, ◌++◌}
use Rattle.std.proofs.Common.{append-nil, append_assoc, ap, refl, subst, subst₂, sym, length, arith}
use Rattle.std.proofs.Common.{Option, Some, length-append}
use Rattle.std.specs.Str.{chars}
use Rattle.std.specs.Prelude.{◌↔◌}
use Rattle.std.proofs.lemmas.Bool.{and_from, and_parts, both_ways, false≢true, or_right}
use Rattle.std.proofs.lemmas.List.{append_cancel_left, append_cancel_right}
use Rattle.std.proofs.lemmas.List.Folds.{list_all-append}
use Rattle.std.specs.List.{list_all}
use Rattle.ini_text.specs.Options.Backslashes.{Backslash, begins_escape, is_special}
use Rattle.ini_text.specs.Options.ReadOptions.{backslash_of}
use Rattle.ini_text.specs.declared.option.LoneLine.{LoneLine}
use Rattle.ini_text.specs.declared.option.LoneLine.TheVariants.{RunsOn, Refused, Key}
use Rattle.ini_text.specs.declared.option.ParseOption.{ParseOption}
use Rattle.ini_text.specs.declared.error.ParseKind.{ParseKind}
use Rattle.ini_text.specs.declared.parser.placed.Content.{Content}
use Rattle.ini_text.specs.declared.parser.placed.Content.TheVariants as contents
use Rattle.ini_text.specs.declared.parser.placed.PlacedElement.{PlacedElement}
use Rattle.ini_text.specs.Grammar.CharacterKinds.{BeginsWith, BeginsWithNo, backslash, equals, is_blank}
use Rattle.ini_text.specs.Grammar.CharacterKinds.{is_comment_mark, is_inline_white, is_separator, line_feed}
use Rattle.ini_text.specs.Grammar.Elements.{Element, Header, Pair}
use Rattle.ini_text.specs.Grammar.EscapeSequences.{EscapeSequence}
use Rattle.ini_text.specs.Grammar.Keys.{KeyFront}
use Rattle.ini_text.specs.Grammar.Lines.{LineTail, Note}
use Rattle.ini_text.specs.Grammar.Places.{ArePlaced, FollowsKey, HasValue, OwnLines, SpaceAfter, Stretches}
use Rattle.ini_text.specs.Grammar.Places.{TrailingLines, after_key_source, ends_bare, pair_source}
use Rattle.ini_text.specs.Grammar.Places.{separator_text, value_source}
use Rattle.ini_text.specs.Grammar.Positions.{last_or}
use Rattle.ini_text.specs.Grammar.Strings.{Row, Str, is_endpoint, key_ends, noted_key_ends}
use Rattle.ini_text.specs.Grammar.WhiteSpace.{end_trimmed, trimmed}
use Rattle.ini_text.specs.Inside.ElementReader.{element, key_string}
use Rattle.ini_text.specs.Inside.Reading.{found, stopped}
use Rattle.ini_text.specs.Parsing.Items.{cow_text}
use Rattle.ini_text.specs.Parsing.Places.{HasPlaces, StandsBetween, StopsAfter, gives}
use Rattle.ini_text.proofs.PlainLemmas.PlainPairLemmas.{separator_closes}
use Rattle.ini_text.proofs.ReaderLemmas.ElementReaderLemmas.{element-finds, element-stops}
use Rattle.ini_text.proofs.ReaderLemmas.KeyReaderLemmas.{key_string-reads}
use Rattle.ini.specs.Texts.{Text}
use Rattle.ini_edit.specs.Inside.SourceEnds.{GivesValue, MatchesPair}
use Rattle.ini_edit.specs.SourceWritten.{IsReadAs, tried_key, tried_line}
use Rattle.ini_edit.proofs.CharsLemmas.{chars-feed}
use Rattle.ini_edit.proofs.OwnLineLemmas.{own_one}
use Rattle.ini_edit.proofs.PadLemmas.{no_note_follows}
use Rattle.ini_edit.proofs.ReadAsLemmas.{no_lead, read_starts, read_value}
use Rattle.ini_edit.proofs.ValueLemmas.{tail_closes}

-- White space at the end of a value's own lines stands after the value, unless a backslash takes it along.
is_bare : Backslash → ℕ → Bool
is_bare b c = not (is_inline_white c || begins_escape b c)

white_last : (b : Backslash) (d : ℕ) (a : Text) → is_bare b d ≡ false → list_all is_inline_white a ≡ true
    → is_bare b (last_or d a) ≡ false
unfolding is_bare
white_last b d [] h all = h
white_last b d (c ∷ a) h all =
    let parts = and_parts (is_inline_white c) (list_all is_inline_white a) all in
    white_last b c a (ap (λ x. not (x || begins_escape b c)) parts.0) parts.1

slash_no_white : {X : Type 0} (f w : Text) → list_all is_inline_white (f ++ backslash ∷ w) ≡ true → X
slash_no_white [] w all = absurd (false≢true all)
slash_no_white (c ∷ f) w all =
    slash_no_white f w (and_parts (is_inline_white c) (list_all is_inline_white (f ++ backslash ∷ w)) all).1

escaped_end : (b : Backslash) (d : ℕ) (a x f w : Text) → is_special b ≡ true → a ++ x ≡ f ++ backslash ∷ w
    → list_all is_inline_white x ≡ true → list_all is_inline_white w ≡ true
    → is_bare b (last_or d a) ≡ false
unfolding is_bare
escaped_end b d [] x f w special same white all =
    slash_no_white f w (subst (λ z. list_all is_inline_white z ≡ true) same white)
escaped_end b d (c ∷ a) x [] w special same white all =
    let slash : c ≡ backslash = cc in
    let rest : a ++ x ≡ w = cc in
    white_last b c a
    (ap not (or_right (is_inline_white c) _ (and_from (c == backslash) (is_special b) (rw slash refl) special)))
    (and_parts (list_all is_inline_white a) (list_all is_inline_white x)
    (sym (list_all-append is_inline_white a x) ∙ ap (list_all is_inline_white) rest ∙ all)).0
escaped_end b d (c ∷ a) x (e ∷ f) w special same white all =
    let rest : a ++ x ≡ f ++ backslash ∷ w = cc in
    escaped_end b c a x f w special rest white all

white_end : (b : Backslash) (d : ℕ) (a x : Text) (c : ℕ) → list_all is_inline_white (c ∷ x) ≡ true
    → is_bare b (last_or d (a ++ c ∷ x)) ≡ false
unfolding is_bare
white_end b d [] x c all =
    let parts = and_parts (is_inline_white c) (list_all is_inline_white x) all in
    white_last b c x (ap (λ z. not (z || begins_escape b c)) parts.0) parts.1
white_end b d (e ∷ a) x c all = white_end b e a x c all

space_none : {b : Backslash} {a x source : Text} → SpaceAfter b source [] → SpaceAfter b a x
    → a ++ x ≡ source → a ≡ source
unfolding is_bare
space_none {a = a} (SpaceAfter.bare bare none) (SpaceAfter.bare {space_after = []} ends all) same =
    sym (append-nil a) ∙ same
space_none {b} {a} (SpaceAfter.bare bare none) (SpaceAfter.bare {space_after = c ∷ x} ends all) same =
    absurd (both_ways _ (white_end b line_feed a x c all) (ap (ends_bare b) same ∙ bare))
space_none {b} (SpaceAfter.escaped front white special all)
    (SpaceAfter.bare {raw_value = a} {space_after = x} ends blank) same =
    absurd (both_ways _ (escaped_end b line_feed a x front white special same blank all) ends)
space_none {a = a} one (SpaceAfter.escaped front white special all) same = sym (append-nil a) ∙ same

-- the key and what separates it
record KeyTried (key x rest given : Text) : Type 0 where
  key_is : key ≡ tried_key
  after_is : x ≡ equals ∷ rest
  given_is : given ≡ tried_key

escape_begins : {e : Bool} {p w : Text} → EscapeSequence e p w → (q : Text) × (p ≡ backslash ∷ q)
escape_begins EscapeSequence.folded = (_, refl)
escape_begins (EscapeSequence.named on is) = (_, refl)
escape_begins (EscapeSequence.coded on is) = (_, refl)
escape_begins (EscapeSequence.itself on n m none) = (_, refl)
escape_begins (EscapeSequence.kept off n) = (_, refl)

pub no_escape : {X : Type 0} {e : Bool} {p w : Text} (c : ℕ) (s r : Text) → EscapeSequence e p w
    → (c == backslash) ≡ false → p ++ s ≡ c ∷ r → X
no_escape c s r is apart same =
    let x = escape_begins is in
    let both : backslash ∷ (x.0 ++ s) ≡ c ∷ r = ap (λ z. z ++ s) (sym x.1) ∙ same in
    let slash : c ≡ backslash = cc in
    absurd (false≢true (sym apart ∙ rw slash refl))

-- the tried key before its separator
no_end_tried : (line : LoneLine) → is_endpoint (key_ends line) 107 ≡ false
no_end_tried RunsOn = refl
no_end_tried Refused = refl
no_end_tried Key = refl

tried_str : (o : ParseOption) (rest : Text)
    → Str (backslash_of o) (noted_key_ends o) tried_key (equals ∷ rest) tried_key
tried_str o rest =
    Str.closed
    (Row.raw refl (no_end_tried o.line_without_separator) (no_note_follows (noted_key_ends o) 107 [] refl)
    Row.none) (separator_closes o.line_without_separator equals refl)

blank_apart : {X : Type 0} (w y rest : Text) → BeginsWith is_blank w → w ++ y ≡ tried_key ++ equals ∷ rest → X
blank_apart [] y rest begins same = absurd (false≢true (sym begins))
blank_apart (c ∷ w) y rest begins same =
    let is : c ≡ 107 = cc in
    absurd (false≢true (subst (λ z. is_blank z ≡ true) is begins))

str_tried : (o : ParseOption) (kept : Bool) {s v x rest : Text}
    → Str (backslash_of o) (noted_key_ends o) s x v → s ++ x ≡ tried_key ++ equals ∷ rest
    → KeyTried s x rest (cond kept (end_trimmed v) (trimmed v))
str_tried o kept {s} {v} {x} {rest} str same =
    let both : found v x ≡ found tried_key (equals ∷ rest) =
    sym ((key_string-reads o).finds str) ∙ ap (key_string o) same
    ∙ (key_string-reads o).finds (tried_str o rest) in
    let after : x ≡ equals ∷ rest = cc in
    let given : v ≡ tried_key = cc in
    record {
      key_is = append_cancel_right s tried_key x (same ∙ ap (λ z. tried_key ++ z) (sym after));
      after_is = after;
      given_is = rw given (at kept);
    }
  where
    at : (kept : Bool) → cond kept tried_key tried_key ≡ tried_key
    at true = refl
    at false = refl

key_tried : {o : ParseOption} {key x given rest : Text} → KeyFront o [] key x given
    → key ++ x ≡ tried_key ++ equals ∷ rest → KeyTried key x rest given
key_tried {o} (KeyFront.unindented starts str) same =
    str_tried o o.enabled_preserve_key_leading_whitespace str same
key_tried {x = x} {rest = rest} (KeyFront.indented {w} {s} i starts str) same =
    blank_apart w (s ++ x) rest i.some (sym (append_assoc w s x) ∙ same)

-- the line
abbrev pub tried_text : Text → Text
tried_text source = tried_key ++ equals ∷ (source ++ line_feed ∷ [])

-- as it is put together
chars-key : chars (107 ∷ 61 ∷ []) ≡ tried_key ++ equals ∷ []
unfolding chars
chars-key = refl

pub tried_made : (source : Text) {key line whole : Text} → key ≡ chars (107 ∷ 61 ∷ []) → line ≡ key ++ source
    → whole ≡ line ++ chars (10 ∷ []) → whole ≡ tried_text source
tried_made source at_key at_line at_end =
    at_end ∙ ap (λ z. z ++ chars (10 ∷ [])) (at_line ∙ ap (λ z. z ++ source) (at_key ∙ chars-key))
    ∙ ap (λ z. tried_key ++ equals ∷ (source ++ z)) chars-feed

pub never_ends : {X : Type 0} {b T : Text} (source : Text) → b ≡ T → b ≡ [] → T ≡ tried_text source → X
never_ends source same none is =
    let nothing : [] ≡ tried_text source = sym none ∙ same ∙ is in cc

-- one more character at the front than a text has at its end is that of its end
shifted : (c d : ℕ) (s : Text) → c ∷ s ≡ s ++ d ∷ [] → c ≡ d
shifted c d [] same = cc
shifted c d (e ∷ s) same =
    let first : c ≡ e = cc in
    let rest : e ∷ s ≡ s ++ d ∷ [] = cc in
    first ∙ shifted e d s rest

no_white_feed : {X : Type 0} (c : ℕ) → c ≡ line_feed → is_inline_white c ≡ true → X
no_white_feed c is white = absurd (false≢true (subst (λ z. is_inline_white z ≡ true) is white))

length_none : (s : Text) → length s ≡ 0 → s ≡ []
length_none [] h = refl
length_none (c ∷ s) h = absurd (omega arith)

-- what stands around the source in it
module _ (source : Text) where
  front_none : (before z : Text) → list_all is_inline_white before ≡ true
      → before ++ (source ++ z) ≡ source ++ line_feed ∷ [] → before ≡ []
  front_none [] z white same = refl
  front_none (c ∷ before) z white same =
      let parts = and_parts (is_inline_white c) (list_all is_inline_white before) white in
      let none : before ≡ [] = length_none before (omega (
        arith,
        ap length same,
        length-append before (source ++ z),
        length-append source z,
        length-append source (line_feed ∷ []),
      )) in
      let rest : z ≡ [] = length_none z (omega (
        arith,
        ap length same,
        length-append before (source ++ z),
        length-append source z,
        length-append source (line_feed ∷ []),
      )) in
      let whole : c ∷ source ≡ source ++ line_feed ∷ [] =
      ap (λ y. c ∷ y) (sym (append-nil source)) ∙ ap (λ y. c ∷ (source ++ y)) (sym rest)
      ∙ ap (λ y. c ∷ (y ++ (source ++ z))) (sym none) ∙ same in
      no_white_feed c (shifted c line_feed source whole) parts.0

after_none : {b : Backslash} {source after : Text} (z : Text) → SpaceAfter b source after
    → after ++ z ≡ line_feed ∷ [] → after ≡ []
after_none z (SpaceAfter.bare {space_after = []} ends all) same = refl
after_none z (SpaceAfter.bare {space_after = c ∷ x} ends all) same =
    let is : c ≡ line_feed = cc in
    no_white_feed c is (and_parts (is_inline_white c) (list_all is_inline_white x) all).0
after_none z (SpaceAfter.escaped front white special all) same = refl

-- nor a note
tail_none : {n z : Text} → LineTail n z → n ++ z ≡ line_feed ∷ [] → n ≡ []
tail_none (LineTail.none closes) same = refl
tail_none (LineTail.note (Note.note {m} mark within closes)) same =
    let is : m ≡ line_feed = cc in absurd (false≢true (subst (λ z. is_comment_mark z ≡ true) is mark))

-- what follows the raw value
abbrev after_raw : Stretches → Text → Text
after_raw p r = p.space_after ++ (p.note ++ (p.trailing_lines ++ r))

abbrev made : (key : Text) (m : Option ℕ) (before value after note lines : Text) → Stretches
made key m before value after note lines = record {
  key = key;
  separator = m;
  space_before = before;
  raw_value = value;
  space_after = after;
  note = note;
  trailing_lines = lines;
}

module _ {o : ParseOption} {p : Stretches} {r key value : Text} (source : Text)
    (placed : ArePlaced o [] p r key value) (whole : pair_source p ++ r ≡ tried_text source) where
  key_read : KeyTried p.key (after_key_source p ++ r) (source ++ line_feed ∷ []) key
  key_read = key_tried placed.key_front (sym (append_assoc p.key (after_key_source p) r) ∙ whole)

  -- which is no key alone
  valued : HasValue o p r value
  valued = at placed.after_key
    where
      at : FollowsKey o p r value → HasValue o p r value
      at (FollowsKey.has_value f) = f
      at (FollowsKey.is_lone f) =
          let none : after_key_source p ≡ [] =
          ap (λ m. separator_text m ++ value_source p) f.no_separator ∙ f.nothing in
          let follows : r ≡ equals ∷ (source ++ line_feed ∷ []) =
          ap (λ t. t ++ r) (sym none) ∙ key_read.after_is in
          let no : is_separator equals ≡ false = subst (BeginsWithNo is_separator) follows f.next in
          absurd (false≢true (sym no))

  after_read : valued.separator ∷ (value_source p ++ r) ≡ equals ∷ (source ++ line_feed ∷ [])
  after_read = ap (λ m. (separator_text m ++ value_source p) ++ r) (sym valued.separator_is) ∙ key_read.after_is

  separator_read : p.separator ≡ Some equals
  separator_read =
      let read = after_read in
      let same : valued.separator ≡ equals = cc in valued.separator_is ∙ ap Some same

  value_whole : p.space_before ++ (p.raw_value ++ after_raw p r)
      ≡ source ++ line_feed ∷ []
  value_whole =
      let read = after_read in
      let seam : value_source p ++ r
      ≡ p.space_before ++ (p.raw_value ++ after_raw p r) = simp append_assoc in
      let rest : value_source p ++ r ≡ source ++ line_feed ∷ [] = cc in
      sym seam ∙ rest

  -- a pair of this source is the one that is tried
  tried : p.raw_value ≡ source → IsReadAs o source value
  tried same =
      let before = front_none source p.space_before (after_raw p r)
      valued.space_before.white (ap (λ z. p.space_before ++ (z ++ after_raw p r))
      (sym same) ∙ value_whole) in
      let rest : after_raw p r ≡ line_feed ∷ [] =
      append_cancel_left source (after_raw p r) (line_feed ∷ [])
      (ap (λ z. z ++ after_raw p r) (sym same)
      ∙ ap (λ z. z ++ (p.raw_value ++ after_raw p r)) (sym before) ∙ value_whole) in
      let lines = p.trailing_lines in
      let after = after_none (p.note ++ (lines ++ r))
      (subst (λ z. SpaceAfter (backslash_of o) z p.space_after) same valued.space_after) rest in
      let following : p.note ++ (lines ++ r) ≡ line_feed ∷ [] =
      ap (λ z. z ++ (p.note ++ (lines ++ r))) (sym after) ∙ rest in
      let none = tail_none valued.note following in
      let all : p ≡ tried_line source lines =
      ap (λ z. made z p.separator p.space_before p.raw_value p.space_after p.note lines) key_read.key_is
      ∙ ap (λ z. made tried_key z p.space_before p.raw_value p.space_after p.note lines) separator_read
      ∙ ap (λ z. made tried_key (Some equals) z p.raw_value p.space_after p.note lines) before
      ∙ ap (λ z. made tried_key (Some equals) [] z p.space_after p.note lines) same
      ∙ ap (λ z. made tried_key (Some equals) [] source z p.note lines) after
      ∙ ap (λ z. made tried_key (Some equals) [] source [] z lines) none in
      record {
        trailing_lines = p.trailing_lines;
        rest = r;
        line_end = ap (λ z. z ++ (lines ++ r)) (sym none) ∙ following;
        placed = subst₂ (λ q k. ArePlaced o [] q r k value) all key_read.given_is placed;
      }

  -- where the tried line is read, each pair that is read there is of its source
  same_source : {other : Text} (h : IsReadAs o source other) → h.rest ≡ r → p.raw_value ≡ source
  same_source h ends =
      let before = no_lead p.space_before (p.raw_value ++ after_raw p r) []
      valued.space_before.white
      (subst (λ z. BeginsWithNo is_inline_white z)
      (sym (append-nil (p.space_before ++ (p.raw_value ++ after_raw p r)) ∙ value_whole))
      (read_starts h)) in
      let rest : p.raw_value ++ after_raw p r ≡ source ++ line_feed ∷ [] =
      ap (λ z. z ++ (p.raw_value ++ after_raw p r)) (sym before) ∙ value_whole in
      let mine = subst (λ z. OwnLines o (source ++ []) (h.trailing_lines ++ z)) ends (read_value h).raw_value in
      let lines = subst (TrailingLines o h.trailing_lines) ends (read_value h).trailing_lines in
      let both : (p.raw_value ++ p.space_after) ++ (p.note ++ (p.trailing_lines ++ r))
      ≡ (source ++ []) ++ ([] ++ (h.trailing_lines ++ r)) =
      append_assoc p.raw_value p.space_after (p.note ++ (p.trailing_lines ++ r)) ∙ rest
      ∙ ap (λ z. source ++ z) (sym h.line_end ∙ ap (λ z. h.trailing_lines ++ z) ends)
      ∙ ap (λ z. z ++ (h.trailing_lines ++ r)) (sym (append-nil source)) in
      space_none (read_value h).space_after valued.space_after
      (own_one valued.raw_value valued.note valued.trailing_lines mine
      (LineTail.none (tail_closes lines)) lines both ∙ append-nil source)

module _ {o : ParseOption} {source value : Text} where
  -- the element that is tried
  tried_element : (h : IsReadAs o source value)
      → element o [] (tried_text source) ≡ found (Pair tried_key value ∷ []) h.rest
  tried_element h =
      let p = tried_line source h.trailing_lines in
      let whole : pair_source p ++ h.rest ≡ tried_text source =
      append_assoc tried_key (equals ∷ (source ++ h.trailing_lines)) h.rest
      ∙ ap (λ z. tried_key ++ equals ∷ z) (append_assoc source h.trailing_lines h.rest
      ∙ ap (λ z. source ++ z) h.line_end) in
      ap (element o []) (sym whole)
      ∙ element-finds o [] (Element.pair h.placed.key_front h.placed.some refl (read_value h).gives)

  by_content : (content : Content) (s rest : Text) → tried_text source ≡ s ++ rest
      → Element o [] s rest (gives content) → HasPlaces o [] s rest content
      → MatchesPair source value content ↔ IsReadAs o source value
  by_content contents.Nothing s rest whole is places = (
    λ no. absurd no,
    λ h. let both : found [] rest ≡ found (Pair tried_key value ∷ []) h.rest =
        sym (element-finds o [] is) ∙ ap (element o []) (sym whole) ∙ tried_element h in cc,
  )
  by_content (contents.Header name) s rest whole is places = (
    λ no. absurd no,
    λ h. let both : found (Header (cow_text name) ∷ []) rest ≡ found (Pair tried_key value ∷ []) h.rest =
        sym (element-finds o [] is) ∙ ap (element o []) (sym whole) ∙ tried_element h in cc,
  )
  by_content (contents.Pair pair) s rest whole is (source_is, placed) =
      let at = ap (λ z. z ++ rest) (sym source_is) ∙ sym whole in (
        λ m. subst (IsReadAs o source) m.1 (tried source placed at m.0),
        λ h. let both : found (Pair (cow_text pair.key) (cow_text pair.value) ∷ []) rest
            ≡ found (Pair tried_key value ∷ []) h.rest =
            sym (element-finds o [] is) ∙ ap (element o []) (sym whole) ∙ tried_element h in
            (same_source source placed at h cc, cc),
      )

  pub stands_tried : {p : ParseOption} {T b c : Text} (e : PlacedElement) → p ≡ o → T ≡ tried_text source
      → b ≡ [] → StandsBetween p T b c e → GivesValue source value e ↔ IsReadAs o source value
  stands_tried {p} {T} {c = c} e option text front there =
      let at : StandsBetween o (tried_text source) [] c e =
      subst₂ (λ p t. StandsBetween p t [] c e) option text
      (subst (λ b. StandsBetween p T b c e) front there) in
      by_content e.content (chars e.source.now) at.rest at.whole at.is_element at.places

  pub stops_tried : {p : ParseOption} {T b : Text} {kind : ParseKind} {line column : ℕ} → p ≡ o
      → T ≡ tried_text source → b ≡ [] → StopsAfter p T b kind line column → IsReadAs o source value → ⊥
  stops_tried {p} {T} {kind = kind} {line} {column} option text front stops h =
      let at : StopsAfter o (tried_text source) [] kind line column =
      subst₂ (λ p t. StopsAfter p t [] kind line column) option text
      (subst (λ b. StopsAfter p T b kind line column) front stops) in
      let both : found (Pair tried_key value ∷ []) h.rest ≡ stopped at.rest kind =
      sym (tried_element h) ∙ ap (element o []) at.whole ∙ element-stops o [] at.stops in cc
