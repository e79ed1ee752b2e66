-- The stretches of a pair's source, from the rests that were found, and the element that they make.
use Rattle.std.proofs.Common.{◌≡◌, ◌≢◌, ◌≤◌, ℕ, true, false, ◌||◌, ◌==◌, List, [], ◌∷◌, ◌++◌, drop, length}
use Rattle.std.proofs.Common.{Option, None, Some, Result, Ok, Err, IfOk, refl, sym, ap, ◌∙◌, subst, subst₂}
use Rattle.std.proofs.Common.{append_assoc, append-nil, length-append, arith, chars, true≢false}
use Rattle.std.proofs.lemmas.Bool.{or_parts, not-true}
use Rattle.std.proofs.lemmas.List.{append_cancel_right}
use Rattle.std.specs.Borrow.{Bor}
use Rattle.std.specs.Char.{is_whitespace}
use Rattle.std.specs.List.{list_all}
use Rattle.ini_text.specs.Options.ReadOptions.{backslash_of}
use Rattle.ini_text.specs.declared.option.LoneLine.TheVariants.{Key}
use Rattle.ini_text.specs.declared.option.ParseOption.{ParseOption}
use Rattle.ini_text.specs.declared.error.Error.{Error}
use Rattle.ini_text.specs.declared.error.Error.TheVariants as errors
use Rattle.ini_text.specs.declared.error.ParseKind.{ParseKind}
use Rattle.ini_text.specs.declared.parser.fault.Stop.{Stop}
use Rattle.ini_text.specs.declared.parser.fault.Stop.TheVariants as stops
use Rattle.ini_text.specs.declared.item.BorrowedItem.{BorrowedItem}
use Rattle.ini_text.specs.declared.item.BorrowedItem.TheVariants as items
use Rattle.ini_text.specs.declared.parser.placed.PlacedElement.{PlacedElement}
use Rattle.ini_text.specs.declared.parser.rests.Rests.{Rests}
use Rattle.ini_text.specs.Errors.Messages.{HasMessage}
use Rattle.ini_text.specs.Grammar.CharacterKinds.{open_bracket, is_blank, is_comment_mark, is_inline_white}
use Rattle.ini_text.specs.Grammar.CharacterKinds.{is_separator, BeginsWith, BeginsWithNo}
use Rattle.ini_text.specs.Grammar.Elements.{Given, Pair, Element, ElementStops}
use Rattle.ini_text.specs.Grammar.Keys.{begins_key, begins_indented_key, KeyFront}
use Rattle.ini_text.specs.Grammar.Places.{Stretches, value_source, after_key_source, pair_source, OwnLines}
use Rattle.ini_text.specs.Grammar.Places.{SpaceAfter, TrailingLines, FollowsKey, ArePlaced}
use Rattle.ini_text.specs.Grammar.Positions.{line_of, column_of}
use Rattle.ini_text.specs.Grammar.Lines.{LineTail}
use Rattle.ini_text.specs.Grammar.Values.{Value}
use Rattle.ini_text.specs.Inside.ElementReader.{element, key_string}
use Rattle.ini_text.specs.Inside.ItemSearch.{StopIsWithin}
use Rattle.ini_text.specs.Inside.PlaceReader.{BeginsPair, HasRests, HasTail, HasValueRests, IsHeader}
use Rattle.ini_text.specs.Inside.PlaceReader.{ReadsAfterKey, ReadsPair}
use Rattle.ini_text.specs.Inside.LineReader.{past_note}
use Rattle.ini_text.specs.Inside.Reading.{Answer, found, stopped, altered_answer, StopsBy}
use Rattle.ini_text.specs.Parsing.Items.{cow_text}
use Rattle.ini_text.specs.Inside.Scans.{run_of, skipped}
use Rattle.ini_text.specs.Parsing.Fronts.{front_of, IsRest}
use Rattle.ini_text.specs.Parsing.Parser.{memory, parse, TellsRefusal, refusal_of}
use Rattle.ini_text.specs.Parsing.Places.{gives, HasPlaces, StandsBetween, StopsAfter, RefusesElement}
use Rattle.ini_text.proofs.GrammarLemmas.ItemLemmas.{element-some}
use Rattle.ini_text.proofs.GrammarLemmas.KindLemmas.{no_white_no_blank}
use Rattle.ini_text.proofs.ReaderLemmas.KeyReaderLemmas.{key_apart, key_string-reads}
use Rattle.ini_text.proofs.ReaderLemmas.ElementReaderLemmas.{element-says}
use Rattle.ini_text.proofs.ReaderLemmas.RunReaderLemmas.{run-finds, run-sound}
use Rattle.ini_text.proofs.StringLemmas.FrontLemmas.{front_is, front_grows}
use Rattle.ini_text.proofs.PlaceLemmas.TailLemmas.{found_rest, found_stopped}

pub rest_of : (f r t : List ℕ) → f ++ r ≡ t → IsRest t r
rest_of f r t h = ap (λ x. x ++ r) (front_is f r t h) ∙ h

pub front_all : {t r : List ℕ} → IsRest t r → r ≡ [] → front_of t r ≡ t
front_all {t} {r} within none =
    sym (append-nil (front_of t r)) ∙ ap (λ x. front_of t r ++ x) (sym none) ∙ within

-- what stands after a key, before r: a separator and a value, or nothing
data AfterKey (o : ParseOption) : List ℕ → List ℕ → List ℕ → Type 0 where
  separated : {m : ℕ} {y r v : List ℕ} → is_separator m ≡ true → Value o y r v → AfterKey o (m ∷ y) r v
  alone : {r : List ℕ} → o.line_without_separator ≡ Key → BeginsWithNo is_separator r → AfterKey o [] r []

-- a pair's source, in its parts
record PairParts (o : ParseOption) (b s r key v : List ℕ) : Type 0 where
  pub k : List ℕ
  pub x : List ℕ
  pub whole : s ≡ k ++ x
  pub front : KeyFront o b k (x ++ r) key
  pub some : key ≢ []
  pub after_key : AfterKey o x r v

pair_of : {o : ParseOption} {b s r key v : List ℕ} {items : List Given} → Element o b s r items
    → items ≡ Pair key v ∷ [] → PairParts o b s r key v
pair_of (Element.gap g) e = cc
pair_of (Element.comment s one mark all) e = cc
pair_of (Element.last_comment one mark all) e = cc
pair_of (Element.indented_comment on ind noted) e = cc
pair_of (Element.note may late noted) e = cc
pair_of (Element.header off str) e = cc
pair_of (Element.bracketed_header on str i) e = cc
pair_of {o} {b} {r = r} {key} {v}
    (Element.pair {k = k} {s = y} {key = key2} {v = v2} {m = m} front some sep given) e =
    let same_key : key2 ≡ key = cc in
    let same_value : v2 ≡ v = cc in
    record {
      k = k;
      x = m ∷ y;
      whole = refl;
      front = subst (KeyFront o b k (m ∷ (y ++ r))) same_key front;
      some = λ q. some (same_key ∙ q);
      after_key = AfterKey.separated sep (subst (Value o y r) same_value given);
    }
pair_of {o} {b} {r = r} {key} {v} (Element.lone_key {k = k} {key = key2} may_be front some next) e =
    let same_key : key2 ≡ key = cc in
    let same_value : [] ≡ v = cc in
    record {
      k = k;
      x = [];
      whole = sym (append-nil k);
      front = subst (KeyFront o b k r) same_key front;
      some = λ q. some (same_key ∙ q);
      after_key = subst (AfterKey o [] r) same_value (AfterKey.alone may_be next);
    }
pair_of (Element.dropped_blanks ind) e = cc
pair_of (Element.dropped_key runs ind begins stops) e = cc

key_begins : (t : List ℕ) → BeginsWith begins_key t → skipped is_blank t ≡ t
key_begins [] begins = cc
key_begins (c ∷ t) begins =
    let x = or_parts (is_whitespace c || is_comment_mark c) (c == open_bracket) (not-true _ begins) in
    let y = or_parts (is_whitespace c) (is_comment_mark c) x.0 in
    rw (no_white_no_blank c y.0) refl

indented_begins : (o : ParseOption) (t : List ℕ) → BeginsWith (begins_indented_key o) t
    → BeginsWithNo is_blank t
indented_begins o [] begins = tt
indented_begins o (c ∷ t) begins = (key_apart o c begins).blank

-- after the blanks of its line a key is read as a string
key_read : {o : ParseOption} {b k x key : List ℕ} → KeyFront o b k x key
    → (u : List ℕ) × (key_string o (skipped is_blank (k ++ x)) ≡ found u x)
key_read {o} {x = x} (KeyFront.unindented {s} {v = v} begins str) = (
  v,
  ap (key_string o) (key_begins (s ++ x) begins) ∙ (key_string-reads o).finds str,
)
key_read {o} {x = x} (KeyFront.indented {w} {s} {v = v} ind begins str) =
    let following : skipped is_blank ((w ++ s) ++ x) ≡ s ++ x =
    ap (skipped is_blank) (append_assoc w s x)
    ∙ (run-finds is_blank w (s ++ x) ind.blank (indented_begins o (s ++ x) begins)).1 in (
      v,
      ap (key_string o) following ∙ (key_string-reads o).finds str,
    )

-- what is read of a pair
pub record PairRead (o : ParseOption) (t r name : List ℕ) : Type 0 where
  pub u : List ℕ
  pub k : List ℕ
  pub following : List ℕ
  pub key_is : key_string o name ≡ found u following
  pub whole : k ++ following ≡ t

read_of : {o : ParseOption} {t r name b s key v : List ℕ} → name ≡ skipped is_blank t
    → Element o b s r (Pair key v ∷ []) → s ++ r ≡ t → PairRead o t r name
read_of {o} {t} {r} {name} name_is holds whole =
    let p = pair_of holds refl in
    let at_t : p.k ++ (p.x ++ r) ≡ t =
    sym (append_assoc p.k p.x r) ∙ ap (λ y. y ++ r) (sym p.whole) ∙ whole in
    record {
      u = (key_read p.front).0;
      k = p.k;
      following = p.x ++ r;
      key_is =
          ap (key_string o) (name_is ∙ ap (skipped is_blank) (sym at_t))
          ∙ (key_read p.front).1;
      whole = at_t;
    }

pub pair_read : {o : ParseOption} {t r name : List ℕ} → BeginsPair o t r → name ≡ skipped is_blank t
    → PairRead o t r name
pair_read (b, s, key, v, holds, whole) name_is = read_of name_is holds whole

module _ {o : ParseOption} {t r name : List ℕ} (p : PairRead o t r name) {out after_key : List ℕ}
    (read : key_string o name ≡ found out after_key) where
  pub after_key_is : after_key ≡ p.following
  after_key_is = found_rest (sym read ∙ p.key_is)

  pub after_key_whole : p.k ++ after_key ≡ t
  after_key_whole = ap (λ x. p.k ++ x) after_key_is ∙ p.whole

  pub after_key_within : IsRest t after_key
  after_key_within = rest_of p.k after_key t after_key_whole

-- where a separator follows the key, a value's lines were seen
pub value_seen : {o : ParseOption} {after_key after start tail gives r : List ℕ} {sep : ℕ}
    → ReadsAfterKey o after_key start tail gives r → after_key ≡ sep ∷ after → is_separator sep ≡ true
    → HasTail o after start tail gives r
value_seen {o} {start = start} {tail} {gives} {r} (ReadsAfterKey.with_value begins h) splits separates =
    subst (λ x. HasTail o (drop 1 x) start tail gives r) splits h
value_seen {sep = sep} (ReadsAfterKey.alone none) splits separates =
    absurd (true≢false (sym separates ∙ subst (BeginsWithNo is_separator) splits none))

lead_whole : {after start : List ℕ} → start ≡ skipped is_inline_white after
    → run_of is_inline_white after ++ start ≡ after
lead_whole {after} skips =
    ap (λ x. run_of is_inline_white after ++ x) skips ∙ (run-sound is_inline_white after).whole

pub lead_within : {o : ParseOption} {after start tail gives r : List ℕ}
    → HasTail o after start tail gives r → IsRest after start
lead_within {after = after} {start} h =
    rest_of (run_of is_inline_white after) start after (lead_whole h.skips)

-- a separator after a key, and a value
record Separated (o : ParseOption) (x r v : List ℕ) (sep : ℕ) : Type 0 where
  pub y : List ℕ
  pub is : x ≡ sep ∷ y
  pub separates : is_separator sep ≡ true
  pub given : Value o y r v

separated_by : {o : ParseOption} {x r v after : List ℕ} {sep : ℕ} → AfterKey o x r v
    → x ++ r ≡ sep ∷ after → is_separator sep ≡ true → Separated o x r v sep
separated_by {sep = sep} (AfterKey.separated {m} {y} sep_is given) splits separates =
    let same : m ≡ sep = cc in
    record { y = y; is = ap (λ c. c ∷ y) same; separates = separates; given = given }
separated_by (AfterKey.alone may_be next) splits separates =
    absurd (true≢false (sym separates ∙ subst (BeginsWithNo is_separator) splits next))

-- a key alone
record Alone (o : ParseOption) (x r v : List ℕ) : Type 0 where
  pub may_be : o.line_without_separator ≡ Key
  pub is : x ≡ []
  pub empty : v ≡ []
  pub next : BeginsWithNo is_separator r

alone_by : {o : ParseOption} {x r v : List ℕ} → AfterKey o x r v → BeginsWithNo is_separator (x ++ r)
    → Alone o x r v
alone_by (AfterKey.separated sep given) none = absurd (true≢false (sym sep ∙ none))
alone_by (AfterKey.alone may_be next) none =
    record { may_be = may_be; is = refl; empty = refl; next = next }

abbrev pub made_of : List ℕ → Option ℕ → List ℕ → List ℕ → List ℕ → List ℕ → List ℕ → Stretches
made_of key_s sep lead_s own pad note_s tail_s =
    record {
      key = key_s;
      separator = sep;
      space_before = lead_s;
      raw_value = own;
      space_after = pad;
      note = note_s;
      trailing_lines = tail_s;
    }

-- the stretches, from the rests at which they end
module _ {o : ParseOption} (t r : List ℕ)
    {name out after_key after start tail after_note own pad key_s lead_s note_s tail_s gives : List ℕ}
    {sep : ℕ}
    (name_is : name ≡ skipped is_blank t)
    (read : key_string o name ≡ found out after_key)
    (splits : after_key ≡ sep ∷ after) (separates : is_separator sep ≡ true)
    (h : HasTail o after start tail gives r)
    (key_cut : key_s ≡ front_of t after_key) (lead_cut : lead_s ≡ front_of after start)
    (own_cut : front_of start tail ≡ own ++ pad) (padded : SpaceAfter (backslash_of o) own pad)
    (note_end : after_note ≡ past_note o tail) (note_cut : note_s ≡ front_of tail after_note)
    (tail_cut : tail_s ≡ front_of after_note r) where
  abbrev made : Stretches
  made = made_of key_s (Some sep) lead_s own pad note_s tail_s

  own_is : h.own ≡ own ++ pad
  own_is = sym (front_is h.own tail start (sym h.own_is)) ∙ own_cut

  lead_is : lead_s ≡ run_of is_inline_white after
  lead_is = lead_cut ∙ front_is (run_of is_inline_white after) start after (lead_whole h.skips)

  module _ {b s key v : List ℕ} (holds : Element o b s r (Pair key v ∷ [])) (whole : s ++ r ≡ t) where
    abbrev p : PairParts o b s r key v
    p = pair_of holds refl

    abbrev q : PairRead o t r name
    q = read_of name_is holds whole

    follows : p.x ++ r ≡ sep ∷ after
    unfolding read_of
    follows = sym (after_key_is q read) ∙ splits

    x : Separated o p.x r v sep
    x = separated_by p.after_key follows separates

    key_is : p.k ≡ key_s
    unfolding read_of
    key_is = sym (key_cut ∙ front_is p.k after_key t (after_key_whole q read))

    after_note_is : after_note ≡ h.following ++ r
    after_note_is = note_end ∙ h.past_note

    note_is : h.note ≡ note_s
    note_is = sym (note_cut ∙ front_is h.note after_note tail
        (ap (λ x. h.note ++ x) after_note_is ∙ sym h.tail_is))

    tail_is : h.following ≡ tail_s
    tail_is = sym (tail_cut ∙ front_is h.following r after_note (sym after_note_is))

    tail_at : tail ≡ note_s ++ (tail_s ++ r)
    tail_at =
        h.tail_is ∙ ap (λ x. x ++ (h.following ++ r)) note_is ∙ ap (λ x. note_s ++ (x ++ r)) tail_is

    start_at : start ≡ own ++ (pad ++ (note_s ++ (tail_s ++ r)))
    start_at =
        h.own_is ∙ ap (λ x. x ++ tail) own_is ∙ append_assoc own pad tail
        ∙ ap (λ x. own ++ (pad ++ x)) tail_at

    seam : (own ++ (pad ++ (note_s ++ tail_s))) ++ r ≡ own ++ (pad ++ (note_s ++ (tail_s ++ r)))
    seam = simp append_assoc

    after_is : x.y ++ r ≡ after
    after_is = let both : sep ∷ (x.y ++ r) ≡ sep ∷ after = ap (λ l. l ++ r) (sym x.is) ∙ follows in cc

    value_is : x.y ≡ value_source made
    value_is = append_cancel_right x.y (value_source made) r
        (after_is ∙ sym (lead_whole h.skips) ∙ ap (λ x. x ++ start) (sym lead_is)
        ∙ ap (λ x. lead_s ++ x) (start_at ∙ sym seam)
        ∙ sym (append_assoc lead_s (own ++ (pad ++ (note_s ++ tail_s))) r))

    source_is : p.x ≡ after_key_source made
    source_is = x.is ∙ ap (λ y. sep ∷ y) value_is

    pub placed : (s ≡ pair_source made) × ArePlaced o b made r key v
    placed = (
      p.whole ∙ ap (λ x. p.k ++ x) source_is ∙ ap (λ x. x ++ after_key_source made) key_is,
      record {
        key_front =
            subst (λ y. KeyFront o b y (after_key_source made ++ r) key) key_is
            (subst (λ y. KeyFront o b p.k (y ++ r) key) source_is p.front);
        some = p.some;
        after_key = FollowsKey.has_value record {
          separator = sep;
          separator_is = refl;
          separates = x.separates;
          gives = subst (λ y. Value o y r v) value_is x.given;
          space_before = record {
            white =
                subst (λ y. list_all is_inline_white y ≡ true) (sym lead_is)
                (run-sound is_inline_white after).all;
            ends =
                subst (BeginsWithNo is_inline_white) (sym h.skips ∙ start_at)
                (run-sound is_inline_white after).ends;
          };
          raw_value = subst₂ (OwnLines o) own_is tail_at h.own_lines;
          space_after = padded;
          note = subst₂ (λ n f. LineTail n (f ++ r)) note_is tail_is h.is_note;
          trailing_lines = subst (λ y. TrailingLines o y r) tail_is h.is_tail;
        };
      },
    )

-- those of a key alone
module _ {o : ParseOption} (t r : List ℕ) {name out after_key key_s : List ℕ}
    (name_is : name ≡ skipped is_blank t)
    (read : key_string o name ≡ found out after_key) (none : BeginsWithNo is_separator after_key)
    (key_cut : key_s ≡ front_of t after_key)
    {b s key v : List ℕ} (holds : Element o b s r (Pair key v ∷ [])) (whole : s ++ r ≡ t) where
  abbrev lone : Stretches
  lone = made_of key_s None [] [] [] [] []

  abbrev lone_parts : PairParts o b s r key v
  lone_parts = pair_of holds refl

  lone_follows : after_key ≡ lone_parts.x ++ r
  unfolding read_of
  lone_follows = after_key_is (read_of name_is holds whole) read

  is_alone : Alone o lone_parts.x r v
  is_alone = alone_by lone_parts.after_key (subst (BeginsWithNo is_separator) lone_follows none)

  lone_key_is : lone_parts.k ≡ key_s
  unfolding read_of
  lone_key_is =
      sym (key_cut ∙ front_is lone_parts.k after_key t (after_key_whole (read_of name_is holds whole) read))

  pub lone_placed : (s ≡ pair_source lone) × ArePlaced o b lone r key v
  lone_placed = (
    lone_parts.whole ∙ ap (λ x. lone_parts.k ++ x) is_alone.is ∙ ap (λ x. x ++ []) lone_key_is,
    record {
      key_front =
          subst (λ y. KeyFront o b y r key) lone_key_is
          (subst (λ y. KeyFront o b lone_parts.k (y ++ r) key) is_alone.is lone_parts.front);
      some = lone_parts.some;
      after_key = FollowsKey.is_lone record {
        may_be = is_alone.may_be;
        no_separator = refl;
        nothing = refl;
        empty = is_alone.empty;
        next = is_alone.next;
      };
    },
  )

-- what tells a refusal is right, where the refusal is
module _ (o : ParseOption) (T b : List ℕ) where
  pub tells_memory : (e : Error) → TellsRefusal memory e → RefusesElement o T b e
  tells_memory (errors.Memory x) t = tt
  tells_memory (errors.Io x) t = absurd t
  tells_memory (errors.Parse x) t = absurd t
  tells_memory errors.NotUtf8 t = absurd t
  tells_memory errors.NoProgress t = absurd t

  tells_parse : {kind : ParseKind} {line column : ℕ} (message : List ℕ) → StopsAfter o T b kind line column
      → HasMessage kind message → (e : Error) → TellsRefusal (parse kind line column message) e
      → RefusesElement o T b e
  tells_parse message stop m (errors.Memory x) t = absurd t
  tells_parse message stop m (errors.Io x) t = absurd t
  tells_parse message stop m (errors.Parse x) (kind, line, column, text) = (
    record {
      source = stop.source;
      rest = stop.rest;
      whole = stop.whole;
      stops = subst (ElementStops o b stop.source stop.rest) (sym kind) stop.stops;
      line_is = line ∙ stop.line_is;
      column_is = column ∙ stop.column_is;
    },
    subst₂ HasMessage (sym kind) (sym text) m,
  )
  tells_parse message stop m errors.NotUtf8 t = absurd t
  tells_parse message stop m errors.NoProgress t = absurd t

-- an element at a rest of the text T
module _ (o : ParseOption) {T rest front cs : List ℕ} {c : ℕ} (within : IsRest T rest) (is : rest ≡ c ∷ cs)
    (at_front : front ≡ front_of T rest) where
  pub refuses_element : (stop : Stop) → StopsBy (element o front rest) stop
      → StopIsWithin T stop
      × ((e : Error) → TellsRefusal (refusal_of T stop) e → RefusesElement o T (front_of T rest) e)
  refuses_element stops.Memory read = (tt, tells_memory o T (front_of T rest))
  refuses_element (stops.Fault fault) read =
      let b = front_of T rest in
      let (s, holds, whole) = element-says o b is
      (subst (λ f. element o f rest ≡ stopped (chars fault.rest.now) fault.kind) at_front read) in
      let grown = front_grows T rest s (chars fault.rest.now) within (sym whole) in (
        grown.1,
        tells_parse o T b fault.message.now (record {
          source = s;
          rest = chars fault.rest.now;
          whole = sym (ap (λ x. b ++ x) whole ∙ within);
          stops = holds;
          line_is = ap line_of grown.0;
          column_is = ap column_of grown.0;
        }) fault.is_of_kind,
      )

  module _ {after : List ℕ} {items : List Given} (read : element o front rest ≡ found items after) where
    said : (s : List ℕ) × Element o (front_of T rest) s after items × (s ++ after ≡ rest)
    said =
        element-says o (front_of T rest) is (subst (λ f. element o f rest ≡ found items after) at_front read)

    pub source_within : IsRest rest after
    source_within = rest_of said.0 after rest said.2

    pub begins_pair : {key v : List ℕ} → items ≡ Pair key v ∷ [] → BeginsPair o rest after
    begins_pair {key} {v} q =
        (front_of T rest, said.0, key, v, subst (Element o (front_of T rest) said.0 after) q said.1, said.2)

    pub stands : (e : PlacedElement) → chars e.source.now ≡ front_of rest after → items ≡ gives e.content
        → ((s : List ℕ) → Element o (front_of T rest) s after items → s ++ after ≡ rest
        → HasPlaces o (front_of T rest) s after e.content)
        → IsRest T after × StandsBetween o T (front_of T rest) (front_of T after) e
    stands e cut q places =
        let b = front_of T rest in
        let source : said.0 ≡ chars e.source.now = sym (cut ∙ front_is said.0 after rest said.2) in
        let grown = front_grows T rest said.0 after within (sym said.2) in
        let some : 1 ≤ length said.0 = element-some said.1 in (
          grown.1,
          record {
            rest = after;
            whole = sym (ap (λ x. b ++ (x ++ after)) (sym source) ∙ ap (λ x. b ++ x) said.2 ∙ within);
            reaches = grown.0 ∙ ap (λ x. b ++ x) source;
            longer = omega (arith, length-append b said.0, ap length grown.0);
            is_element = subst₂ (λ x y. Element o b x after y) source q said.1;
            places = subst (λ x. HasPlaces o b x after e.content) source (places said.0 said.1 said.2);
          },
        )

-- after a key alone
alone_rest : (o : ParseOption) (rests : Rests) {after_key : List ℕ} (r : List ℕ)
    → chars rests.after_key.now ≡ after_key → BeginsWithNo is_separator after_key → (g : Option BorrowedItem)
    → HasValueRests o after_key rests g r
alone_rest o rests r is none None = tt
alone_rest o rests r is none (Some (items.Header name)) = tt
alone_rest o rests r is none (Some (items.Pair k v)) = (is, ReadsAfterKey.alone none)

pub alone_rests : (o : ParseOption) (rests : Rests) {after_key : List ℕ}
    → chars rests.after_key.now ≡ after_key → BeginsWithNo is_separator after_key
    → (r : Result (Option BorrowedItem × Bor (List ℕ)) Stop)
    → IfOk r (λ p. HasValueRests o after_key rests p.0 (chars p.1.now))
alone_rests o rests is none (Ok x) = alone_rest o rests (chars x.1.now) is none x.0
alone_rests o rests is none (Err e) = tt

-- where what was read is no pair, and where it is one
module _ (o : ParseOption) (t : List ℕ) (rests : Rests) where
  no_rests : (r : List ℕ) (g : Option BorrowedItem) → IsHeader g → HasRests o t rests g r
  no_rests r None h = tt
  no_rests r (Some (items.Header name)) h = tt
  no_rests r (Some (items.Pair k v)) h = absurd h

  pub header_rests : (r : Result (Option BorrowedItem × Bor (List ℕ)) Stop) → IfOk r (λ p. IsHeader p.0)
      → IfOk r (λ p. HasRests o t rests p.0 (chars p.1.now))
  header_rests (Ok x) h = no_rests (chars x.1.now) x.0 h
  header_rests (Err e) h = tt

  some_rests : {after_key : List ℕ} (r u : List ℕ)
      → key_string o (skipped is_blank t) ≡ found u after_key
      → (g : Option BorrowedItem) → HasValueRests o after_key rests g r → HasRests o t rests g r
  some_rests r u read None h = tt
  some_rests r u read (Some (items.Header name)) h = tt
  some_rests r u read (Some (items.Pair k v)) h =
      subst (λ b. ReadsPair o t b (chars rests.start.now) (chars rests.tail.now)
      (cow_text v) r) (sym h.0) (record { key = u; key_is = read; after_key_is = h.1 })

  pub value_rests : {after_key u : List ℕ}
      → key_string o (skipped is_blank t) ≡ found u after_key
      → (r : Result (Option BorrowedItem × Bor (List ℕ)) Stop)
      → IfOk r (λ p. HasValueRests o after_key rests p.0 (chars p.1.now))
      → IfOk r (λ p. HasRests o t rests p.0 (chars p.1.now))
  value_rests {u = u} read (Ok x) h = some_rests (chars x.1.now) u read x.0 h
  value_rests read (Err e) h = tt

-- a string that was altered after reading
pub unaltered : (f : List ℕ → List ℕ) {v r : List ℕ} (a : Answer ℕ) → altered_answer f a ≡ found v r
    → (u : List ℕ) × (a ≡ found u r)
unaltered f (found u x) h = (u, cc)
unaltered f (stopped x k) h = absurd (found_stopped h)

-- no blank begins a text that no white space begins
pub no_blanks : {t cs : List ℕ} {c : ℕ} → t ≡ c ∷ cs → is_whitespace c ≡ false → skipped is_blank t ≡ t
no_blanks {cs = cs} {c} is white =
    let same : skipped is_blank (c ∷ cs) ≡ c ∷ cs = rw (no_white_no_blank c white) refl in
    subst (λ x. skipped is_blank x ≡ x) (sym is) same
