-- A pair's key, and a section's name, written anew in a text in pieces.
use Rattle.std.proofs.Common.{◌≡◌, ◌∙◌, ◌==◌, ℕ, false, true, ◌&&◌, List, [], ◌∷◌, ◌++◌, append_assoc, Bool}
use Rattle.std.proofs.Common.{None, Option, Some, ap, append-nil, eqb-true, get_or, if◌then◌else◌, inl, inr}
use Rattle.std.proofs.Common.{map, refl, set, subst, sym}
use Rattle.std.proofs.lemmas.Bool.{both_ways, cond-false, cond-true, false≢true}
use Rattle.std.proofs.lemmas.List.Folds.{list_all-append}
use Rattle.std.specs.List.{list_all}
use Rattle.std.specs.Prelude.{is_some}
use Rattle.ini_text.specs.Escaping.EscapedTexts.{escaped}
use Rattle.ini_text.specs.Grammar.CharacterKinds.{BeginsWith, BeginsWithNo, begins, close_bracket}
use Rattle.ini_text.specs.Grammar.CharacterKinds.{is_comment_mark, line_feed, open_bracket}
use Rattle.ini_text.specs.Grammar.Keys.{KeyFront}
use Rattle.ini_text.specs.Grammar.Places.{after_key_source, pair_source, separator_text, value_source}
use Rattle.ini_text.specs.Grammar.Positions.{last_or}
use Rattle.ini_text.specs.Grammar.Strings.{Closes, key_ends, plain_ends}
use Rattle.ini_text.specs.Laws.PieceLaws.{Agree, BeginAlike}
use Rattle.ini_text.specs.Laws.Plain.{IsPlainName}
use Rattle.ini_text.specs.declared.option.ParseOption.{ParseOption}
use Rattle.ini_text.specs.declared.write.policy.EscapePolicy.{EscapePolicy}
use Rattle.ini_text.proofs.LawLemmas.OneAheadLemmas.{Alike, KeyFront-alike}
use Rattle.ini_text.proofs.LawLemmas.PieceLemmas.{last_or-append}
use Rattle.ini_text.proofs.StringLemmas.ScanLemmas.{last_or_append}
use Rattle.ini.specs.Edits.{key_renamed, rename_key_in, section_renamed}
use Rattle.ini.specs.Texts.{Text, is_name, is_text}
use Rattle.ini.proofs.KeepingLemmas.{names_equal}
use Rattle.ini_edit.specs.Inside.InPlace.{AreInPlace}
use Rattle.ini_edit.specs.Inside.SourceSteps.{IsFirstAt, RenamesIn, RenamesKey, RenamesPair}
use Rattle.ini_edit.specs.Inside.Spans.{AreSections, AreSpans, BeginGeneral, IsPair, IsSpan, Span}
use Rattle.ini_edit.specs.Inside.Spans.{gap, opening, pair, pairs_spans, sections_spans, span_source}
use Rattle.ini_edit.specs.Renamed.{HasEdges, IsPlainBareKey}
use Rattle.ini_edit.specs.Sections.{header_of}
use Rattle.ini_edit.specs.SourceEdits.{RenamesKeyIn, RenamesNameIn, blanks_before_note, first_changed}
use Rattle.ini_edit.specs.SourceEdits.{first_fitting}
use Rattle.ini_edit.specs.SourceEdits.{key_changed, pair_changed, with_header, with_key, with_pairs}
use Rattle.ini_edit.specs.SourceLines.{blanks_at_end}
use Rattle.ini_edit.specs.Sources.{PairPiece, Pieces, SectionPiece, given_pair, given_section, joined}
use Rattle.ini_edit.proofs.FirstLemmas.{changed_first, first_stands, renamed_first, stands_there}
use Rattle.ini_edit.proofs.HeaderLemmas.{NameEnds, StayBehind, blanks_last, header_anew, header_bracket}
use Rattle.ini_edit.proofs.HeaderLemmas.{name_ends, plain_bare, plain_closes}
use Rattle.ini_edit.proofs.InPlaceLemmas.{in_place-before, in_place-exchanged, in_place-put, in_place-split}
use Rattle.ini_edit.proofs.NewKeyLemmas.{EndsKey, ends_key, in_place}
use Rattle.ini_edit.proofs.NextPairLemmas.{unmarked_after}
use Rattle.ini_edit.proofs.PairViewLemmas.{closes_line, key_front_of, some_key}
use Rattle.ini_edit.proofs.QuietLemmas.{IsHeader, as_header}
use Rattle.ini_edit.proofs.SectionBeginLemmas.{names_after}
use Rattle.ini_edit.proofs.SourceReadLemmas.{sections_spans-append}
use Rattle.ini_edit.proofs.SourceSetLemmas.{as_edit, changed_sections, closed_agrees, found_there}
use Rattle.ini_edit.proofs.SourceSetLemmas.{last_agrees, no_value, same_sections, sections_put}
use Rattle.ini_edit.proofs.SpanLemmas.{spans_local}
pub use Rattle.ini_edit.proofs.SpanFrontLemmas.{spans_ahead}

alike_begin : {r x : Text} → Alike r x → BeginAlike r x
alike_begin Alike.same = BeginAlike.character

-- the key of a pair
module _ {o : ParseOption} {policy : EscapePolicy} {other : Text} (plain : IsPlainBareKey o policy other)
    (p : PairPiece) {indent pad : Text} (edges : HasEdges o p.stretches.key indent pad) where
  abbrev new_source : Text
  new_source = indent ++ (escaped policy other ++ pad)

  abbrev renamed_pair : Span
  renamed_pair = pair (with_key new_source other p).stretches other p.value

  abbrev after_keys : Text → Text
  after_keys rest = after_key_source p.stretches ++ (rest ++ [])

  was_text : (rest : Text) → (pair_source p.stretches ++ rest) ++ [] ≡ p.stretches.key ++ after_keys rest
  was_text rest =
      append_assoc (pair_source p.stretches) rest []
      ∙ append_assoc p.stretches.key (after_key_source p.stretches) (rest ++ [])

  is_text_new : (rest : Text)
      → (span_source renamed_pair ++ []) ++ (rest ++ []) ≡ new_source ++ after_keys rest
  is_text_new rest =
      ap (λ t. t ++ (rest ++ [])) (append-nil (span_source renamed_pair))
      ∙ append_assoc new_source (after_key_source p.stretches) (rest ++ [])

  same_last : (c m : ℕ) → p.stretches.separator ≡ Some m
      → last_or c (pair_source p.stretches ++ []) ≡ last_or c (span_source renamed_pair ++ [])
  same_last c m is =
      let value = m ∷ value_source p.stretches in
      let same : after_key_source p.stretches ≡ value =
      ap (λ x. separator_text x ++ value_source p.stretches) is in
      ap (last_or c) (append-nil (pair_source p.stretches)) ∙ ap (λ t. last_or c (p.stretches.key ++ t)) same
      ∙ last_or-append c p.stretches.key value
      ∙ sym (last_or-append c new_source value)
      ∙ sym (ap (last_or c) (append-nil (span_source renamed_pair))
      ∙ ap (λ t. last_or c (new_source ++ t)) same)

  -- so is white space that stays at the key's end
  pad_last : (c d : ℕ) (i k white : Text) → pad ≡ white ++ d ∷ [] → last_or c (i ++ (k ++ pad)) ≡ d
  pad_last c d i k white is =
      ap (λ t. last_or c (i ++ (k ++ t))) is
      ∙ ap (λ t. last_or c (i ++ t)) (sym (append_assoc k white (d ∷ [])))
      ∙ ap (last_or c) (sym (append_assoc i (k ++ white) (d ∷ []))) ∙ last_or_append c d (i ++ (k ++ white))

  lone_last : (c d : ℕ) (white : Text) → after_key_source p.stretches ≡ [] → pad ≡ white ++ d ∷ []
      → last_or c (pair_source p.stretches ++ []) ≡ last_or c (span_source renamed_pair ++ [])
  lone_last c d white none is =
      let alone : (k : Text) → (k ++ after_key_source p.stretches) ++ [] ≡ k = λ k.
      append-nil (k ++ after_key_source p.stretches) ∙ ap (λ t. k ++ t) none ∙ append-nil k in
      ap (last_or c) (alone p.stretches.key ∙ edges.whole) ∙ pad_last c d indent edges.own white is
      ∙ sym (ap (last_or c) (alone new_source) ∙ pad_last c d indent (escaped policy other) white is)

  -- the pair with the new key, and what follows it as it was
  new_pair : {c : ℕ} {r : Text} → IsPair o c p.stretches p.key p.value r
      → KeyFront o (c ∷ []) new_source (after_key_source p.stretches ++ r) other
      → IsPair o c (with_key new_source other p).stretches other p.value r
  new_pair {c} {r} (IsPair.has_value is) front = IsPair.has_value (record {
    separator = is.separator;
    separator_is = is.separator_is;
    key_front = KeyFront-alike Alike.same
        (subst (λ m. KeyFront o (c ∷ []) new_source
        ((separator_text m ++ value_source p.stretches) ++ r) other)
        is.separator_is front);
    some = plain.bare.some;
    separates = is.separates;
    gives = is.gives;
    white_before = is.white_before;
    starts = is.starts;
    white_after = is.white_after;
    are_trailing = is.are_trailing;
    own_lines = is.own_lines;
    note = is.note;
    closed = is.closed;
    unnoted = is.unnoted;
  })
  new_pair {c} {r} (IsPair.is_lone is) front = IsPair.is_lone (record {
    lone = record {
      may_be = is.lone.may_be;
      no_separator = is.lone.no_separator;
      nothing = is.lone.nothing;
      empty = is.lone.empty;
      next = is.lone.next;
    };
    key_front = subst (λ t. KeyFront o (c ∷ []) new_source (t ++ r) other)
        (ap (λ m. separator_text m ++ value_source p.stretches) is.lone.no_separator ∙ is.lone.nothing)
        front;
    some = plain.bare.some;
  })

  -- and that is read as before
  new_agrees : {c : ℕ} {r : Text} (x : Text) → r ≡ x → IsPair o c p.stretches p.key p.value r
      → Agree o (last_or c (pair_source p.stretches ++ []) ∷ [])
      (last_or c (span_source renamed_pair ++ []) ∷ []) x
  new_agrees {c} x same (IsPair.has_value is) = last_agrees (same_last c is.separator is.separator_is)
  new_agrees {c} {r} x same (IsPair.is_lone is) = at (ends_key is.key_front is.some edges)
    where
      at : EndsKey o pad r → Agree o (last_or c (pair_source p.stretches ++ []) ∷ [])
          (last_or c (span_source renamed_pair ++ []) ∷ []) x
      at (EndsKey.at_key_end closes) =
          closed_agrees x (subst (Closes plain_ends) same
          (closes_line r (subst (λ line. Closes (key_ends line) r) is.lone.may_be closes) is.lone.next))
      at (EndsKey.before_note white d is_pad note) =
          let none : after_key_source p.stretches ≡ [] =
          ap (λ m. separator_text m ++ value_source p.stretches) is.lone.no_separator ∙ is.lone.nothing in
          last_agrees (lone_last c d white none is_pad)

  pub spans_renamed : (front rest : List Span)
      → AreSpans o line_feed (front ++ (pair p.stretches p.key p.value ∷ rest)) []
      → AreSpans o line_feed (front ++ (renamed_pair ∷ rest)) []
  spans_renamed front rest h =
      let split = in_place-split span_source front (pair p.stretches p.key p.value ∷ rest) h in
      at split.0 split.1
    where
      c : ℕ
      c = last_or line_feed (joined span_source front)

      following : Text
      following = joined span_source rest

      at : AreSpans o line_feed front ((pair_source p.stretches ++ joined span_source rest) ++ [])
          → AreSpans o c (pair p.stretches p.key p.value ∷ rest) []
          → AreSpans o line_feed (front ++ (renamed_pair ∷ rest)) []
      at before (AreInPlace.more (IsSpan.is_pair is) later) =
          let key_front = key_front_of is in
          let place = in_place plain pad edges.white_pad (after_keys following)
          (ends_key key_front (some_key is) edges) indent key_front edges in
          let was = subst (AreSpans o line_feed front) (was_text following) before in
          let stays : AreSpans o line_feed front (new_source ++ after_keys following) = elim place.ahead [
            | inl alike ↦ in_place-before span_source spans_local (alike_begin alike) was
            | inr follows ↦ spans_ahead follows front key_front was
          ] in
          in_place-put span_source spans_local front (pair p.stretches p.key p.value ∷ [])
          (renamed_pair ∷ []) rest h
          (subst (AreSpans o line_feed front) (sym (is_text_new following)) stays)
          (AreInPlace.more (IsSpan.is_pair (new_pair is place.front)) AreInPlace.none)
          (new_agrees following (append-nil following) is)

-- what the document shows of it
renamed_keys : (key other source : Text) (ps : List PairPiece)
    → map given_pair (first_changed (λ p. is_text key p.key) (with_key source other) ps)
    ≡ key_renamed key other (map given_pair ps)
renamed_keys key other source ps =
    renamed_first (λ p. is_text key p.key) (is_text key) given_pair (λ p. refl) (with_key source other) other
    (λ p. refl) ps

pub key_replaced : (name : Option Text) (key other source : Text) (ss : List SectionPiece)
    → map given_section (pair_changed name key (with_key source other) ss)
    ≡ rename_key_in name key other (map given_section ss)
key_replaced name key other source ss =
    changed_first (λ s. is_name name s.name) (is_name name) given_section (λ s. refl)
    (key_changed key (with_key source other)) (key_renamed key other)
    (λ s. ap (λ ps. (s.name, ps)) (renamed_keys key other source s.pairs)) ss
    ∙ as_edit name (key_renamed key other) (map given_section ss)

-- the first pair of a key renamed in its section
pub key_put : {o : ParseOption} {policy : EscapePolicy} {other : Text} (key : Text) {s t : SectionPiece}
    {i : ℕ} {y z : PairPiece} → t ≡ s → IsFirstAt (λ p. is_text key p.key) t.pairs i → y ≡ get_or t.pairs i y
    → RenamesPair o policy y z other → RenamesKey o policy s (with_pairs t (set t.pairs i z)) key other
key_put {o} {policy} {other} key {s} {t} {i} {y} {z} same at is h =
    let f = with_key (h.indent ++ (escaped policy other ++ h.pad)) other in
    let there : at.found ≡ y = stands_there (λ p. is_text key p.key) at is in
    subst (λ s. RenamesKey o policy s (with_pairs t (set t.pairs i z)) key other) same
    (record {
      pair = at.found;
      was = at.fitting;
      indent = h.indent;
      pad = h.pad;
      edges = subst (λ p. HasEdges o p.stretches.key h.indent h.pad) (sym there) h.edges;
      is = ap (with_pairs t) (ap (set t.pairs i) (h.is ∙ ap f (sym there)) ∙ at.changed f);
    })

-- and in the first section of the name
module _ {o : ParseOption} {policy : EscapePolicy} {other : Text} (plain : IsPlainBareKey o policy other)
    (name : Option Text) (key : Text) (ss : List SectionPiece) {i : ℕ}
    (at : IsFirstAt (λ s. is_name name s.name) ss i) (new : SectionPiece) where
  pub sections_renamed : (found : Bool) → RenamesIn o policy at.found new key other found → AreSections o ss
      → AreSections o (set ss i new)
  sections_renamed true h are =
      let f = with_key (h.indent ++ (escaped policy other ++ h.pad)) other in
      subst (AreSections o) (sym (changed_sections name key ss at new (key_changed key f) h.is))
      (sections_put name key f h.pair refl (spans_renamed plain h.pair h.edges) ss
      (found_there name key ss at new h.was) are)
  sections_renamed false h are = subst (AreSections o) (sym (same_sections name key ss at new h.0)) are

  abbrev pieces : List SectionPiece → Pieces
  pieces l = record { option = o; sections = l }

  pub pieces_renamed : (found : Bool) → RenamesIn o policy at.found new key other found
      → RenamesKeyIn o policy (pieces ss) (pieces (set ss i new)) name key other found
  pieces_renamed true h =
      let source = h.indent ++ (escaped policy other ++ h.pad) in
      let is = changed_sections name key ss at new (key_changed key (with_key source other)) h.is in
      record {
        pair = h.pair;
        was = found_there name key ss at new h.was;
        indent = h.indent;
        pad = h.pad;
        edges = h.edges;
        option = refl;
        sections = is;
        document = ap (map given_section) is ∙ key_replaced name key other source ss;
      }
  pieces_renamed false h = (
    ap pieces (same_sections name key ss at new h.0),
    no_value name key ss (found_there name key ss at new h.1),
  )

-- after another header the rest is read as before
header_agrees : {o : ParseOption} {s r z name blanks : Text} (c : ℕ) (t : Text) → StayBehind s r blanks
    → IsHeader o s r name → r ≡ z
    → Agree o (last_or c s ∷ []) (last_or c ((open_bracket ∷ (t ++ close_bracket ∷ [])) ++ blanks) ∷ []) z
header_agrees {r = r} {blanks = blanks} c t stay (IsHeader.plain {s = s} off str) same =
    last_agrees (last_or-append open_bracket s (close_bracket ∷ [])
    ∙ sym (ap (λ w. last_or open_bracket ((t ++ close_bracket ∷ []) ++ w))
    (plain_bare (open_bracket ∷ s) r blanks stay)
    ∙ ap (last_or open_bracket) (append-nil (t ++ close_bracket ∷ []))
    ∙ last_or-append open_bracket t (close_bracket ∷ [])))
header_agrees {o} {z = z} {blanks = blanks} c t stay (IsHeader.bracketed on str i) same =
    at stay (name_ends str) same
  where
    new : Text
    new = open_bracket ∷ (t ++ close_bracket ∷ [])

    at : {s r v : Text} → StayBehind (open_bracket ∷ s) r blanks → NameEnds o s r v → r ≡ z
        → Agree o (last_or c (open_bracket ∷ s) ∷ []) (last_or c (new ++ blanks) ∷ []) z
    at {s} {r} stay (NameEnds.closed row closes) same =
        subst (Agree o (last_or c (open_bracket ∷ s) ∷ []) (last_or c (new ++ blanks) ∷ [])) same
        (closed_agrees r (plain_closes r closes))
    at stay (NameEnds.before {s} d row notes raw blank mark) same =
        last_agrees (last_or_append c d (open_bracket ∷ s)
        ∙ sym (last_or-append c new blanks ∙ ap (last_or (last_or c new)) (stay.behind mark)
        ∙ blanks_last (open_bracket ∷ s) d (last_or c new) blank))

-- headers begin alike
headers_begin : (s t r : Text) → BeginsWith (λ c. c == open_bracket) s
    → BeginAlike ((s ++ []) ++ r) (((open_bracket ∷ t) ++ []) ++ r)
headers_begin [] t r h = absurd (false≢true (sym h))
headers_begin (c ∷ s) t r h =
    subst (λ z. BeginAlike ((z ∷ (s ++ [])) ++ r) (((open_bracket ∷ t) ++ []) ++ r)) (sym
    (eqb-true c open_bracket h)) BeginAlike.character

module _ {o : ParseOption} (policy : EscapePolicy) (other : Text) (plain : IsPlainName o policy other) where
  -- the header of a section, before such blanks
  abbrev named : Text → Span
  named blanks = opening (Some other) (header_of policy other ++ blanks)

  header_put : (old header blanks : Text) (front rest : List Span)
      → (AreSpans o (last_or (last_or line_feed (joined span_source front)) header) rest []
      → StayBehind header (joined span_source rest ++ []) blanks)
      → AreSpans o line_feed (front ++ (opening (Some old) header ∷ rest)) []
      → AreSpans o line_feed (front ++ (named blanks ∷ rest)) []
  header_put old header blanks front rest stay h =
      at (in_place-split span_source front (opening (Some old) header ∷ rest) h).1
    where
      c : ℕ
      c = last_or line_feed (joined span_source front)

      following : Text
      following = joined span_source rest

      at : AreSpans o c (opening (Some old) header ∷ rest) []
          → AreSpans o line_feed (front ++ (named blanks ∷ rest)) []
      at (AreInPlace.more (IsSpan.header e) later) =
          let new = header_of policy other ++ blanks in
          in_place-exchanged span_source spans_local front (opening (Some old) header ∷ [])
          (named blanks ∷ []) rest h
          (AreInPlace.more (IsSpan.header (header_anew policy other plain (stay later) (as_header e)))
          AreInPlace.none)
          (headers_begin header ((escaped policy other ++ close_bracket ∷ []) ++ blanks) (following ++ [])
          (header_bracket (as_header e)))
          (subst (λ t. Agree o (last_or c t ∷ []) (last_or c (new ++ []) ∷ []) following)
          (sym (append-nil header))
          (subst (λ t. Agree o (last_or c header ∷ []) (last_or c t ∷ []) following) (sym (append-nil new))
          (header_agrees c (escaped policy other) (stay later) (as_header e) (append-nil following))))

  -- the blanks before a note stay
  stay_behind : {c : ℕ} (s : SectionPiece) (rest : List SectionPiece)
      → list_all (λ t. is_some t.name) rest ≡ true
      → AreSpans o c (gap s.after ∷ (pairs_spans s.pairs ++ sections_spans rest)) []
      → StayBehind s.header
      (joined span_source (gap s.after ∷ (pairs_spans s.pairs ++ sections_spans rest)) ++ [])
      (blanks_before_note s)
  stay_behind {c} s rest has (AreInPlace.more is later) =
      at s.after (unmarked_after s.pairs rest has later)
    where
      x : Text
      x = joined span_source (pairs_spans s.pairs ++ sections_spans rest)

      no_mark : (y : Text) → BeginsWithNo is_comment_mark y → begins is_comment_mark y ≡ false
      no_mark [] none = refl
      no_mark (c ∷ y) none = none

      at : (a : Text) → BeginsWithNo is_comment_mark (x ++ [])
          → StayBehind s.header ((a ++ x) ++ [])
          (if begins is_comment_mark a then blanks_at_end s.header else [])
      at [] none = record {
        behind = λ mark. absurd (both_ways (begins is_comment_mark (x ++ [])) (no_mark (x ++ []) none) mark);
        bare = λ other. refl;
      }
      at (d ∷ a) none = record {
        behind = λ mark. cond-true (is_comment_mark d) _ _ mark;
        bare = λ other. cond-false (is_comment_mark d) _ _ other;
      }

  -- and the sections
  begin-named : (ss : List SectionPiece) (s t : SectionPiece) (rest : List SectionPiece) {old : Text}
      → s.name ≡ Some old → t.name ≡ Some other → BeginGeneral (ss ++ s ∷ rest)
      → BeginGeneral (ss ++ t ∷ rest)
  begin-named [] s t rest {old} was is h = absurd (let no : None ≡ Some old = sym h.0 ∙ was in cc)
  begin-named (u ∷ ss) s t rest was is h = (
    h.0,
    list_all-append (λ v. is_some v.name) ss (t ∷ rest)
        ∙ ap (λ n. list_all (λ v. is_some v.name) ss && (is_some n && list_all (λ v. is_some v.name) rest))
        is
        ∙ ap (λ n. list_all (λ v. is_some v.name) ss && (is_some n && list_all (λ v. is_some v.name) rest))
        (sym was)
        ∙ sym (list_all-append (λ v. is_some v.name) ss (s ∷ rest)) ∙ h.1,
  )

  pub sections_named : (old : Text) (ss : List SectionPiece) (s : SectionPiece)
      → first_fitting (λ s. is_name (Some old) s.name) ss ≡ Some s → AreSections o ss
      → AreSections o (first_changed (λ s. is_name (Some old) s.name)
      (with_header (header_of policy other) other) ss)
  sections_named old ss s found h =
      let f = with_header (header_of policy other) other in
      let x = first_stands (λ s. is_name (Some old) s.name) ss s found in
      let named_so : s.name ≡ Some old = sym (names_equal (Some old) s.name x.fits) in
      let after = gap s.after ∷ (pairs_spans s.pairs ++ sections_spans x.rest) in
      let before = sections_spans x.before in
      let was : sections_spans ss ≡ before ++ (opening (Some old) s.header ∷ after) =
      ap sections_spans x.whole ∙ sections_spans-append x.before (s ∷ x.rest)
      ∙ ap (λ n. before ++ (opening n s.header ∷ after)) named_so in
      record {
        begin_general = subst BeginGeneral (sym (x.changed f))
            (begin-named x.before s (f s) x.rest named_so refl (subst BeginGeneral x.whole h.begin_general));
        spans = subst (λ xs. AreSpans o line_feed xs [])
            (sym (ap sections_spans (x.changed f) ∙ sections_spans-append x.before (f s ∷ x.rest)))
            (header_put old s.header (blanks_before_note s) before after
            (stay_behind s x.rest
            (names_after x.before s x.rest (subst BeginGeneral x.whole h.begin_general)))
            (subst (λ xs. AreSpans o line_feed xs []) was h.spans));
      }

  -- and what the document shows of them
  pub name_replaced : (old : Text) (ss : List SectionPiece)
      → map given_section (first_changed (λ s. is_name (Some old) s.name)
      (with_header (header_of policy other) other) ss)
      ≡ section_renamed (Some old) (Some other) (map given_section ss)
  name_replaced old ss =
      renamed_first (λ s. is_name (Some old) s.name) (is_name (Some old)) given_section (λ s. refl)
      (with_header (header_of policy other) other) (Some other) (λ s. refl) ss

-- one pair: its key is written anew
pub pair_renamed : {o : ParseOption} {policy : EscapePolicy} {other : Text} {p q : PairPiece}
    {indent pad source new : Text} → q ≡ p → HasEdges o q.stretches.key indent pad
    → source ≡ indent ++ (escaped policy other ++ pad) → new ≡ other
    → RenamesPair o policy p (with_key source new q) other
pair_renamed {o} {policy} {other} {q = q} {indent} {pad} {source} {new} same edges written is =
    subst (λ p. RenamesPair o policy p (with_key source new q) other) same
    (record {
      indent = indent;
      pad = pad;
      edges = edges;
      is = ap (λ s. with_key s new q) written
          ∙ ap (λ k. with_key (indent ++ (escaped policy other ++ pad)) k q) is;
    })

-- the first section of the name has another one
module _ {o : ParseOption} {policy : EscapePolicy} {other : Text} (plain : IsPlainName o policy other)
    (old : Text) (ss : List SectionPiece) {i : ℕ} (at : IsFirstAt (λ s. is_name (Some old) s.name) ss i)
    {y new : SectionPiece} (is : y ≡ get_or ss i y)
    (written : new ≡ with_header (header_of policy other) other y) where
  named_is : set ss i new ≡ first_changed (λ s. is_name (Some old) s.name)
      (with_header (header_of policy other) other) ss
  named_is =
      let f = with_header (header_of policy other) other in
      let there = stands_there (λ s. is_name (Some old) s.name) at is in
      ap (set ss i) (written ∙ ap f (sym there)) ∙ at.changed f

  pub sections_after_name : AreSections o ss → AreSections o (set ss i new)
  sections_after_name are = subst (AreSections o) (sym named_is)
      (sections_named policy other plain old ss at.found at.fitting are)

  pub pieces_named : RenamesNameIn policy (record { option = o; sections = ss })
      (record { option = o; sections = set ss i new }) old other true
  pieces_named = record {
    section = at.found;
    was = at.fitting;
    option = refl;
    sections = named_is;
    document = ap (map given_section) named_is ∙ name_replaced policy other plain old ss;
  }
