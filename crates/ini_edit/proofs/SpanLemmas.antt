-- The spans of a text in pieces: where they stand depends on one character on each side; and the elements,
-- the items and the document that they make.
use Rattle.std.proofs.Common.{◌≡◌, ◌∙◌, ℕ, true, List, [], ◌∷◌, ◌++◌, refl, sym, ap, subst, subst₂, map}
use Rattle.std.proofs.Common.{None, Option, Some, append_assoc, append-nil}
use Rattle.std.proofs.lemmas.Bool.{and_parts, false≢true}
use Rattle.std.specs.List.{list_all}
use Rattle.std.specs.Prelude.{is_some}
use Rattle.ini_text.specs.Grammar.CharacterKinds.{line_feed}
use Rattle.ini_text.specs.Grammar.Elements.{Given, Header, Pair, Element}
use Rattle.ini_text.specs.Grammar.Pieces.{ArePieces, Piece, pieces_items, pieces_text}
use Rattle.ini_text.specs.Grammar.Keys.{KeyFront}
use Rattle.ini_text.specs.Grammar.Lines.{LineTail, LineText, Quoted}
use Rattle.ini_text.specs.Grammar.Places.{IsLone, OwnLines, Stretches, TrailingLines, after_key_source}
use Rattle.ini_text.specs.Grammar.Places.{pair_source, separator_text, value_source}
use Rattle.ini_text.specs.Grammar.Positions.{last_or}
use Rattle.ini_text.specs.Grammar.Strings.{Row, Str}
use Rattle.ini_text.specs.Grammar.Texts.{Reads}
use Rattle.ini_text.specs.Grammar.Values.{Value}
use Rattle.ini_text.specs.Laws.PieceLaws.{Agree, BeginAlike}
use Rattle.ini_text.specs.declared.option.ParseOption.{ParseOption}
use Rattle.ini_text.proofs.LawLemmas.LocalLemmas.{Agree-front, BeginAlike-after, Element-before}
use Rattle.ini_text.proofs.LawLemmas.LocalLemmas.{Element-like, KeyFront-like}
use Rattle.ini_text.proofs.LawLemmas.OneAheadLemmas.{Alike, Alike-after, KeyFront-alike, LineEnd-alike}
use Rattle.ini_text.proofs.LawLemmas.OneAheadLemmas.{LineTail-alike, MoreLines-alike, Value-alike}
use Rattle.ini_text.proofs.LawLemmas.PieceLemmas.{pieces_before, pieces_items-append, pieces_join}
use Rattle.ini_text.proofs.LawLemmas.PieceLemmas.{pieces_like, pieces_read, pieces_text-append}
use Rattle.ini.specs.Documents.{document_of}
use Rattle.ini.specs.Loading.{IsDocumentOf}
use Rattle.ini.specs.SectionItems.{items_of, name_items, pair_items}
use Rattle.ini.specs.Texts.{Text}
use Rattle.ini.proofs.PlainTextLemmas.{HasNames, items_make}
use Rattle.ini_edit.specs.Inside.InPlace.{AreInPlace, IsLocal}
use Rattle.ini_edit.specs.Inside.Quotes.{IsOwnSource}
use Rattle.ini_edit.specs.Inside.Spans.{AreSections, AreSpans, BeginGeneral, IsPair, IsSpan, Span, opening}
use Rattle.ini_edit.specs.Inside.Spans.{pair, gap, pairs_spans, section_spans, sections_spans, span_source}
use Rattle.ini_edit.specs.Sources.{PairPiece, SectionPiece, given_pair, given_section, joined}
use Rattle.ini_edit.specs.Sources.{pairs_text, sections_text}
use Rattle.ini_edit.proofs.InPlaceLemmas.{joined-append}
use Rattle.ini_edit.proofs.OwnBeforeLemmas.{own_before}
use Rattle.ini_edit.proofs.PairViewLemmas.{lone_parts}

tail_before : {n r x : Text} → BeginAlike r x → LineTail n r → LineTail n x
tail_before BeginAlike.empty g = g
tail_before BeginAlike.character g = LineTail-alike Alike.same g

module _ {o : ParseOption} where
  Value-before : {s r v x : Text} → BeginAlike r x → Value o s r v → Value o s x v
  Value-before BeginAlike.empty g = g
  Value-before BeginAlike.character g = Value-alike Alike.same g

  TrailingLines-before : {t r x : Text} → BeginAlike r x → TrailingLines o t r → TrailingLines o t x
  TrailingLines-before BeginAlike.empty g = g
  TrailingLines-before BeginAlike.character (TrailingLines.line off h) = TrailingLines.line off h
  TrailingLines-before BeginAlike.character (TrailingLines.lines {t = t} on end more all) =
      TrailingLines.lines on (LineEnd-alike (Alike-after t Alike.same) end)
      (MoreLines-alike Alike.same more) all

  -- a key alone has no more source
  pub lone_source : {p : Stretches} {r value : Text} → IsLone o p r value → pair_source p ≡ p.key
  lone_source {p} h =
      ap (λ m. p.key ++ (separator_text m ++ value_source p)) h.no_separator
      ∙ ap (λ t. p.key ++ t) h.nothing ∙ append-nil p.key

  lone_before : {p : Stretches} {r x value : Text} → BeginAlike r x → IsLone o p r value
      → IsLone o p x value
  lone_before BeginAlike.empty h = h
  lone_before BeginAlike.character h = record {
    may_be = h.may_be;
    no_separator = h.no_separator;
    nothing = h.nothing;
    empty = h.empty;
    next = h.next;
  }

  key_before : {b k r x key : Text} → BeginAlike r x → KeyFront o b k r key → KeyFront o b k x key
  key_before BeginAlike.empty front = front
  key_before BeginAlike.character front = KeyFront-alike Alike.same front

  pair_element : {c : ℕ} {p : Stretches} {key value r : Text} → IsPair o c p key value r
      → Element o (c ∷ []) (pair_source p) r (Pair key value ∷ [])
  pair_element {c} {p} {key} {value} {r} (IsPair.has_value h) =
      subst (λ m. Element o (c ∷ []) (p.key ++ (separator_text m ++ value_source p)) r (Pair key value ∷ []))
      (sym h.separator_is)
      (Element.pair (KeyFront-alike Alike.same h.key_front) h.some h.separates h.gives)
  pair_element {c} {p} {key} {value} {r} (IsPair.is_lone h) =
      subst₂ (λ s v. Element o (c ∷ []) s r (Pair key v ∷ [])) (sym (lone_source h.lone)) (sym h.lone.empty)
      (Element.lone_key h.lone.may_be h.key_front h.some h.lone.next)

  -- an empty source is a line
  empty_lines : OwnLines o ([] ++ []) []
  empty_lines = OwnLines.first (LineText.text Quoted.none (λ on. tt) (Str.closed Row.none refl))

  pub own_source : {c : ℕ} {p : Stretches} {key value r : Text} → IsPair o c p key value r
      → IsOwnSource o p.raw_value
  own_source {p = p} {r = r} (IsPair.has_value h) =
      record { space_after = p.space_after; rest = p.note ++ (p.trailing_lines ++ r); lines = h.own_lines }
  own_source {p = p} (IsPair.is_lone h) = record {
    space_after = [];
    rest = [];
    lines = subst (λ t. OwnLines o (t ++ []) []) (sym (lone_parts h.lone).raw_value) empty_lines;
  }

  span_like : {c d : ℕ} {x : Span} {r : Text} → Agree o (c ∷ []) (d ∷ []) (span_source x) → IsSpan o c x r
      → IsSpan o d x r
  span_like a IsSpan.general = IsSpan.general
  span_like a (IsSpan.header e) = IsSpan.header (Element-like a e)
  span_like a (IsSpan.is_pair {p = p} (IsPair.has_value h)) = IsSpan.is_pair (IsPair.has_value (record {
    separator = h.separator;
    separator_is = h.separator_is;
    key_front = KeyFront-like (Agree-front (after_key_source p) a) h.key_front;
    some = h.some;
    separates = h.separates;
    gives = h.gives;
    white_before = h.white_before;
    starts = h.starts;
    white_after = h.white_after;
    are_trailing = h.are_trailing;
    own_lines = h.own_lines;
    note = h.note;
    closed = h.closed;
    unnoted = h.unnoted;
  }))
  span_like a (IsSpan.is_pair {p = p} (IsPair.is_lone h)) = IsSpan.is_pair (IsPair.is_lone (record {
    lone = h.lone;
    key_front = KeyFront-like (Agree-front (after_key_source p) a) h.key_front;
    some = h.some;
  }))
  span_like {c} {d} a (IsSpan.is_gap h) = IsSpan.is_gap (record {
    pieces = h.pieces;
    whole = h.whole;
    nothing = h.nothing;
    are = pieces_like (subst (Agree o (c ∷ []) (d ∷ [])) h.whole a) h.are;
  })

  pub span_before : {c : ℕ} {x : Span} {r y : Text} → BeginAlike r y → IsSpan o c x r → IsSpan o c x y
  span_before a IsSpan.general = IsSpan.general
  span_before a (IsSpan.header e) = IsSpan.header (Element-before a e)
  span_before a (IsSpan.is_pair {p = p} (IsPair.has_value h)) = IsSpan.is_pair (IsPair.has_value (record {
    separator = h.separator;
    separator_is = h.separator_is;
    key_front = h.key_front;
    some = h.some;
    separates = h.separates;
    gives = Value-before a h.gives;
    white_before = h.white_before;
    starts = h.starts;
    white_after = h.white_after;
    are_trailing = TrailingLines-before a h.are_trailing;
    own_lines = own_before (BeginAlike-after p.note (BeginAlike-after p.trailing_lines a)) h.own_lines;
    note = tail_before (BeginAlike-after p.trailing_lines a) h.note;
    closed = h.closed;
    unnoted = h.unnoted;
  }))
  span_before a (IsSpan.is_pair (IsPair.is_lone h)) = IsSpan.is_pair (IsPair.is_lone (record {
    lone = lone_before a h.lone;
    key_front = key_before a h.key_front;
    some = h.some;
  }))
  span_before a (IsSpan.is_gap h) = IsSpan.is_gap (record {
    pieces = h.pieces;
    whole = h.whole;
    nothing = h.nothing;
    are = pieces_before a h.are;
  })

  pub spans_local : IsLocal span_source (IsSpan o) o
  spans_local = record {
    front = λ c d x r a h. span_like a h;
    follows = λ c x r other a h. span_before a h;
  }

-- what spans give
abbrev span_items : Span → List Given
span_items (opening None source) = []
span_items (opening (Some name) source) = Header name ∷ []
span_items (pair p key value) = Pair key value ∷ []
span_items (gap source) = []

abbrev pub spans_items : List Span → List Given
spans_items [] = []
spans_items (x ∷ xs) = span_items x ++ spans_items xs

spans_items-append : (xs ys : List Span) → spans_items (xs ++ ys) ≡ spans_items xs ++ spans_items ys
spans_items-append [] ys = refl
spans_items-append (x ∷ xs) ys = ap (λ l. span_items x ++ l) (spans_items-append xs ys)
    ∙ sym (append_assoc (span_items x) (spans_items xs) (spans_items ys))

-- the elements of a source that gives items
pub record AreElements (o : ParseOption) (c : ℕ) (source : Text) (items : List Given) (r : Text)
    : Type 0 where
  pub pieces : List Piece
  pub text : source ≡ pieces_text pieces
  pub gives : items ≡ pieces_items pieces
  pub are : ArePieces o c pieces r

module _ {o : ParseOption} where
  one_element : {c : ℕ} {s r : Text} {items : List Given} → Element o (c ∷ []) s r items
      → AreElements o c s items r
  one_element {s = s} {items = items} e = record {
    pieces = record { source = s; gives = items } ∷ [];
    text = sym (append-nil s);
    gives = sym (append-nil items);
    are = ArePieces.more e ArePieces.none;
  }

  span_elements : {c : ℕ} {x : Span} {r : Text} → IsSpan o c x r
      → AreElements o c (span_source x) (span_items x) r
  span_elements IsSpan.general = record { pieces = []; text = refl; gives = refl; are = ArePieces.none }
  span_elements (IsSpan.header e) = one_element e
  span_elements (IsSpan.is_pair h) = one_element (pair_element h)
  span_elements (IsSpan.is_gap h) =
      record { pieces = h.pieces; text = h.whole; gives = sym h.nothing; are = h.are }

  pub spans_elements : {c : ℕ} {xs : List Span} {r : Text} → AreSpans o c xs r
      → AreElements o c (joined span_source xs) (spans_items xs) r
  spans_elements AreInPlace.none = record { pieces = []; text = refl; gives = refl; are = ArePieces.none }
  spans_elements {c} {r = r} (AreInPlace.more {x = x} {xs = xs} h rest) =
      let one = span_elements h in
      let more = spans_elements rest in
      record {
        pieces = one.pieces ++ more.pieces;
        text = ap (λ t. t ++ joined span_source xs) one.text ∙ ap (λ t. pieces_text one.pieces ++ t) more.text
            ∙ sym (pieces_text-append one.pieces more.pieces);
        gives = ap (λ l. l ++ spans_items xs) one.gives ∙ ap (λ l. pieces_items one.pieces ++ l) more.gives
            ∙ sym (pieces_items-append one.pieces more.pieces);
        are = pieces_join one.pieces more.pieces
            (subst (λ t. ArePieces o c one.pieces (t ++ r)) more.text one.are)
            (subst (λ t. ArePieces o (last_or c t) more.pieces r) one.text more.are);
      }

  -- spans at a text's front are its elements there
  pub spans_read : {T : Text} (xs : List Span) {r : Text} → AreSpans o line_feed xs r
      → T ≡ joined span_source xs ++ r → Reads o T [] (spans_items xs) (joined span_source xs)
  spans_read {T} xs {r} h whole =
      let all = spans_elements h in
      subst (λ l. Reads o T [] l (joined span_source xs)) (sym all.gives)
      (subst (Reads o T [] (pieces_items all.pieces)) (sym all.text)
      (pieces_read [] all.pieces all.are (whole ∙ ap (λ t. t ++ r) all.text)))

-- the text of sections is that of their spans
pub pairs_joined : (ps : List PairPiece) → joined span_source (pairs_spans ps) ≡ pairs_text ps
pairs_joined [] = refl
pairs_joined (p ∷ ps) = ap (λ t. pair_source p.stretches ++ (p.after ++ t)) (pairs_joined ps)
    ∙ sym (append_assoc (pair_source p.stretches) p.after (pairs_text ps))

pub sections_joined : (ss : List SectionPiece) → joined span_source (sections_spans ss) ≡ sections_text ss
sections_joined [] = refl
sections_joined (s ∷ ss) =
    joined-append span_source (section_spans s) (sections_spans ss)
    ∙ ap (λ t. (s.header ++ (s.after ++ t)) ++ joined span_source (sections_spans ss)) (pairs_joined s.pairs)
    ∙ ap (λ t. (s.header ++ (s.after ++ pairs_text s.pairs)) ++ t) (sections_joined ss)

-- and what they give are the items of the document
pairs_give : (ps : List PairPiece) → spans_items (pairs_spans ps) ≡ pair_items (map given_pair ps)
pairs_give [] = refl
pairs_give (p ∷ ps) = ap (λ l. Pair p.key p.value ∷ l) (pairs_give ps)

section_gives : (s : SectionPiece) → spans_items (section_spans s)
    ≡ name_items s.name ++ pair_items (map given_pair s.pairs)
section_gives s = at s.name
  where
    at : (name : Option Text) → span_items (opening name s.header) ++ spans_items (pairs_spans s.pairs)
        ≡ name_items name ++ pair_items (map given_pair s.pairs)
    at None = pairs_give s.pairs
    at (Some name) = ap (λ l. Header name ∷ l) (pairs_give s.pairs)

sections_give : (ss : List SectionPiece) → spans_items (sections_spans ss) ≡ items_of (map given_section ss)
sections_give [] = refl
sections_give (s ∷ ss) =
    spans_items-append (section_spans s) (sections_spans ss)
    ∙ ap (λ l. l ++ spans_items (sections_spans ss)) (section_gives s)
    ∙ ap (λ l. (name_items s.name ++ pair_items (map given_pair s.pairs)) ++ l) (sections_give ss)

names_there : (ss : List SectionPiece) → list_all (λ s. is_some s.name) ss ≡ true
    → HasNames (map given_section ss)
names_there [] h = tt
names_there (s ∷ ss) h = at s.name (and_parts (is_some s.name) (list_all (λ t. is_some t.name) ss) h)
    (names_there ss)
  where
    at : (name : Option Text)
        → (is_some name ≡ true) × (list_all (λ t. is_some t.name) ss ≡ true)
        → (list_all (λ t. is_some t.name) ss ≡ true → HasNames (map given_section ss))
        → HasNames ((name, map given_pair s.pairs) ∷ map given_section ss)
    at None h rest = absurd (false≢true h.0)
    at (Some name) h rest = rest h.1

pub sections_document : (ss : List SectionPiece) → BeginGeneral ss
    → map given_section ss ≡ document_of (spans_items (sections_spans ss))
sections_document [] h = absurd h
sections_document (s ∷ ss) h =
    sym (ap document_of (sections_give (s ∷ ss))
    ∙ ap (λ n. document_of (items_of ((n, map given_pair s.pairs) ∷ map given_section ss))) h.0
    ∙ items_make (map given_pair s.pairs) (map given_section ss) (names_there ss h.1)
    ∙ ap (λ n. (n, map given_pair s.pairs) ∷ map given_section ss) (sym h.0))

-- a text whose sections they are loads as their document
pub sections_load : {o : ParseOption} (ss : List SectionPiece) → AreSections o ss
    → IsDocumentOf o (sections_text ss) (map given_section ss)
sections_load {o} ss h =
    let xs = sections_spans ss in
    let items = spans_items xs in
    let text = sections_joined ss in
    record {
      items = items;
      derives = subst (λ t. Reads o t [] items t) text
          (spans_read xs h.spans (sym (append-nil (joined span_source xs))));
      document = sections_document ss h.begin_general;
    }
