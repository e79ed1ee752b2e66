-- A pair's value set in a text in pieces.
use Rattle.std.proofs.Common.{◌≡◌, ◌∙◌, ◌≤◌, ℕ, true, false, cond, List, [], ◌∷◌, ◌++◌, append_assoc}
use Rattle.std.proofs.Common.{append-nil, arith, length, map, set, None, Option, Some, ap, refl, sym, subst}
use Rattle.std.proofs.lemmas.Bool.{both_ways, false≢true}
use Rattle.std.proofs.lemmas.List.{set-get_or}
use Rattle.std.proofs.lemmas.List.Elements.{All-cons, All-nil}
use Rattle.std.specs.List.{All}
use Rattle.std.specs.Option.{option_map}
use Rattle.std.specs.Prelude.{is_some, option_and_then}
use Rattle.ini_text.specs.Grammar.CharacterKinds.{is_blank, is_comment_mark, line_feed}
use Rattle.ini_text.specs.Grammar.Places.{Stretches, TrailingLines, pair_source, separator_text}
use Rattle.ini_text.specs.Grammar.Positions.{last_or, is_column_one, starts_line}
use Rattle.ini_text.specs.Grammar.Strings.{Closes, plain_ends}
use Rattle.ini_text.specs.Grammar.Values.{LineEnd}
use Rattle.ini_text.specs.Laws.PieceLaws.{Agree, BeginAlike}
use Rattle.ini_text.specs.declared.option.ParseOption.{ParseOption}
use Rattle.ini_text.proofs.GrammarLemmas.KindLemmas.{line_end_no_blank}
use Rattle.ini_text.proofs.LawLemmas.PieceLemmas.{last_or-append}
use Rattle.ini_text.proofs.ReaderLemmas.KeyReaderLemmas.{KeyFront-some}
use Rattle.ini.specs.Documents.{Document, value_in}
use Rattle.ini.specs.Edits.{edit_section}
use Rattle.ini.specs.Properties.{Pairs, first_value}
use Rattle.ini.specs.Texts.{Text, is_name, is_text}
use Rattle.ini_edit.specs.Inside.InPlace.{AreInPlace}
use Rattle.ini_edit.specs.Inside.Spans.{AreSections, AreSpans, BeginGeneral, IsLonePair, IsPair, IsSpan, Span}
use Rattle.ini_edit.specs.Inside.Spans.{IsValuePair, opening, pair, gap, pairs_spans, sections_spans}
use Rattle.ini_edit.specs.Inside.Spans.{span_source}
use Rattle.ini_edit.specs.Inside.Quotes.{IsOwnSource}
use Rattle.ini_edit.specs.Inside.SourceSteps.{HaveOwnSources, IsFirstAt}
use Rattle.ini_edit.specs.SourceEdits.{first_changed, first_fitting, key_changed, pair_changed}
use Rattle.ini_edit.specs.SourceEdits.{pair_in, pair_of_key, with_pairs, with_value}
use Rattle.ini_edit.specs.Sources.{PairPiece, SectionPiece, given_pair, given_section, has_separator, joined}
use Rattle.ini_edit.proofs.FirstLemmas.{entry_changed, first_stands, lookup_first}
use Rattle.ini_edit.proofs.InPlaceLemmas.{in_place-exchanged, in_place-split}
use Rattle.ini_edit.proofs.QuietLemmas.{line_end_no_mark}
use Rattle.ini_edit.proofs.SourceReadLemmas.{begin-same, pairs_spans-append, sections_spans-append}
use Rattle.ini_edit.proofs.SpanLemmas.{own_source, spans_local}
use Rattle.ini_edit.proofs.ValueLemmas.{closes_line_end}

-- before nothing all fronts agree
pub before_nothing : {o : ParseOption} {b c : Text} → Agree o b c []
before_nothing = record {
  line = λ h. absurd (false≢true (sym h));
  column = λ h. absurd (false≢true (sym h));
  comment = λ _ h. absurd (false≢true (sym h));
}

-- and before what closes a line
pub closed_agrees : {o : ParseOption} {b c : Text} (x : Text) → Closes plain_ends x → Agree o b c x
closed_agrees [] h = before_nothing
closed_agrees (d ∷ x) h = record {
  line = λ b. absurd (both_ways (is_blank d) (line_end_no_blank d (closes_line_end d h)) b);
  column = λ b. absurd (both_ways (is_comment_mark d) (line_end_no_mark d (closes_line_end d h)) b);
  comment = λ _ b. absurd (both_ways (is_comment_mark d) (line_end_no_mark d (closes_line_end d h)) b);
}

-- fronts whose last characters are the same agree
pub last_agrees : {o : ParseOption} {c d : ℕ} {x : Text} → c ≡ d → Agree o (c ∷ []) (d ∷ []) x
last_agrees last = record {
  line = λ _. ap (λ z. starts_line (z ∷ [])) last;
  column = λ _. ap (λ z. is_column_one (z ∷ [])) last;
  comment = λ _ _. ap (λ z. starts_line (z ∷ [])) last;
}

-- what ends a value is read as before, whatever stands before the value's tail
tail_agrees : (c : ℕ) {o : ParseOption} {t x r : Text} (u v : Text) → x ≡ r → TrailingLines o t x
    → Agree o (last_or c (u ++ t) ∷ []) (last_or c (v ++ t) ∷ []) r
tail_agrees c {o} u v same (TrailingLines.line {r = x} off closes) =
    subst (Agree o (last_or c (u ++ []) ∷ []) (last_or c (v ++ []) ∷ [])) same (closed_agrees x closes)
tail_agrees c {o} u v same (TrailingLines.end on) =
    subst (Agree o (last_or c (u ++ []) ∷ []) (last_or c (v ++ []) ∷ [])) same before_nothing
tail_agrees c u v same (TrailingLines.lines {e} {t} on end more all) =
    last_agrees (ends c u v t end)
  where
    ends : (c : ℕ) (u v t : Text) {e x : Text} → LineEnd e x
        → last_or c (u ++ (e ++ t)) ≡ last_or c (v ++ (e ++ t))
    ends c u v t {e} end = last_or-append c u (e ++ t) ∙ at end ∙ sym (last_or-append c v (e ++ t))
      where
        at : {e x : Text} → LineEnd e x → last_or (last_or c u) (e ++ t) ≡ last_or (last_or c v) (e ++ t)
        at LineEnd.lf = refl
        at LineEnd.cr_lf = refl
        at (LineEnd.cr n) = refl

-- keys that are the same begin alike
pub keys_begin : (k x y r s : Text) → 1 ≤ length k → BeginAlike (((k ++ x) ++ []) ++ r) (((k ++ y) ++ []) ++ s)
keys_begin [] x y r s some = absurd (omega (arith, some))
keys_begin (c ∷ k) x y r s some = BeginAlike.character

-- a pair's source is what stands before its tail, and that
abbrev pub before_tail : Stretches → Text
before_tail p =
    p.key ++ (separator_text p.separator ++ (p.space_before ++ (p.raw_value ++ (p.space_after ++ p.note))))

tail_seam : (k s b v a n t : Text)
    → k ++ (s ++ (b ++ (v ++ (a ++ (n ++ t))))) ≡ (k ++ (s ++ (b ++ (v ++ (a ++ n))))) ++ t
tail_seam k s b v a n t = simp append_assoc

pub with_tail : (p : Stretches) → pair_source p ++ [] ≡ before_tail p ++ p.trailing_lines
with_tail p =
    append-nil (pair_source p)
    ∙ tail_seam p.key (separator_text p.separator) p.space_before p.raw_value p.space_after p.note
    p.trailing_lines

-- a pair with a separator has a value, and one without is a key alone
module _ {o : ParseOption} {c : ℕ} {p : Stretches} {key value r : Text} where
  pub value_there : is_some p.separator ≡ true → IsPair o c p key value r → IsValuePair o c p key value r
  value_there has (IsPair.has_value h) = h
  value_there has (IsPair.is_lone h) = absurd (false≢true (ap is_some (sym h.lone.no_separator) ∙ has))

  pub lone_there : is_some p.separator ≡ false → IsPair o c p key value r → IsLonePair o c p key value r
  lone_there lacks (IsPair.has_value h) = absurd (false≢true (sym lacks ∙ ap is_some h.separator_is))
  lone_there lacks (IsPair.is_lone h) = h

-- in the pair's place the value may stand, of this source
abbrev pub MayStand : ParseOption → (source value : Text) → PairPiece → Type 0
MayStand o source value p = (c : ℕ) (r : Text) → IsValuePair o c p.stretches p.key p.value r
    → IsValuePair o c (with_value source value p).stretches p.key value r

module _ {o : ParseOption} (source value : Text) (p : PairPiece) (may : MayStand o source value p)
    (has : has_separator p ≡ true) where
  abbrev the_new : Span
  the_new = pair (with_value source value p).stretches p.key value

  pub spans_set : (front rest : List Span)
      → AreSpans o line_feed (front ++ (pair p.stretches p.key p.value ∷ rest)) []
      → AreSpans o line_feed (front ++ (the_new ∷ rest)) []
  spans_set front rest h = at (in_place-split span_source front (pair p.stretches p.key p.value ∷ rest) h).1
    where
      c : ℕ
      c = last_or line_feed (joined span_source front)

      at : AreSpans o c (pair p.stretches p.key p.value ∷ rest) []
          → AreSpans o line_feed (front ++ (the_new ∷ rest)) []
      at (AreInPlace.more (IsSpan.is_pair pair_is) later) =
          let is = value_there has pair_is in
          in_place-exchanged span_source spans_local front (pair p.stretches p.key p.value ∷ [])
          (the_new ∷ []) rest h
          (AreInPlace.more (IsSpan.is_pair (IsPair.has_value (may _ _ is))) AreInPlace.none)
          (keys_begin p.stretches.key _ _ (joined span_source rest ++ []) (joined span_source rest ++ [])
          (KeyFront-some is.key_front is.some))
          (subst (λ t. Agree o (last_or c (pair_source p.stretches ++ []) ∷ []) (last_or c t ∷ [])
          (joined span_source rest))
          (sym (with_tail (with_value source value p).stretches))
          (subst (λ t. Agree o (last_or c t ∷ [])
          (last_or c (before_tail
          (with_value source value p).stretches ++ p.stretches.trailing_lines) ∷ [])
          (joined span_source rest))
          (sym (with_tail p.stretches))
          (tail_agrees c (before_tail p.stretches) (before_tail (with_value source value p).stretches)
          (append-nil (joined span_source rest)) is.are_trailing)))

-- the spans around a pair
abbrev pub spans_before : List SectionPiece → SectionPiece → List PairPiece → List Span
spans_before before s earlier =
    sections_spans before ++ (opening s.name s.header ∷ gap s.after ∷ pairs_spans earlier)

abbrev pub spans_after : Text → List PairPiece → List SectionPiece → List Span
spans_after after later rest = gap after ∷ (pairs_spans later ++ sections_spans rest)

pub spans_at : (before : List SectionPiece) (s : SectionPiece) (rest : List SectionPiece)
    (earlier later : List PairPiece)
    (p : PairPiece) → sections_spans (before ++ with_pairs s (earlier ++ p ∷ later) ∷ rest)
    ≡ spans_before before s earlier ++ (pair p.stretches p.key p.value ∷ spans_after p.after later rest)
spans_at before s rest earlier later p =
    let first = opening s.name s.header ∷ gap s.after ∷ pairs_spans earlier in
    let one = pair p.stretches p.key p.value ∷ gap p.after ∷ pairs_spans later in
    sections_spans-append before (with_pairs s (earlier ++ p ∷ later) ∷ rest)
    ∙ ap (λ l. sections_spans before ++ ((opening s.name s.header ∷ gap s.after ∷ l) ++ sections_spans rest))
    (pairs_spans-append earlier (p ∷ later))
    ∙ ap (λ l. sections_spans before ++ l) (append_assoc first one (sections_spans rest))
    ∙ sym (append_assoc (sections_spans before) first (one ++ sections_spans rest))

-- the sections with one pair changed, where it may be exchanged
module _ {o : ParseOption} (name : Option Text) (key : Text) (f : PairPiece → PairPiece) (p : PairPiece)
    (after : (f p).after ≡ p.after)
    (put : (front rest : List Span)
    → AreSpans o line_feed (front ++ (pair p.stretches p.key p.value ∷ rest)) []
    → AreSpans o line_feed (front ++ (pair (f p).stretches (f p).key (f p).value ∷ rest)) []) where
  pub sections_put : (ss : List SectionPiece) → pair_in name key ss ≡ Some p → AreSections o ss
      → AreSections o (pair_changed name key f ss)
  sections_put ss found h = at (first_fitting (λ s. is_name name s.name) ss) refl found
    where
      at : (section : Option SectionPiece) → first_fitting (λ s. is_name name s.name) ss ≡ section
          → option_and_then (pair_of_key key) section ≡ Some p
          → AreSections o (pair_changed name key f ss)
      at None is none = absurd (let no : None ≡ Some p = none in cc)
      at (Some s) is there =
          let x = first_stands (λ s. is_name name s.name) ss s is in
          let y = first_stands (λ p. is_text key p.key) s.pairs p there in
          let was : ss ≡ x.before ++ with_pairs s (y.before ++ p ∷ y.rest) ∷ x.rest =
          x.whole ∙ ap (λ ps. x.before ++ with_pairs s ps ∷ x.rest) y.whole in
          let now : pair_changed name key f ss ≡ x.before ++ with_pairs s
          (y.before ++ f p ∷ y.rest) ∷ x.rest =
          x.changed (key_changed key f) ∙ ap (λ ps. x.before ++ with_pairs s ps ∷ x.rest) (y.changed f) in
          let before = spans_before x.before s y.before in
          let new = pair (f p).stretches (f p).key (f p).value in
          let spans = put before (spans_after p.after y.rest x.rest)
          (subst (λ xs. AreSpans o line_feed xs []) (ap sections_spans was
          ∙ spans_at x.before s x.rest y.before y.rest p)
          h.spans) in
          record {
            begin_general = subst BeginGeneral (sym now)
                (begin-same x.before (with_pairs s (y.before ++ p ∷ y.rest)) (with_pairs s
                (y.before ++ f p ∷ y.rest)) x.rest
                refl (subst BeginGeneral was h.begin_general));
            spans = subst (λ xs. AreSpans o line_feed xs [])
                (sym (ap sections_spans now ∙ spans_at x.before s x.rest y.before y.rest (f p)
                ∙ ap (λ a. before ++ (new ∷ spans_after a y.rest x.rest)) after))
                spans;
          }

-- an edit of the first section of the name
pub as_edit : (name : Option Text) (f : Pairs → Pairs) (d : Document)
    → entry_changed (is_name name) f d ≡ edit_section name f [] d
as_edit name f [] = refl
as_edit name f (s ∷ d) = ap (λ l. cond (is_name name s.0) ((s.0, f s.1) ∷ d) (s ∷ l)) (as_edit name f d)

-- the value of the first pair
pub first_value_there : (name : Option Text) (key : Text) (ss : List SectionPiece)
    → value_in name key (map given_section ss) ≡ option_map (λ p. p.value) (pair_in name key ss)
first_value_there name key ss =
    ap (option_and_then (first_value key))
    (lookup_first (λ s. is_name name s.name) (is_name name) given_section (λ s. refl) ss)
    ∙ at (first_fitting (λ s. is_name name s.name) ss)
  where
    at : (s : Option SectionPiece)
        → option_and_then (first_value key) (option_map (λ s. map given_pair s.pairs) s)
        ≡ option_map (λ p. p.value) (option_and_then (pair_of_key key) s)
    at None = refl
    at (Some s) = lookup_first (λ p. is_text key p.key) (is_text key) given_pair (λ p. refl) s.pairs

-- each pair's value is the source of a value
module _ {o : ParseOption} where
  pairs_own : {c : ℕ} {r : Text} (ps : List PairPiece) (rest : List Span) → AreSpans o c
      (pairs_spans ps ++ rest) r
      → HaveOwnSources o ps
  pairs_own [] rest h = All-nil (λ p. IsOwnSource o p.stretches.raw_value)
  pairs_own (p ∷ ps) rest (AreInPlace.more (IsSpan.is_pair is) (AreInPlace.more _ later)) =
      All-cons (λ p. IsOwnSource o p.stretches.raw_value) p ps (own_source is)
      (pairs_own ps rest later)

  pub sections_own : {c : ℕ} {r : Text} (ss : List SectionPiece) → AreSpans o c (sections_spans ss) r
      → All (λ s. HaveOwnSources o s.pairs) ss
  sections_own [] h = All-nil (λ s. HaveOwnSources o s.pairs)
  sections_own (s ∷ ss) (AreInPlace.more _ (AreInPlace.more _ later)) =
      All-cons (λ s. HaveOwnSources o s.pairs) s ss (pairs_own s.pairs (sections_spans ss) later)
      (sections_own ss (in_place-split span_source (pairs_spans s.pairs) (sections_spans ss) later).1)

-- no pair of the key
pub no_value : (name : Option Text) (key : Text) (ss : List SectionPiece) → pair_in name key ss ≡ None
    → value_in name key (map given_section ss) ≡ None
no_value name key ss none = first_value_there name key ss ∙ ap (option_map (λ p. p.value)) none

-- what an edit of the first section of the name makes of the sections
module _ (name : Option Text) (key : Text) (ss : List SectionPiece) {i : ℕ}
    (at : IsFirstAt (λ s. is_name name s.name) ss i) (new : SectionPiece) where
  pub same_sections : new ≡ at.found → set ss i new ≡ ss
  same_sections is = ap (set ss i) (is ∙ at.is) ∙ set-get_or ss i at.found

  pub changed_sections : (f : SectionPiece → SectionPiece) → new ≡ f at.found
      → set ss i new ≡ first_changed (λ s. is_name name s.name) f ss
  changed_sections f is = ap (set ss i) is ∙ at.changed f

  pub found_there : {p : Option PairPiece} → pair_of_key key at.found ≡ p → pair_in name key ss ≡ p
  found_there is = ap (option_and_then (pair_of_key key)) at.fitting ∙ is
