-- What putting a section in makes of the list of sections, and of the document.
use Rattle.std.proofs.Common.{◌≡◌, ◌≢◌, ◌∙◌, ◌+◌, ℕ, Bool, true, false, not, List, [], ◌∷◌, ◌++◌, None}
use Rattle.std.proofs.Common.{Option, Some, ap, append_assoc, append-nil, arith, get_or, length, map, refl}
use Rattle.std.proofs.Common.{set, subst, sym, take}
use Rattle.std.proofs.lemmas.List.{drop_all, get_or_at, length-append, length-take-le, map-append, set_at}
use Rattle.std.specs.Option.{option_map}
use Rattle.std.specs.Prelude.{IfSome, is_some}
use Rattle.ini_text.specs.Grammar.CharacterKinds.{line_feed}
use Rattle.ini_text.specs.Grammar.Pieces.{pieces_text}
use Rattle.ini_text.specs.Grammar.Positions.{last_or}
use Rattle.ini_text.specs.Laws.Plain.{IsPlainName}
use Rattle.ini_text.specs.Options.WriteOptions.{line_end}
use Rattle.ini_text.specs.Parsing.Fronts.{front_of}
use Rattle.ini_text.specs.declared.option.ParseOption.{ParseOption}
use Rattle.ini_text.specs.declared.write.option.LineSeparator.{LineSeparator}
use Rattle.ini_text.specs.declared.write.policy.EscapePolicy.{EscapePolicy}
use Rattle.ini_text.proofs.StringLemmas.FrontLemmas.{front_is}
use Rattle.ini.specs.Properties.{Pairs}
use Rattle.ini.specs.Texts.{Text}
use Rattle.ini_edit.specs.Inside.InPlace.{AreInPlace}
use Rattle.ini_edit.specs.Inside.SourceEnds.{MakesPairs, end_put_at, end_put_last, maker_of, place_in}
use Rattle.ini_edit.specs.Inside.Spans.{AreSections, AreSpans, IsGap, IsSpan, gap, section_spans}
use Rattle.ini_edit.specs.Inside.Spans.{sections_spans, span_source}
use Rattle.ini_edit.specs.SourceEditsAdd.{Maker, closed}
use Rattle.ini_edit.specs.SourceEditsSections.{after_new_section, ended_for_section, is_ended_for}
use Rattle.ini_edit.specs.SourceEditsSections.{lines_between, new_section, section_put, with_last_closed}
use Rattle.ini_edit.specs.SourcePlaces.{Place, last_before_gap, last_before_section, last_changed, last_gap}
use Rattle.ini_edit.specs.SourcePlaces.{last_place, one_on}
use Rattle.ini_edit.specs.Sources.{PairPiece, SectionPiece, given_pair, given_section, section_text}
use Rattle.ini_edit.specs.Sources.{sections_text}
use Rattle.ini_edit.specs.declared.source.pair.ends.NewEnd.{NewEnd}
use Rattle.ini_edit.specs.declared.source.written.NewPair.{NewPair}
use Rattle.ini_edit.proofs.ClosedPairLemmas.{closed_same}
use Rattle.ini_edit.proofs.AddedSpanLemmas.{feed_of}
use Rattle.ini_edit.proofs.InPlaceLemmas.{in_place-split}
use Rattle.ini_edit.proofs.NewSectionSpanLemmas.{bare_section, pair_section, rest_after_feed}
use Rattle.ini_edit.proofs.SectionAddedLemmas.{sections_added}
use Rattle.ini_edit.proofs.SectionDeletedListLemmas.{end_put_all, last_whole, put_given}
use Rattle.ini_edit.proofs.SectionEndLemmas.{spans_last}
use Rattle.ini_edit.proofs.SectionPlaceLemmas.{IsCutFor, cut_for}
use Rattle.ini_edit.proofs.SourcePlaceLemmas.{index_place}
use Rattle.ini_edit.proofs.SourceReadLemmas.{sections_spans-append}
use Rattle.ini_edit.proofs.SourceSpanLemmas.{last_of_gap, spans_to_gap}

some_last : {A : Type 0} (xs : List A) (x : A) → xs ++ x ∷ [] ≢ []
some_last [] x h = cc
some_last (y ∷ xs) x h = cc

-- the last of a list, by its index
pub last_at : {A : Type 0} (xs : List A) (n : ℕ) (x : A) → n + 1 ≡ length xs → x ≡ get_or xs n x
    → xs ≡ take n xs ++ x ∷ []
last_at xs n x last is =
    let at = index_place xs n x (omega arith) is in
    at.whole ∙ ap (λ l. take n xs ++ x ∷ l) (drop_all (n + 1) xs (omega arith))

-- the place of the last
last_there : {A : Type 0} (x : A) (xs before : List A) (y : A) → x ∷ xs ≡ before ++ y ∷ []
    → last_place x xs ≡ record { before = before; here = y; after = [] }
last_there x [] [] y is = let same : x ≡ y = cc in ap
    (λ y. record { before = []; here = y; after = [] }) same
last_there x [] (z ∷ before) y is =
    absurd (let none : [] ≡ before ++ y ∷ [] = cc in some_last before y (sym none))
last_there x (w ∷ xs) [] y is = absurd (let no : w ∷ xs ≡ [] = cc in cc)
last_there x (w ∷ xs) (z ∷ before) y is =
    let same : x ≡ z = cc in
    let rest : w ∷ xs ≡ before ++ y ∷ [] = cc in
    ap (one_on x) (last_there w xs before y rest)
    ∙ ap (λ z. record { before = z ∷ before; here = y; after = [] }) same

module _ (o : ParseOption) (policy : EscapePolicy) (sep : LineSeparator) (name : Text) (make : Option Maker)
    (bs : List SectionPiece) (t : SectionPiece) where
  abbrev the_place : Place SectionPiece
  the_place = record { before = bs; here = t; after = [] }

  abbrev pub gap_end : ℕ
  gap_end = last_before_gap (last_or line_feed (sections_text bs)) t t.pairs

  -- what is put there
  abbrev pub put_there : Text → List SectionPiece
  put_there g = bs ++ (ended_for_section o (line_end sep) t g
      ∷ new_section o policy (line_end sep) name make g ∷ [])

  abbrev put_at : Place SectionPiece → Option (List SectionPiece)
  put_at p = option_map
      (λ g. p.before ++ (ended_for_section o (line_end sep) p.here g
      ∷ new_section o policy (line_end sep) name make g ∷ []))
      (after_new_section o (is_some make)
      (last_before_gap (last_before_section p) p.here p.here.pairs) (last_gap p.here))

  pub put_is : section_put o policy (line_end sep) name make (bs ++ t ∷ [])
      ≡ option_map put_there (after_new_section o (is_some make) gap_end (last_gap t))
  put_is = at bs refl
    where
      at : (l : List SectionPiece) → l ≡ bs
          → section_put o policy (line_end sep) name make (l ++ t ∷ [])
          ≡ put_at (record { before = bs; here = t; after = [] })
      at [] is = ap (λ l. put_at (record { before = l; here = t; after = [] })) is
      at (s ∷ l) is =
          ap put_at (last_there s (l ++ t ∷ []) (s ∷ l) t refl)
          ∙ ap (λ l. put_at (record { before = l; here = t; after = [] })) is

  module _ (are : AreSections o (bs ++ t ∷ [])) where
    last_gap_there : IsGap o gap_end (last_gap t) []
    last_gap_there =
        subst (λ c. IsGap o c (last_gap t) []) (sym (last_of_gap the_place t.pairs))
        (at (in_place-split span_source (sections_spans bs ++ spans_to_gap t t.pairs) (gap (last_gap t) ∷ [])
        (subst (λ l. AreSpans o line_feed l []) so_far are.spans)).1)
      where
        so_far : sections_spans (bs ++ t ∷ [])
            ≡ (sections_spans bs ++ spans_to_gap t t.pairs) ++ gap (last_gap t) ∷ []
        so_far =
            sections_spans-append bs (t ∷ [])
            ∙ ap (λ l. sections_spans bs ++ l) (append-nil (section_spans t) ∙ spans_last t)
            ∙ sym (append_assoc (sections_spans bs) (spans_to_gap t t.pairs) (gap (last_gap t) ∷ []))

        at : {c : ℕ} → AreSpans o c (gap (last_gap t) ∷ []) [] → IsGap o c (last_gap t) []
        at (AreInPlace.more (IsSpan.is_gap g) AreInPlace.none) = g

    -- the sections with the new one
    pub sections_put : IsPlainName o policy name → IfSome make (MakesPairs o) → (g : Text)
        → after_new_section o (is_some make) gap_end (last_gap t) ≡ Some g
        → AreSections o (bs ++ (ended_for_section o (line_end sep) t g
        ∷ new_section o policy (line_end sep) name make g ∷ []))
    sections_put plain makes g is = at make makes (cut_for (is_some make) last_gap_there g is)
      where
        at : (make : Option Maker) → IfSome make (MakesPairs o)
            → IsCutFor o (is_some make) gap_end (last_gap t) g
            → AreSections o (bs ++ (ended_for_section o (line_end sep) t g
            ∷ new_section o policy (line_end sep) name make g ∷ []))
        at None makes cut =
            sections_added o sep bs t g are cut (new_section o policy (line_end sep) name None g) refl refl
            (λ c. bare_section policy name plain (feed_of sep) c g (rest_after_feed cut))
        at (Some make) makes cut =
            sections_added o sep bs t g are cut (new_section o policy (line_end sep) name (Some make) g) refl
            refl (λ c. pair_section policy name plain (feed_of sep) c g make makes cut)

  -- what is put, by the index of the last
  pub list_added : {ss left : List SectionPiece} {new : SectionPiece} (n : ℕ) (g : Text)
      → ss ≡ bs ++ t ∷ [] → n ≡ length bs
      → left ≡ ss ++ new_section o policy (line_end sep) name make g ∷ []
      → new ≡ ended_for_section o (line_end sep) t g → set left n new ≡ put_there g
  list_added {ss} {left} {new = new} n g whole at is put =
      let added = new_section o policy (line_end sep) name make g in
      ap (λ l. set l n new) (is ∙ ap (λ l. l ++ added ∷ []) whole ∙ append_assoc bs (t ∷ []) (added ∷ []))
      ∙ set_at bs t (added ∷ []) new n (sym at)
      ∙ ap (λ x. bs ++ (x ∷ added ∷ [])) put

-- the list once the new section is put last, and the one before it has other last parts
module _ (o : ParseOption) (policy : EscapePolicy) (sep : LineSeparator) (name : Text) (make : Option Maker)
    {ss left : List SectionPiece} {t u v new : SectionPiece} (n count : ℕ) (end : NewEnd) (front g : Text)
    (are : AreSections o ss) (last : n + 1 ≡ length ss) (read_t : t ≡ get_or ss n t)
    (place : place_in o (is_some make) (take n ss) t ≡ Some g) (front_gap : front ≡ front_of (last_gap t) g)
    (ended : (after : Text) → last_gap t ≡ front ++ after
    → end_put_last end t ≡ ended_for_section o (line_end sep) t after)
    (is : left ≡ ss ++ new_section o policy (line_end sep) name make g ∷ []) (read_u : u ≡ get_or left n u)
    (read_v : v ≡ get_or ss n v) (counts : count ≡ length v.pairs) (put : new ≡ end_put_at end count u) where
  abbrev before : List SectionPiece
  before = take n ss

  abbrev added : SectionPiece
  added = new_section o policy (line_end sep) name make g

  whole : ss ≡ before ++ t ∷ []
  whole = last_at ss n t last read_t

  there : n ≡ length before
  there = sym (length-take-le n ss (omega arith))

  are_there : AreSections o (before ++ t ∷ [])
  are_there = subst (AreSections o) whole are

  whole_gap : last_gap t ≡ front ++ g
  whole_gap =
      let cut = cut_for (is_some make) (last_gap_there o policy sep name make before t are_there) g place in
      cut.whole
      ∙ ap (λ f. f ++ g) (sym (front_gap ∙ front_is (pieces_text cut.front) g (last_gap t) (sym cut.whole)))

  same_u : u ≡ t
  same_u =
      read_u ∙ ap (λ l. get_or l n u) (is ∙ ap (λ l. l ++ added ∷ []) whole
      ∙ append_assoc before (t ∷ []) (added ∷ []))
      ∙ get_or_at before t (added ∷ []) u n (sym there)

  same_v : v ≡ t
  same_v = read_v ∙ ap (λ l. get_or l n v) whole ∙ get_or_at before t [] v n (sym there)

  new_is : new ≡ ended_for_section o (line_end sep) t g
  new_is =
      put ∙ end_put_all end u count (counts ∙ ap (λ s. length s.pairs) (same_v ∙ sym same_u))
      ∙ ap (end_put_last end) same_u ∙ ended g whole_gap

  list_is : set left n new ≡ before ++ (ended_for_section o (line_end sep) t g ∷ added ∷ [])
  list_is = list_added o policy sep name make before t n g whole there is new_is

  pub added_put : section_put o policy (line_end sep) name make ss ≡ Some (set left n new)
  added_put =
      ap (section_put o policy (line_end sep) name make) whole
      ∙ put_is o policy sep name make before t
      ∙ ap (option_map (put_there o policy sep name make before t)) place
      ∙ ap Some (sym list_is)

  pub added_are : IsPlainName o policy name → IfSome make (MakesPairs o) → AreSections o (set left n new)
  added_are plain makes =
      subst (AreSections o) (sym list_is)
      (sections_put o policy sep name make before t are_there plain makes g place)

-- where there is no place
pub nowhere_put : (o : ParseOption) (policy : EscapePolicy) (sep : LineSeparator) (name : Text)
    (make : Option Maker) (ss : List SectionPiece) {t : SectionPiece} (n : ℕ) → n + 1 ≡ length ss
    → t ≡ get_or ss n t → place_in o (is_some make) (take n ss) t ≡ None
    → section_put o policy (line_end sep) name make ss ≡ None
nowhere_put o policy sep name make ss {t} n last read none =
    ap (section_put o policy (line_end sep) name make) (last_at ss n t last read)
    ∙ put_is o policy sep name make (take n ss) t
    ∙ ap (option_map (put_there o policy sep name make (take n ss) t)) none

-- what the document shows of the new section
changed_given : (f : PairPiece → PairPiece) → ((p : PairPiece) → given_pair (f p) ≡ given_pair p)
    → (ps : List PairPiece) → map given_pair (last_changed f ps) ≡ map given_pair ps
changed_given f same [] = refl
changed_given f same (p ∷ []) = ap (λ e. e ∷ []) (same p)
changed_given f same (p ∷ q ∷ ps) = ap (λ l. given_pair p ∷ l) (changed_given f same (q ∷ ps))

ended_given : (o : ParseOption) (l : Text) (s : SectionPiece) (g : Text)
    → given_section (ended_for_section o l s g) ≡ given_section s
ended_given o l s g =
    let k = front_of (last_gap s) g in
    let text = front_of (section_text s) g in
    let closes = not (is_ended_for o text k s) in
    put_given o k (lines_between o l text k s) [] (with_last_closed o closes s) ∙ at closes
  where
    at : (b : Bool) → given_section (with_last_closed o b s) ≡ given_section s
    at true =
        ap (λ ps. (s.name, ps))
        (changed_given (closed o) (λ p. ap (λ k. (k, (closed o p).value)) (closed_same o p).0
        ∙ ap (λ v. (p.key, v)) (closed_same o p).1) s.pairs)
    at false = refl

module _ (o : ParseOption) (policy : EscapePolicy) (l name : Text) (make : Option Maker) where
  pub document_put : {pairs : Pairs} (ss new : List SectionPiece)
      → ((g : Text) → given_section (new_section o policy l name make g) ≡ (Some name, pairs))
      → section_put o policy l name make ss ≡ Some new
      → map given_section new ≡ map given_section ss ++ (Some name, pairs) ∷ []
  document_put [] new gives is = absurd (let no : None ≡ Some new = is in cc)
  document_put {pairs} (s ∷ ss) new gives is =
      at (after_new_section o (is_some make) (last_before_gap (last_before_section p) p.here p.here.pairs)
      (last_gap p.here)) is
    where
      p : Place SectionPiece
      p = last_place s ss

      at : (r : Option Text)
          → option_map (λ g. (last_place s ss).before ++ (ended_for_section o l (last_place s ss).here g
          ∷ new_section o policy l name make g ∷ [])) r ≡ Some new
          → map given_section new ≡ map given_section (s ∷ ss) ++ (Some name, pairs) ∷ []
      at None is = absurd (let no : None ≡ Some new = is in cc)
      at (Some g) is =
          let before = (last_place s ss).before in
          let here = (last_place s ss).here in
          let made = before ++ (ended_for_section o l here g ∷ new_section o policy l name make g ∷ []) in
          let same : made ≡ new = cc in
          ap (map given_section) (sym same)
          ∙ map-append given_section before
          (ended_for_section o l here g ∷ new_section o policy l name make g ∷ [])
          ∙ ap (λ e. map given_section before ++ (e ∷ given_section (new_section o policy l name make g)
          ∷ [])) (ended_given o l here g)
          ∙ ap (λ e. map given_section before ++ (given_section here ∷ e ∷ [])) (gives g)
          ∙ sym (append_assoc (map given_section before) (given_section here ∷ []) ((Some name, pairs) ∷ []))
          ∙ ap (λ l. l ++ (Some name, pairs) ∷ []) (sym (map-append given_section before (here ∷ [])))
          ∙ ap (λ ss. map given_section ss ++ (Some name, pairs) ∷ []) (sym (last_whole s ss))

pub document_added : (o : ParseOption) (policy : EscapePolicy) (l name : Text) (ss new : List SectionPiece)
    → section_put o policy l name None ss ≡ Some new
    → map given_section new ≡ map given_section ss ++ (Some name, []) ∷ []
document_added o policy l name ss new is = document_put o policy l name None ss new (λ g. refl) is

-- a new pair is there as its maker is
pub is_some_maker : (o : ParseOption) (p : Option NewPair) → is_some (maker_of o p) ≡ is_some p
is_some_maker o None = refl
is_some_maker o (Some p) = refl

-- the last of some sections
pub last_read : (ss : List SectionPiece) (n : ℕ) → n + 1 ≡ length ss
    → (t : SectionPiece) × (t ≡ get_or ss n t)
last_read [] n last = absurd (let no : ⊥ = omega (arith, last) in no)
last_read (s ∷ ss) n last =
    let p = last_place s ss in
    let count = ap length (last_whole s ss) ∙ length-append p.before (p.here ∷ []) in (
      p.here,
      sym (ap (λ l. get_or l n p.here) (last_whole s ss)
          ∙ get_or_at p.before p.here [] p.here n (omega (arith, count, last))),
    )
