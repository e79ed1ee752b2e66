-- What taking a section out makes of the list of sections at an index, and of the document.
use Rattle.std.proofs.Common.{◌≡◌, ◌≢◌, ◌∙◌, ◌&&◌, ◌+◌, ℕ, Bool, true, false, cond, List, [], ◌∷◌, ◌++◌, None}
use Rattle.std.proofs.Common.{Option, Some, ◌==◌, ap, append_assoc, arith, get_or, length, map, refl, set}
use Rattle.std.proofs.Common.{subst, sym, drop, take}
use Rattle.std.proofs.Math.Seq.{take-length}
use Rattle.std.proofs.lemmas.Bool.{cond-false, cond-true, eq-eqb, false≢true, ne_eqb}
use Rattle.std.proofs.lemmas.List.{drop_all, get_or_at, length-append, map-append, set_at, take_at}
use Rattle.std.specs.List.{remove}
use Rattle.std.specs.Map.{remove_entry}
use Rattle.std.specs.Option.{option_map}
use Rattle.ini_text.specs.Grammar.CharacterKinds.{line_feed}
use Rattle.ini_text.specs.Grammar.Positions.{last_or}
use Rattle.ini_text.specs.Parsing.Fronts.{front_of}
use Rattle.ini_text.specs.declared.option.ParseOption.{ParseOption}
use Rattle.ini.specs.Documents.{section_removed}
use Rattle.ini.specs.Texts.{Text, is_name}
use Rattle.ini_edit.specs.Inside.SourceEnds.{IsPlaceAt, end_put, end_put_at, end_put_last, last_before}
use Rattle.ini_edit.specs.Inside.SourceEnds.{put_after_kept}
use Rattle.ini_edit.specs.Inside.Spans.{AreSections, BeginGeneral}
use Rattle.ini_edit.specs.SourceEditsDelete.{with_rest}
use Rattle.ini_edit.specs.SourceEditsSections.{line_end_before, section_deleted_after, section_deleted_at}
use Rattle.ini_edit.specs.SourceEditsSections.{section_rest, with_rest_of_next}
use Rattle.ini_edit.specs.SourceLines.{indentation_at_end, is_empty}
use Rattle.ini_edit.specs.SourcePlaces.{Place, is_nil, last_before_gap, last_gap, last_place, nth_place}
use Rattle.ini_edit.specs.SourcePlaces.{one_on, section_place, with_end}
use Rattle.ini_edit.specs.Sources.{PairPiece, SectionPiece, given_pair, given_section, is_multiline}
use Rattle.ini_edit.specs.Sources.{sections_text}
use Rattle.ini_edit.proofs.RestPutLemmas.{goes_after, would_take}
use Rattle.ini_edit.proofs.SectionDeletedLemmas.{line_end, rest, sections_deleted}
use Rattle.ini_edit.specs.declared.source.pair.ends.NewEnd.{NewEnd}
use Rattle.ini_edit.proofs.SectionEndLemmas.{LastOf, last_of, put_nothing, put_one}
use Rattle.ini_edit.proofs.SectionRestLemmas.{rest_whole}
use Rattle.ini_edit.proofs.SourcePlaceLemmas.{place_read, place_remove, place_take}

-- the place of the last of a list
pub last_whole : {A : Type 0} (x : A) (xs : List A)
    → x ∷ xs ≡ (last_place x xs).before ++ (last_place x xs).here ∷ []
last_whole x [] = refl
last_whole x (y ∷ ys) = ap (λ l. x ∷ l) (last_whole y ys)

-- an entry taken out of what a list shows
module _ {A : Type 0} (test : A → Bool) {K V : Type 0} (fits : K → Bool) (view : A → K × V)
    (same : (x : A) → test x ≡ fits (view x).0) where
  pub none_gone : (xs : List A) → nth_place test 0 xs ≡ None
      → remove_entry fits (map view xs) ≡ map view xs
  none_gone [] none = refl
  none_gone (y ∷ ys) none = at (test y) refl none (none_gone ys)
    where
      at : (b : Bool) → test y ≡ b
          → cond b (Some (record { before = []; here = y; after = ys }))
          (option_map (one_on y) (nth_place test 0 ys)) ≡ None
          → (nth_place test 0 ys ≡ None → remove_entry fits (map view ys) ≡ map view ys)
          → remove_entry fits (map view (y ∷ ys)) ≡ map view (y ∷ ys)
      at true is h more = absurd (cc (h))
      at false is h more =
          cond-false (fits (view y).0) _ _ (sym (same y) ∙ is)
          ∙ ap (λ l. view y ∷ l) (more (nowhere (nth_place test 0 ys) h))
        where
          nowhere : (o : Option (Place A)) → option_map (one_on y) o ≡ None → o ≡ None
          nowhere None h = refl
          nowhere (Some p) h = absurd (cc (h))

  pub one_gone : (xs : List A) (p : Place A) → nth_place test 0 xs ≡ Some p
      → remove_entry fits (map view xs) ≡ map view (p.before ++ p.after)
  one_gone [] p h = absurd (cc (h))
  one_gone (y ∷ ys) p h = at (test y) refl h (λ q is. one_gone ys q is)
    where
      at : (b : Bool) → test y ≡ b
          → cond b (Some (record { before = []; here = y; after = ys }))
          (option_map (one_on y) (nth_place test 0 ys)) ≡ Some p
          → ((q : Place A) → nth_place test 0 ys ≡ Some q
          → remove_entry fits (map view ys) ≡ map view (q.before ++ q.after))
          → remove_entry fits (map view (y ∷ ys)) ≡ map view (p.before ++ p.after)
      at true is h more =
          let found : Place A = record { before = []; here = y; after = ys } in
          let there : found ≡ p = cc in
          cond-true (fits (view y).0) _ _ (sym (same y) ∙ is)
          ∙ ap (λ p. map view (p.before ++ p.after)) there
      at false is h more = further (nth_place test 0 ys) refl h
        where
          further : (o : Option (Place A)) → nth_place test 0 ys ≡ o → option_map (one_on y) o ≡ Some p
              → remove_entry fits (map view (y ∷ ys)) ≡ map view (p.before ++ p.after)
          further None at h = absurd (cc (h))
          further (Some q) at h =
              let there : one_on y q ≡ p = cc in
              cond-false (fits (view y).0) _ _ (sym (same y) ∙ is)
              ∙ ap (λ l. view y ∷ l) (more q at)
              ∙ ap (λ p. map view (p.before ++ p.after)) there

-- other last parts of a section give what they gave
given_rest : (o : ParseOption) (l r : Text) (p : PairPiece) → given_pair (with_rest o l r p) ≡ given_pair p
given_rest o l r p = at (is_multiline o p && is_empty p.after)
  where
    at : (b : Bool) → given_pair (cond b (with_end (p.stretches.trailing_lines ++ l) (p.after ++ r) p)
        (with_end p.stretches.trailing_lines (p.after ++ (l ++ r)) p)) ≡ given_pair p
    at true = refl
    at false = refl

pub put_given : (o : ParseOption) (k l r : Text) (s : SectionPiece)
    → given_section (put_after_kept o k l r s) ≡ given_section s
put_given o k l r s = at (last_of s.pairs)
  where
    at : LastOf s.pairs → given_section (put_after_kept o k l r s) ≡ given_section s
    at (LastOf.nothing is) =
        ap given_section (put_nothing o k l r s is) ∙ ap (λ ps. (s.name, map given_pair ps)) (sym is)
    at (LastOf.one ps p is) =
        let q : PairPiece = record p { after = k } in
        ap given_section (put_one o k l r s ps p is)
        ∙ ap (λ ps. (s.name, ps)) (map-append given_pair ps (with_rest o l r q ∷ [])
        ∙ ap (λ e. map given_pair ps ++ e ∷ []) (given_rest o l r q)
        ∙ sym (map-append given_pair ps (p ∷ [])))
        ∙ ap (λ ps. (s.name, map given_pair ps)) (sym is)

pub next_given : (o : ParseOption) (front : ℕ) (t : SectionPiece) (l r : Text)
    → given_section (with_rest_of_next o front t l r) ≡ given_section t
next_given o front t l r =
    let d = last_before_gap front t t.pairs in
    let kept = front_of (last_gap t) (indentation_at_end d (last_gap t)) in
    put_given o kept (cond (goes_after (last_or d kept) r) [] l) (cond (would_take o kept t r) [] r) t

pub found_fits : {A : Type 0} (test : A → Bool) (xs : List A) (p : Place A) → nth_place test 0 xs ≡ Some p
    → test p.here ≡ true
found_fits test [] p h = absurd (cc (h))
found_fits {A} test (y ∷ ys) p h = at (test y) refl h (λ q is. found_fits test ys q is)
  where
    at : (b : Bool) → test y ≡ b
        → cond b (Some (record { before = []; here = y; after = ys }))
        (option_map (one_on y) (nth_place test 0 ys)) ≡ Some p
        → ((q : Place A) → nth_place test 0 ys ≡ Some q → test q.here ≡ true) → test p.here ≡ true
    at true is h more =
        let found : Place A = record { before = []; here = y; after = ys } in
        let there : found ≡ p = cc in
        ap (λ p. test p.here) (sym there) ∙ is
    at false is h more = further (nth_place test 0 ys) refl h
      where
        further : (o : Option (Place A)) → nth_place test 0 ys ≡ o → option_map (one_on y) o ≡ Some p
            → test p.here ≡ true
        further None at h = absurd (cc (h))
        further (Some q) at h =
            let there : one_on y q ≡ p = cc in
            ap (λ p. test p.here) (sym there) ∙ more q at

-- a section of a name isn't the first
pub not_first : (name : Text) (ss : List SectionPiece) (p : Place SectionPiece) → BeginGeneral ss
    → section_place (Some name) ss ≡ Some p → ss ≡ p.before ++ p.here ∷ p.after → p.before ≢ []
not_first name ss p general is whole none =
    let first : p.here.name ≡ None =
    (subst BeginGeneral (whole ∙ ap (λ l. l ++ p.here ∷ p.after) none) general).0 in
    false≢true (ap (is_name (Some name)) (sym first)
    ∙ found_fits (λ s. is_name (Some name) s.name) ss p is)

-- the section at a place, and the one before it
pub record HasBefore (p : Place SectionPiece) : Type 0 where
  pub bs : List SectionPiece
  pub t : SectionPiece
  pub same : p ≡ record { before = bs ++ t ∷ []; here = p.here; after = p.after }
  pub deleted : (o : ParseOption) → section_deleted_after o p p.before
      ≡ bs ++ with_rest_of_next o (last_or line_feed (sections_text bs)) t
      (line_end o bs t p.here p.after) (rest o bs t p.here p.after) ∷ p.after

pub has_before : (p : Place SectionPiece) → p.before ≢ [] → HasBefore p
has_before p some = at p.before refl
  where
    at : (l : List SectionPiece) → p.before ≡ l → HasBefore p
    at [] is = absurd (some is)
    at (x ∷ xs) is =
        let q = last_place x xs in
        let P : Place SectionPiece = record {
          before = q.before ++ q.here ∷ [];
          here = p.here;
          after = p.after;
        } in
        let same : p ≡ P =
        ap (λ l. record { before = l; here = p.here; after = p.after }) (is ∙ last_whole x xs) in
        record {
          bs = q.before;
          t = q.here;
          same = same;
          deleted = λ o. ap (λ p. section_deleted_after o p p.before) same
              ∙ ap (section_deleted_after o P) (sym (last_whole x xs));
        }

module _ (o : ParseOption) {ss : List SectionPiece} {p : Place SectionPiece} (i j : ℕ)
    (at : IsPlaceAt ss p i) (next : i ≡ j + 1) (b : HasBefore p) where
  abbrev new : SectionPiece
  new = with_rest_of_next o (last_or line_feed (sections_text b.bs)) b.t
      (line_end o b.bs b.t p.here p.after) (rest o b.bs b.t p.here p.after)

  before_is : p.before ≡ b.bs ++ b.t ∷ []
  before_is = ap (λ p. p.before) b.same

  whole : ss ≡ b.bs ++ b.t ∷ p.here ∷ p.after
  whole = at.whole ∙ ap (λ l. l ++ p.here ∷ p.after) before_is
      ∙ append_assoc b.bs (b.t ∷ []) (p.here ∷ p.after)

  before_index : length b.bs ≡ j
  before_index =
      omega (arith, at.index, ap length before_is, length-append b.bs (b.t ∷ []), next)

  -- the section at the index taken out, and the one before it put anew
  pub list_deleted : set (remove ss i) j new ≡ section_deleted_after o p p.before
  list_deleted =
      ap (λ l. set l j new) (place_remove at ∙ ap (λ l. l ++ p.after) before_is
      ∙ append_assoc b.bs (b.t ∷ []) p.after)
      ∙ set_at b.bs b.t p.after new j before_index
      ∙ sym (b.deleted o)

  -- what stands there, of those before it
  pub before_there : get_or ss j b.t ≡ b.t
  before_there =
      ap (λ l. get_or l j b.t) whole ∙ get_or_at b.bs b.t (p.here ∷ p.after) b.t j before_index

  pub are_deleted : AreSections o ss → AreSections o (section_deleted_after o p p.before)
  are_deleted are =
      subst (AreSections o) (sym (b.deleted o))
      (sections_deleted o b.bs b.t p.here p.after (subst (AreSections o) whole are))

  pub document_deleted : (name : Option Text) → section_place name ss ≡ Some p
      → map given_section (section_deleted_after o p p.before)
      ≡ section_removed name (map given_section ss)
  document_deleted name found =
      ap (map given_section) (b.deleted o)
      ∙ map-append given_section b.bs (new ∷ p.after)
      ∙ ap (λ e. map given_section b.bs ++ e ∷ map given_section p.after) (new_gives)
      ∙ sym (map-append given_section b.bs (b.t ∷ p.after))
      ∙ ap (map given_section)
      (sym (ap (λ l. l ++ p.after) before_is ∙ append_assoc b.bs (b.t ∷ []) p.after))
      ∙ sym (one_gone (λ s. is_name name s.name) (is_name name) given_section (λ s. refl) ss p found)
    where
      new_gives : given_section new ≡ given_section b.t
      new_gives = next_given o (last_or line_feed (sections_text b.bs)) b.t
          (line_end o b.bs b.t p.here p.after) (rest o b.bs b.t p.here p.after)

  -- what is found there, and what is put
  read_before : {t : SectionPiece} → t ≡ get_or ss j t → t ≡ b.t
  read_before {t} is =
      is ∙ ap (λ l. get_or l j t) whole ∙ get_or_at b.bs b.t (p.here ∷ p.after) t j before_index

  read_after : {t : SectionPiece} → t ≡ get_or (remove ss i) j t → t ≡ b.t
  read_after {t} is =
      is ∙ ap (λ l. get_or l j t) (place_remove at ∙ ap (λ l. l ++ p.after) before_is
      ∙ append_assoc b.bs (b.t ∷ []) p.after)
      ∙ get_or_at b.bs b.t p.after t j before_index

  pub same_there : {t u : SectionPiece} → t ≡ get_or (remove ss i) j t → u ≡ get_or ss j u → t ≡ u
  same_there one other = read_after one ∙ sym (read_before other)

  pub there_before : {t : SectionPiece} → t ≡ get_or (remove ss i) j t → t ≡ get_or ss j t
  there_before {t} is =
      read_after is
      ∙ sym (ap (λ l. get_or l j t) whole ∙ get_or_at b.bs b.t (p.here ∷ p.after) t j before_index)

  last_at : (after : List SectionPiece) → p.after ≡ after → (i + 1 == length ss) ≡ is_nil after
  last_at [] is =
      let same : i + 1 ≡ length ss =
      omega (arith, at.index, ap length at.whole, length-append p.before (p.here ∷ p.after), ap length is) in
      eq-eqb (i + 1) (length ss) same
  last_at (x ∷ xs) is =
      ne_eqb (i + 1) (length ss) (λ same.
      let no : ⊥ =
      omega (
        arith,
        same,
        at.index,
        ap length at.whole,
        length-append p.before (p.here ∷ p.after),
        ap length is,
      ) in no)

  pub list_put : {t s u : SectionPiece} {front front_there : ℕ} {is_last : Bool} {gap before line : Text}
      (end : NewEnd) → t ≡ get_or ss j t → s ≡ get_or ss i s → front ≡ last_before ss j
      → front_there ≡ last_before ss i → is_last ≡ (i + 1 == length ss)
      → gap ≡ section_rest o is_last (last_before_gap front_there s s.pairs) (last_gap s)
      → before ≡ front_of (last_gap s) gap
      → ((rest : Text) → last_gap s ≡ before ++ rest → line ≡ line_end_before rest s)
      → end_put_last end t ≡ with_rest_of_next o front t line gap
      → u ≡ get_or ss j u
      → set (remove ss i) j (end_put_last end u) ≡ section_deleted_after o p p.before
  list_put {t} {s} {u} {front} {front_there} {is_last} {gap} {before} {line} end read_t read_s front_is
      there_is last gap_is front_gap line_is put read_u =
      let here : s ≡ p.here = place_read at read_s in
      let same : t ≡ b.t = read_before read_t in
      let front_text : front ≡ last_or line_feed (sections_text b.bs) =
      front_is ∙ ap (λ l. last_or line_feed (sections_text l)) (ap (take j) whole
      ∙ take_at b.bs (b.t ∷ p.here ∷ p.after) j before_index) in
      let there_text : front_there ≡ last_or line_feed (sections_text (b.bs ++ b.t ∷ [])) =
      there_is ∙ ap (λ l. last_or line_feed (sections_text l)) (place_take at ∙ before_is) in
      let whole_gap : last_gap s ≡ before ++ gap =
      sym (ap (λ f. f ++ gap) front_gap ∙ ap (λ g. front_of (last_gap s) g ++ g) gap_is
      ∙ rest_whole o is_last (last_before_gap front_there s s.pairs) (last_gap s)) in
      let rest_is : gap ≡ rest o b.bs b.t p.here p.after =
      gap_is
      ∙ ap (λ n. section_rest o n (last_before_gap front_there s s.pairs) (last_gap s))
      (last ∙ last_at p.after refl)
      ∙ ap (λ c. section_rest o (is_nil p.after) (last_before_gap c s s.pairs) (last_gap s)) there_text
      ∙ ap (λ s. section_rest o (is_nil p.after)
      (last_before_gap (last_or line_feed (sections_text (b.bs ++ b.t ∷ []))) s s.pairs) (last_gap s)) here
      in
      let end_is : line ≡ line_end o b.bs b.t p.here p.after =
      line_is gap whole_gap ∙ ap (λ g. line_end_before g s) rest_is
      ∙ ap (line_end_before (rest o b.bs b.t p.here p.after)) here in
      let put_is : end_put_last end t ≡ new =
      put ∙ ap (λ c. with_rest_of_next o c t line gap) front_text
      ∙ ap (λ t. with_rest_of_next o (last_or line_feed (sections_text b.bs)) t line gap) same
      ∙ ap (λ l. with_rest_of_next o (last_or line_feed (sections_text b.bs)) b.t l gap) end_is
      ∙ ap (with_rest_of_next o (last_or line_feed (sections_text b.bs)) b.t
      (line_end o b.bs b.t p.here p.after)) rest_is in
      ap (λ t. set (remove ss i) j (end_put_last end t)) (read_before read_u ∙ sym same)
      ∙ ap (set (remove ss i) j) put_is ∙ list_deleted

-- the last parts of a section put anew
pub end_put_all : (end : NewEnd) (u : SectionPiece) (n : ℕ) → n ≡ length u.pairs
    → end_put_at end n u ≡ end_put_last end u
end_put_all end u n is =
    ap (λ n. end_put_at end n u) is
    ∙ ap (λ l. end_put end u l (drop (length u.pairs) u.pairs)) (take-length u.pairs)
    ∙ ap (end_put end u u.pairs) (drop_all (length u.pairs) u.pairs (omega arith))

-- the list once the section is taken out, and the one before it has other last parts
pub deleted_so : (o : ParseOption) {ss : List SectionPiece} {p : Place SectionPiece} (i j : ℕ)
    (at : IsPlaceAt ss p i) (next : i ≡ j + 1) (b : HasBefore p) {left : List SectionPiece}
    {u v new : SectionPiece} (n : ℕ) (end : NewEnd) → left ≡ remove ss i → u ≡ get_or left j u
    → v ≡ get_or left j v → n ≡ length v.pairs → new ≡ end_put_at end n u
    → ((q : Place SectionPiece) → IsPlaceAt ss q i → (s : SectionPiece) → s ≡ get_or ss j s
    → set (remove ss i) j (end_put_last end s) ≡ section_deleted_at o q)
    → set left j new ≡ section_deleted_at o p
deleted_so o {ss} {p} i j at next b {left} {u} {v} {new} n end is read_u read_v count put made =
    let one : u ≡ get_or (remove ss i) j u = read_u ∙ ap (λ l. get_or l j u) is in
    let other : v ≡ get_or (remove ss i) j v = read_v ∙ ap (λ l. get_or l j v) is in
    let same : v ≡ u = same_there o i j at next b other (there_before o i j at next b one) in
    let whole : new ≡ end_put_last end u =
    put ∙ end_put_all end u n (count ∙ ap (λ s. length s.pairs) same) in
    ap (λ l. set l j new) is ∙ ap (set (remove ss i) j) whole
    ∙ made p at u (there_before o i j at next b one)
