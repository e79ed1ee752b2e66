-- What is compared of two texts in pieces decides whether they say the same; and then their documents are
-- one.
use Rattle.std.proofs.Common.{◌≡◌, ◌≢◌, ◌∙◌, ◌<◌, ◌≤◌, ◌+◌, ◌&&◌, ℕ, suc, Bool, true, false, List, [], ◌∷◌}
use Rattle.std.proofs.Common.{Option, ap, ap₂, drop, get_or, length, map, refl, sym}
use Rattle.std.proofs.lemmas.Bool.{and_parts}
use Rattle.std.proofs.lemmas.List.{drop_all}
use Rattle.ini.specs.Properties.{Pairs}
use Rattle.ini.specs.Texts.{Text, is_name, is_text}
use Rattle.ini.proofs.KeepingLemmas.{name_refl, names_equal, text_refl, texts_equal}
use Rattle.ini_edit.specs.Inside.SourceLayouts.{all_same, says_same_pair, says_same_section}
use Rattle.ini_edit.specs.SourceEntries.{PairEntry, SectionEntry, behind_value, comments_in, entries_in}
use Rattle.ini_edit.specs.SourceEntries.{pair_entry, section_entry}
use Rattle.ini_edit.specs.Sources.{PairPiece, Pieces, SectionPiece, document_in, given_pair, given_section}
use Rattle.ini_edit.proofs.LayoutLemmas.{here}

module _ {A : Type 0} (same : A → A → Bool) where
  -- a walk over two lists
  pub same_more : (xs ys : List A) (i : ℕ) (x y : A) {whole : Bool} → i < length xs → x ≡ get_or xs i x
      → i < length ys → y ≡ get_or ys i y → same x y ≡ true
      → all_same same (drop i xs) (drop i ys) ≡ whole
      → all_same same (drop (i + 1) xs) (drop (i + 1) ys) ≡ whole
  same_more xs ys i x y within is other_within other_is h so_far =
      let left = all_same same (drop (i + 1) xs) (drop (i + 1) ys) in
      sym (ap (λ b. b && left) h)
      ∙ sym (ap₂ (all_same same) (here xs i x within is) (here ys i y other_within other_is)) ∙ so_far

  pub same_ends : (xs ys : List A) (i : ℕ) (x y : A) {whole : Bool} → i < length xs → x ≡ get_or xs i x
      → i < length ys → y ≡ get_or ys i y → same x y ≡ false
      → all_same same (drop i xs) (drop i ys) ≡ whole → false ≡ whole
  same_ends xs ys i x y within is other_within other_is h so_far =
      let left = all_same same (drop (i + 1) xs) (drop (i + 1) ys) in
      sym (ap (λ b. b && left) h)
      ∙ sym (ap₂ (all_same same) (here xs i x within is) (here ys i y other_within other_is)) ∙ so_far

  pub same_end : (xs ys : List A) (i : ℕ) {whole : Bool} → length xs ≤ i → length ys ≤ i
      → all_same same (drop i xs) (drop i ys) ≡ whole → true ≡ whole
  same_end xs ys i all others so_far =
      sym (ap₂ (all_same same) (drop_all i xs all) (drop_all i ys others)) ∙ so_far

  pub apart : (xs ys : List A) → length xs ≢ length ys → false ≡ all_same same xs ys
  apart [] [] h = absurd (h refl)
  apart [] (y ∷ ys) h = refl
  apart (x ∷ xs) [] h = refl
  apart (x ∷ xs) (y ∷ ys) h =
      elim (same x y) as (λ b. false ≡ (b && all_same same xs ys)) [
        | true ↦ apart xs ys (λ e. h (ap suc e))
        | false ↦ refl
      ]

  -- where it decides whether what two give is one, it does so of lists
  pub lists_same : {B : Type 0} (f : A → B) → ((x y : A) → same x y ≡ true → f x ≡ f y) → (xs ys : List A)
      → all_same same xs ys ≡ true → map f xs ≡ map f ys
  lists_same f decides [] [] h = refl
  lists_same f decides [] (y ∷ ys) h = absurd (let no : false ≡ true = h in cc)
  lists_same f decides (x ∷ xs) [] h = absurd (let no : false ≡ true = h in cc)
  lists_same f decides (x ∷ xs) (y ∷ ys) h =
      let parts = and_parts (same x y) (all_same same xs ys) h in
      ap₂ (λ z zs. z ∷ zs) (decides x y parts.0) (lists_same f decides xs ys parts.1)

  pub lists_say : {B : Type 0} (f : A → B) → ((x y : A) → f x ≡ f y → same x y ≡ true) → (xs ys : List A)
      → map f xs ≡ map f ys → all_same same xs ys ≡ true
  lists_say f decides [] [] h = refl
  lists_say f decides [] (y ∷ ys) h = absurd (let no : [] ≡ f y ∷ map f ys = h in cc)
  lists_say f decides (x ∷ xs) [] h = absurd (let no : f x ∷ map f xs ≡ [] = h in cc)
  lists_say f decides (x ∷ xs) (y ∷ ys) h =
      let first : f x ≡ f y = let all : f x ∷ map f xs ≡ f y ∷ map f ys = h in cc in
      let rest : map f xs ≡ map f ys = let all : f x ∷ map f xs ≡ f y ∷ map f ys = h in cc in
      ap₂ (λ a b. a && b) (decides x y first) (lists_say f decides xs ys rest)

-- texts that are the same fit
texts_fit : (s t : Text) → s ≡ t → is_text s t ≡ true
texts_fit s t e = sym (ap (is_text s) e) ∙ text_refl s

abbrev pair_of : Text → Text → Text → PairEntry
pair_of key value comments = record { key = key; value = value; comments = comments }

abbrev section_of : Option Text → Text → List PairEntry → SectionEntry
section_of name comments pairs = record { name = name; comments = comments; pairs = pairs }

-- the comments behind a pair's value
abbrev behind : PairPiece → Text
behind p = comments_in (behind_value p.stretches p.after)

pair_same : (p q : PairPiece) → says_same_pair p q ≡ true → pair_entry p ≡ pair_entry q
pair_same p q h =
    let key = and_parts (is_text p.key q.key) _ h in
    let value = and_parts (is_text p.value q.value) _ key.1 in
    ap (λ k. pair_of k p.value (behind p)) (texts_equal p.key q.key key.0)
    ∙ ap (λ v. pair_of q.key v (behind p)) (texts_equal p.value q.value value.0)
    ∙ ap (λ c. pair_of q.key q.value c) (texts_equal (behind p) (behind q) value.1)

pair_says : (p q : PairPiece) → pair_entry p ≡ pair_entry q → says_same_pair p q ≡ true
pair_says p q h =
    ap₂ (λ a b. a && b) (texts_fit p.key q.key (ap (λ e. e.key) h))
    (ap₂ (λ a b. a && b) (texts_fit p.value q.value (ap (λ e. e.value) h))
    (texts_fit (behind p) (behind q) (ap (λ e. e.comments) h)))

section_same : (s t : SectionPiece) → says_same_section s t ≡ true → section_entry s ≡ section_entry t
section_same s t h =
    let name = and_parts (is_name s.name t.name) _ h in
    let comments = and_parts (is_text (comments_in s.after) (comments_in t.after)) _ name.1 in
    ap (λ n. section_of n (comments_in s.after) (map pair_entry s.pairs))
    (names_equal s.name t.name name.0)
    ∙ ap (λ c. section_of t.name c (map pair_entry s.pairs))
    (texts_equal (comments_in s.after) (comments_in t.after) comments.0)
    ∙ ap (λ ps. section_of t.name (comments_in t.after) ps)
    (lists_same says_same_pair pair_entry pair_same s.pairs t.pairs comments.1)

section_says : (s t : SectionPiece) → section_entry s ≡ section_entry t → says_same_section s t ≡ true
section_says s t h =
    ap₂ (λ a b. a && b) (sym (ap (is_name s.name) (ap (λ e. e.name) h)) ∙ name_refl s.name)
    (ap₂ (λ a b. a && b) (texts_fit (comments_in s.after) (comments_in t.after) (ap (λ e. e.comments) h))
    (lists_say says_same_pair pair_entry pair_says s.pairs t.pairs (ap (λ e. e.pairs) h)))

pub entries_same : (ss ts : List SectionPiece) → all_same says_same_section ss ts ≡ true
    → map section_entry ss ≡ map section_entry ts
entries_same = lists_same says_same_section section_entry section_same

pub entries_say : (ss ts : List SectionPiece) → map section_entry ss ≡ map section_entry ts
    → all_same says_same_section ss ts ≡ true
entries_say = lists_say says_same_section section_entry section_says

-- entries give the document
abbrev given_of : PairEntry → Text × Text
given_of e = (e.key, e.value)

abbrev document_of : SectionEntry → Option Text × Pairs
document_of e = (e.name, map given_of e.pairs)

pairs_given : (ps : List PairPiece) → map given_pair ps ≡ map given_of (map pair_entry ps)
pairs_given [] = refl
pairs_given (p ∷ ps) = ap (λ xs. given_pair p ∷ xs) (pairs_given ps)

sections_given : (ss : List SectionPiece) → map given_section ss ≡ map document_of (map section_entry ss)
sections_given [] = refl
sections_given (s ∷ ss) =
    ap₂ (λ x xs. x ∷ xs) (ap (λ l. (s.name, l)) (pairs_given s.pairs)) (sections_given ss)

pub document_same : (p q : Pieces) → entries_in p ≡ entries_in q → document_in p ≡ document_in q
document_same p q h =
    sections_given p.sections ∙ ap (map document_of) h ∙ sym (sections_given q.sections)
