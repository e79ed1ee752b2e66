-- What is compared of two texts' units decides whether they say the same.
use Rattle.std.proofs.Common.{◌≡◌, ◌∙◌, ◌&&◌, true, List, [], ◌∷◌, Option, ap, ap₂, map, refl, sym}
use Rattle.std.proofs.lemmas.Bool.{and_parts}
use Rattle.ini.specs.Texts.{Text, is_name, is_text}
use Rattle.ini.proofs.KeepingLemmas.{name_refl, names_equal, text_refl, texts_equal}
use Rattle.ini_edit.specs.Inside.Sortings.{pair_unit_of, says_same_pair_unit, says_same_section_unit}
use Rattle.ini_edit.specs.Inside.Sortings.{section_unit_of}
use Rattle.ini_edit.specs.Inside.SourceLayouts.{all_same}
use Rattle.ini_edit.specs.SourceEntries.{behind_value, comments_in}
use Rattle.ini_edit.specs.Sorting.{PairSaid, PairUnit, SectionSaid, pair_said, section_said}
use Rattle.ini_edit.specs.declared.source.layout.units.PairUnit.{PairUnit as LentPair}
use Rattle.ini_edit.specs.declared.source.layout.units.SectionUnit.{SectionUnit as LentSection}
use Rattle.ini_edit.proofs.SourceEntriesLemmas.{lists_same, lists_say}

pub mapped_twice : {A B C : Type 0} (f : B → C) (g : A → B) (xs : List A)
    → map f (map g xs) ≡ map (λ x. f (g x)) xs
mapped_twice f g [] = refl
mapped_twice f g (x ∷ xs) = ap (λ l. f (g x) ∷ l) (mapped_twice f g xs)

texts_fit : (s t : Text) → s ≡ t → is_text s t ≡ true
texts_fit s t e = sym (ap (is_text s) e) ∙ text_refl s

abbrev pair_of : Text → Text → Text → Text → PairSaid
pair_of above key value rest = record { above = above; key = key; value = value; rest = rest }

abbrev section_of : Text → Option Text → Text → List PairSaid → SectionSaid
section_of above name rest pairs = record { above = above; name = name; rest = rest; pairs = pairs }

abbrev said_of : LentPair → PairSaid
said_of p = pair_said (pair_unit_of p)

abbrev section_said_of : LentSection → SectionSaid
section_said_of s = section_said (section_unit_of s)

-- the comments behind the value of a unit's pair
abbrev behind : PairUnit → Text
behind u = comments_in (behind_value u.pair.stretches u.rest)

pair_same : (p q : LentPair) → says_same_pair_unit p q ≡ true → said_of p ≡ said_of q
pair_same p q h =
    let u = pair_unit_of p in
    let v = pair_unit_of q in
    let key = and_parts (is_text u.pair.key v.pair.key) _ h in
    let value = and_parts (is_text u.pair.value v.pair.value) _ key.1 in
    let above = and_parts (is_text (comments_in u.above) (comments_in v.above)) _ value.1 in
    ap (λ a. pair_of a u.pair.key u.pair.value (behind u))
    (texts_equal (comments_in u.above) (comments_in v.above) above.0)
    ∙ ap (λ k. pair_of (comments_in v.above) k u.pair.value (behind u))
    (texts_equal u.pair.key v.pair.key key.0)
    ∙ ap (λ x. pair_of (comments_in v.above) v.pair.key x (behind u))
    (texts_equal u.pair.value v.pair.value value.0)
    ∙ ap (λ r. pair_of (comments_in v.above) v.pair.key v.pair.value r)
    (texts_equal (behind u) (behind v) above.1)

pair_says : (p q : LentPair) → said_of p ≡ said_of q → says_same_pair_unit p q ≡ true
pair_says p q h =
    let u = pair_unit_of p in
    let v = pair_unit_of q in
    ap₂ (λ a b. a && b) (texts_fit u.pair.key v.pair.key (ap (λ e. e.key) h))
    (ap₂ (λ a b. a && b) (texts_fit u.pair.value v.pair.value (ap (λ e. e.value) h))
    (ap₂ (λ a b. a && b) (texts_fit (comments_in u.above) (comments_in v.above) (ap (λ e. e.above) h))
    (texts_fit (behind u) (behind v) (ap (λ e. e.rest) h))))

section_same : (s t : LentSection) → says_same_section_unit s t ≡ true
    → section_said_of s ≡ section_said_of t
section_same s t h =
    let u = section_unit_of s in
    let v = section_unit_of t in
    let name = and_parts (is_name u.section.name v.section.name) _ h in
    let above = and_parts (is_text (comments_in u.above) (comments_in v.above)) _ name.1 in
    let rest = and_parts (is_text (comments_in u.rest) (comments_in v.rest)) _ above.1 in
    let pairs : map pair_said u.pairs ≡ map pair_said v.pairs =
    mapped_twice pair_said pair_unit_of s.pairs.items
    ∙ lists_same says_same_pair_unit said_of pair_same s.pairs.items t.pairs.items rest.1
    ∙ sym (mapped_twice pair_said pair_unit_of t.pairs.items) in
    ap (λ a. section_of a u.section.name (comments_in u.rest) (map pair_said u.pairs))
    (texts_equal (comments_in u.above) (comments_in v.above) above.0)
    ∙ ap (λ n. section_of (comments_in v.above) n (comments_in u.rest) (map pair_said u.pairs))
    (names_equal u.section.name v.section.name name.0)
    ∙ ap (λ r. section_of (comments_in v.above) v.section.name r (map pair_said u.pairs))
    (texts_equal (comments_in u.rest) (comments_in v.rest) rest.0)
    ∙ ap (section_of (comments_in v.above) v.section.name (comments_in v.rest)) pairs

section_says : (s t : LentSection) → section_said_of s ≡ section_said_of t
    → says_same_section_unit s t ≡ true
section_says s t h =
    let u = section_unit_of s in
    let v = section_unit_of t in
    let pairs : map said_of s.pairs.items ≡ map said_of t.pairs.items =
    sym (mapped_twice pair_said pair_unit_of s.pairs.items) ∙ ap (λ e. e.pairs) h
    ∙ mapped_twice pair_said pair_unit_of t.pairs.items in
    ap₂ (λ a b. a && b) (sym (ap (is_name u.section.name) (ap (λ e. e.name) h)) ∙ name_refl u.section.name)
    (ap₂ (λ a b. a && b) (texts_fit (comments_in u.above) (comments_in v.above) (ap (λ e. e.above) h))
    (ap₂ (λ a b. a && b) (texts_fit (comments_in u.rest) (comments_in v.rest) (ap (λ e. e.rest) h))
    (lists_say says_same_pair_unit said_of pair_says s.pairs.items t.pairs.items pairs)))

pub units_same : (ss ts : List LentSection) → all_same says_same_section_unit ss ts ≡ true
    → map section_said (map section_unit_of ss) ≡ map section_said (map section_unit_of ts)
units_same ss ts h =
    mapped_twice section_said section_unit_of ss
    ∙ lists_same says_same_section_unit section_said_of section_same ss ts h
    ∙ sym (mapped_twice section_said section_unit_of ts)

pub units_say : (ss ts : List LentSection)
    → map section_said (map section_unit_of ss) ≡ map section_said (map section_unit_of ts)
    → all_same says_same_section_unit ss ts ≡ true
units_say ss ts h =
    lists_say says_same_section_unit section_said_of section_says ss ts
    (sym (mapped_twice section_said section_unit_of ss) ∙ h ∙ mapped_twice section_said section_unit_of ts)
