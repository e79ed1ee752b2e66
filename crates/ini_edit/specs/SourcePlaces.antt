-- Where a pair or a section stands in a text in pieces.
use Rattle.std.specs.Prelude.{Bool, true, false, if◌then◌else◌, ◌==◌, ◌-◌, ℕ, List, [], ◌∷◌, ◌++◌, Option}
use Rattle.std.specs.Prelude.{None, Some}
use Rattle.std.specs.Option.{option_map, option_and_then}
use Rattle.ini_text.specs.Grammar.CharacterKinds.{line_feed}
use Rattle.ini_text.specs.Grammar.Positions.{last_or}
use Rattle.ini.specs.Texts.{Text, is_name, is_text}
use Rattle.ini_text.specs.Parsing.Fronts.{front_of}
use Rattle.ini_edit.specs.Sources.{PairPiece, SectionPiece, has_separator, pairs_text, sections_text}
use Rattle.ini_edit.specs.SourceEdits.{with_pairs}

-- one of a list, those before it, and those after it
pub record Place (A : Type 0) : Type 0 where
  pub before : List A
  pub here : A
  pub after : List A

-- the place after one more before it
abbrev pub one_on : {A : Type 0} → A → Place A → Place A
one_on x p = record { before = x ∷ p.before; here = p.here; after = p.after }

-- the place of the one that fits before which so many others fit
abbrev pub nth_place : {A : Type 0} → (A → Bool) → ℕ → List A → Option (Place A)
nth_place test n [] = None
nth_place test n (x ∷ xs) =
    if test x
    then (if n == 0 then Some (record { before = []; here = x; after = xs })
    else option_map (one_on x) (nth_place test (n - 1) xs))
    else option_map (one_on x) (nth_place test n xs)

-- the list with these in the place's stead
abbrev pub exchanged : {A : Type 0} → Place A → List A → List A
exchanged p xs = p.before ++ (xs ++ p.after)

-- a pair in its section
pub record PairPlace : Type 0 where
  pub section : Place SectionPiece
  pub pair : Place PairPiece

-- the place of the first section of the name
abbrev pub section_place : Option Text → List SectionPiece → Option (Place SectionPiece)
section_place name ss = nth_place (λ s. is_name name s.name) 0 ss

-- the place of the pair of the key, in that section, before which so many others of the key stand
abbrev pub pair_place : Option Text → Text → ℕ → List SectionPiece → Option PairPlace
pair_place name key n ss =
    option_and_then
    (λ s. option_map (λ p. record { section = s; pair = p }) (nth_place
    (λ p. is_text key p.key) n s.here.pairs))
    (section_place name ss)

-- the gap after the last of the pairs; that after the header where there are none
abbrev pub gap_of : (after : Text) → List PairPiece → Text
gap_of after [] = after
gap_of after (p ∷ ps) = gap_of p.after ps

-- the text up to a section's first pair, and the last character before a section; LF at the text's front
abbrev pub up_to_pairs : Place SectionPiece → Text
up_to_pairs s = sections_text s.before ++ (s.here.header ++ s.here.after)

abbrev pub last_before_section : Place SectionPiece → ℕ
last_before_section s = last_or line_feed (sections_text s.before)

-- a section's text up to a pair; and the last character before that pair, and before the gap there, after a
-- section that ends in this character
abbrev pub text_up_to : SectionPiece → List PairPiece → Text
text_up_to s before = s.header ++ (s.after ++ pairs_text before)

abbrev pub last_before_pair : (front : ℕ) → SectionPiece → Place PairPiece → ℕ
last_before_pair front s p = last_or front (text_up_to s p.before)

abbrev pub last_before_gap : (front : ℕ) → SectionPiece → (before : List PairPiece) → ℕ
last_before_gap front s before =
    last_or front (front_of (text_up_to s before) (gap_of s.after before))

-- an edit at a place; where there is none, all stays
abbrev pub edited_at : {A B : Type 0} → (A → B) → Option A → B → B
edited_at f None stays = stays
edited_at f (Some place) stays = f place

-- the section at a place with others in its stead
abbrev pub section_exchanged : PairPlace → SectionPiece → List SectionPiece
section_exchanged p s = exchanged p.section (s ∷ [])

-- a pair with another source of its value, with other lines after its value, and another gap
abbrev pub with_raw_value : Text → PairPiece → PairPiece
with_raw_value source p = record p { stretches = record p.stretches { raw_value = source } }

-- the same of its key
abbrev pub with_raw_key : Text → PairPiece → PairPiece
with_raw_key source p = record p { stretches = record p.stretches { key = source } }

-- what a pair's own line ends with: the source of its value, or of a key alone
abbrev pub last_word : PairPiece → Text
last_word p = if has_separator p then p.stretches.raw_value else p.stretches.key

abbrev pub with_last_word : Text → PairPiece → PairPiece
with_last_word source p = if has_separator p then with_raw_value source p else with_raw_key source p

abbrev pub with_end : (lines gap : Text) → PairPiece → PairPiece
with_end lines gap p = record p { stretches = record p.stretches { trailing_lines = lines }; after = gap }

abbrev pub with_after : Text → SectionPiece → SectionPiece
with_after gap s = record s { after = gap }

-- the last of a list changed
abbrev pub last_changed : {A : Type 0} → (A → A) → List A → List A
last_changed f [] = []
last_changed f (x ∷ []) = f x ∷ []
last_changed f (x ∷ y ∷ ys) = x ∷ last_changed f (y ∷ ys)

abbrev pub is_nil : {A : Type 0} → List A → Bool
is_nil [] = true
is_nil (x ∷ xs) = false

-- another gap there, and then these pairs
abbrev pub gap_put : Text → SectionPiece → (before after : List PairPiece) → SectionPiece
gap_put gap s [] after = with_after gap (with_pairs s after)
gap_put gap s (p ∷ ps) after =
    with_pairs s (last_changed (λ q. record q { after = gap }) (p ∷ ps) ++ after)

-- the last gap of a section
abbrev pub last_gap : SectionPiece → Text
last_gap s = gap_of s.after s.pairs

-- the place of the last of a list
abbrev pub last_place : {A : Type 0} → A → List A → Place A
last_place x [] = record { before = []; here = x; after = [] }
last_place x (y ∷ ys) = one_on x (last_place y ys)
