-- The pairs and sections that a text in pieces has are those of its document.
use Rattle.std.proofs.Common.{◌≡◌, ◌∙◌, Bool, true, false, cond, List, [], ◌∷◌, ap, sym, refl, map}
use Rattle.std.proofs.Common.{Option, None, Some}
use Rattle.std.specs.Map.{lookup}
use Rattle.std.specs.Option.{option_map}
use Rattle.std.specs.Prelude.{is_some, option_and_then}
use Rattle.ini.specs.Documents.{first_section, value_in}
use Rattle.ini.specs.Properties.{first_value}
use Rattle.ini.specs.Texts.{Text, is_name, is_text}
use Rattle.ini_edit.specs.SourcePlaces.{PairPlace, Place, nth_place, one_on, pair_place, section_place}
use Rattle.ini_edit.specs.Sources.{PairPiece, SectionPiece, given_pair, given_section}

-- the place of the first one that fits, seen as an entry of a key that fits
module _ {A K V : Type 0} (test : A → Bool) (fits : K → Bool) (view : A → K × V)
    (same : (x : A) → test x ≡ fits (view x).0) where
  abbrev seen_at : Option (Place A) → Option V
  seen_at = option_map (λ p. (view p.here).1)

  one_on-seen : (x : A) (found : Option (Place A)) → seen_at found ≡ seen_at (option_map (one_on x) found)
  one_on-seen x None = refl
  one_on-seen x (Some p) = refl

  first_seen : (xs : List A) → lookup fits (map view xs) ≡ seen_at (nth_place test 0 xs)
  first_seen [] = refl
  first_seen (x ∷ xs) =
      ap (λ b. cond b (Some (view x).1) (lookup fits (map view xs))) (sym (same x))
      ∙ ap (λ l. cond (test x) (Some (view x).1) l) (first_seen xs) ∙ at (test x)
    where
      at : (b : Bool) → cond b (Some (view x).1) (seen_at (nth_place test 0 xs))
          ≡ seen_at (cond b (Some (record { before = []; here = x; after = xs }))
          (option_map (one_on x) (nth_place test 0 xs)))
      at true = refl
      at false = one_on-seen x (nth_place test 0 xs)

pub section_found : (name : Option Text) (ss : List SectionPiece)
    → first_section name (map given_section ss)
    ≡ option_map (λ s. map given_pair s.here.pairs) (section_place name ss)
section_found name ss = first_seen (λ s. is_name name s.name) (is_name name) given_section (λ s. refl) ss

pair_found : (key : Text) (s : Place SectionPiece) (found : Option (Place PairPiece))
    → option_map (λ p. p.here.value) found
    ≡ option_map (λ (p : PairPlace). p.pair.here.value)
    (option_map (λ p. record { section = s; pair = p }) found)
pair_found key s None = refl
pair_found key s (Some p) = refl

pub value_found : (name : Option Text) (key : Text) (ss : List SectionPiece)
    → value_in name key (map given_section ss)
    ≡ option_map (λ p. p.pair.here.value) (pair_place name key 0 ss)
value_found name key ss =
    ap (option_and_then (first_value key)) (section_found name ss) ∙ at (section_place name ss)
  where
    at : (found : Option (Place SectionPiece))
        → option_and_then (first_value key) (option_map (λ s. map given_pair s.here.pairs) found)
        ≡ option_map (λ (p : PairPlace). p.pair.here.value)
        (option_and_then (λ s. option_map (λ p. record { section = s; pair = p })
        (nth_place (λ p. is_text key p.key) 0 s.here.pairs)) found)
    at None = refl
    at (Some s) =
        first_seen (λ p. is_text key p.key) (is_text key) given_pair (λ p. refl) s.here.pairs
        ∙ pair_found key s (nth_place (λ p. is_text key p.key) 0 s.here.pairs)

-- where nothing is found
pub found_nothing : {A : Type 0} (found : Option A) → false ≡ is_some found → found ≡ None
found_nothing None h = refl
found_nothing (Some x) h = absurd (let no : false ≡ true = h in cc)

pub no_value_found : (name : Option Text) (key : Text) (ss : List SectionPiece)
    → pair_place name key 0 ss ≡ None → value_in name key (map given_section ss) ≡ None
no_value_found name key ss none =
    value_found name key ss ∙ ap (option_map (λ p. p.pair.here.value)) none

pub no_section_found : (name : Option Text) (ss : List SectionPiece)
    → section_place name ss ≡ None → first_section name (map given_section ss) ≡ None
no_section_found name ss none =
    section_found name ss ∙ ap (option_map (λ s. map given_pair s.here.pairs)) none
