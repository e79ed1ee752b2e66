-- Where a pair stands in a text in pieces; and the last character before a section, which is the last one of
-- the section before it: no section's text but the general one's is empty.
use Rattle.std.proofs.Common.{◌≡◌, ◌∙◌, ◌<◌, ◌≤◌, ◌+◌, ℕ, true, List, [], ◌∷◌, ◌++◌, Option, None, Some, ap}
use Rattle.std.proofs.Common.{Bool, MatchOption, append-nil, arith, get_or, is_some, length, length-append}
use Rattle.std.proofs.Common.{refl, subst, suc, sym, take, zero}
use Rattle.std.proofs.lemmas.Bool.{and_parts, false≢true}
use Rattle.std.specs.List.{list_all}
use Rattle.std.specs.Option.{option_and_then, option_map}
use Rattle.ini_text.specs.Grammar.CharacterKinds.{line_feed}
use Rattle.ini_text.specs.Grammar.Positions.{last_or}
use Rattle.ini_text.specs.declared.option.ParseOption.{ParseOption}
use Rattle.ini_text.proofs.GrammarLemmas.ItemLemmas.{element-some}
use Rattle.ini_text.proofs.LawLemmas.PieceLemmas.{last_or-append}
use Rattle.ini.specs.Texts.{Text, is_text}
use Rattle.ini_edit.specs.Inside.InPlace.{AreInPlace}
use Rattle.ini_edit.specs.Inside.SourceEnds.{IsFound, IsPairAt}
use Rattle.ini_edit.specs.Inside.SourceSteps.{IsFirstAt}
use Rattle.ini_edit.specs.Inside.Spans.{AreSections, AreSpans, IsSpan, opening, section_spans}
use Rattle.ini_edit.specs.Inside.Spans.{sections_spans, span_source}
use Rattle.ini_edit.specs.SourceEdits.{first_fitting}
use Rattle.ini_edit.specs.SourcePlaces.{nth_place, pair_place, section_place}
use Rattle.ini_edit.specs.Sources.{SectionPiece, section_text, sections_text}
use Rattle.ini_edit.proofs.InPlaceLemmas.{in_place-split, joined-more}
use Rattle.ini_edit.proofs.SourcePlaceLemmas.{first_found, first_nowhere, place_read}

-- a text that isn't empty ends as it does after any other
pub last_of_some : (c d : ℕ) (s : Text) → 1 ≤ length s → last_or c s ≡ last_or d s
last_of_some c d [] h = absurd (omega arith)
last_of_some c d (x ∷ s) h = refl

module _ {o : ParseOption} where
  header_some : (name : Option Text) {c : ℕ} {source r : Text} → is_some name ≡ true
      → IsSpan o c (opening name source) r → 1 ≤ length source
  header_some None some is = absurd (false≢true some)
  header_some (Some name) some (IsSpan.header e) = element-some e

  opens_some : {c : ℕ} {r : Text} (s : SectionPiece) (ss : List SectionPiece) → is_some s.name ≡ true
      → AreSpans o c (section_spans s ++ sections_spans ss) r → 1 ≤ length (section_text s)
  opens_some s ss some (AreInPlace.more is rest) =
      let header = header_some s.name some is in
      omega (arith, length-append {A = ℕ}, header)

  sections_some : {c : ℕ} {r : Text} (ss : List SectionPiece) (i : ℕ) (x : SectionPiece)
      → list_all (λ t. is_some t.name) ss ≡ true → AreSpans o c (sections_spans ss) r → i < length ss
      → x ≡ get_or ss i x → 1 ≤ length (section_text x)
  sections_some [] i x names spans within is = absurd (omega arith)
  sections_some (s ∷ ss) zero x names spans within is =
      let some = opens_some s ss (and_parts _ _ names).0 spans in
      subst (λ t. 1 ≤ length (section_text t)) (sym is) some
  sections_some (s ∷ ss) (suc i) x names spans within is =
      sections_some ss i x (and_parts _ _ names).1
      (in_place-split span_source (section_spans s) (sections_spans ss) spans).1 (omega arith) is

pub last_of_section : {o : ParseOption} (ss : List SectionPiece) → AreSections o ss → (i : ℕ)
    (x : SectionPiece) → i < length ss → x ≡ get_or ss i x
    → last_or line_feed (section_text x) ≡ last_or line_feed (sections_text (take (i + 1) ss))
last_of_section [] are i x within is = absurd (omega arith)
last_of_section (s ∷ ss) are zero x within is =
    ap (λ t. last_or line_feed (section_text t)) is
    ∙ ap (last_or line_feed) (sym (append-nil (section_text s)))
last_of_section (s ∷ ss) are (suc i) x within is =
    let some = sections_some ss i x are.begin_general.1
    (in_place-split span_source (section_spans s) (sections_spans ss) are.spans).1 (omega arith) is in
    last_of_some line_feed (last_or line_feed (sections_text (take (suc i) (s ∷ ss)))) (section_text x) some
    ∙ sym (last_or-append line_feed (sections_text (take (suc i) (s ∷ ss))) (section_text x))
    ∙ ap (last_or line_feed) (sym (joined-more section_text (s ∷ ss) (suc i) x within is))

pub found_by : {A : Type 0} (test : A → Bool) (xs : List A) (r : Option ℕ)
    → MatchOption r (first_fitting test xs ≡ None) (IsFirstAt test xs)
    → MatchOption r (nth_place test 0 xs ≡ None) (IsFound xs (nth_place test 0 xs))
found_by test xs None none = first_nowhere test xs none
found_by test xs (Some i) first = first_found test first

-- a pair in its section
module _ (name : Option Text) (key : Text) (n : ℕ) (ss : List SectionPiece) where
  pub pair_at : {i j : ℕ} {x : SectionPiece} → IsFound ss (section_place name ss) i → x ≡ get_or ss i x
      → IsFound x.pairs (nth_place (λ p. is_text key p.key) n x.pairs) j
      → IsPairAt (pair_place name key n ss) ss i j
  pair_at {j = j} s is p =
      let found =
      subst (λ y. IsFound y.pairs (nth_place (λ p. is_text key p.key) n y.pairs) j) (place_read s.at is) p in
      record {
        place = record { section = s.place; pair = found.place };
        is = ap (option_and_then (λ s. option_map (λ p. record { section = s; pair = p })
            (nth_place (λ p. is_text key p.key) n s.here.pairs))) s.is
            ∙ ap (option_map (λ p. record { section = s.place; pair = p })) found.is;
        section = s.at;
        pair = found.at;
      }
