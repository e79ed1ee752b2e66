-- The walk to the first comment that holds a pair of a key.
use Rattle.std.proofs.Common.{◌≡◌, ◌∙◌, Bool, List, [], ◌∷◌, ◌++◌, Option, None, Some, ap, append_assoc, refl}
use Rattle.std.proofs.Common.{◌<◌, ◌≤◌, ◌≢◌, ◌+◌, ◌&&◌, ℕ, suc, String, ap₂, chars, drop, false, get_or}
use Rattle.std.proofs.Common.{length, map, subst, sym, true}
use Rattle.std.specs.Bool.{Decides}
use Rattle.std.specs.Cmp.Lexicographic.{pointwise}
use Rattle.std.proofs.lemmas.List.{drop_all}
use Rattle.ini_edit.proofs.LayoutLemmas.{here}
use Rattle.std.specs.Option.{option_map}
use Rattle.std.specs.declared.alloc.Global.{Global}
use Rattle.std.proofs.lemmas.List.{append_cancel_left}
use Rattle.ini_text.specs.Grammar.Elements.{Given}
use Rattle.ini_text.specs.Grammar.Texts.{Reads}
use Rattle.ini_text.specs.Parsing.Items.{string_text}
use Rattle.ini_text.specs.Parsing.Parser.{Place}
use Rattle.ini_text.specs.Parsing.Places.{gives}
use Rattle.ini_text.specs.declared.option.ParseOption.{ParseOption}
use Rattle.ini_text.specs.declared.parser.placed.PlacedElement.{PlacedElement}
use Rattle.ini_text.proofs.GrammarLemmas.ItemLemmas.{reads-append}
use Rattle.ini.specs.Documents.{Document}
use Rattle.ini.specs.Texts.{Text}
use Rattle.ini_edit.specs.Inside.Walks.{IsPastLast, IsReading, StandsWithin, Steps}
use Rattle.ini_dialect.specs.declared.rule.CaseRule.{CaseRule}
use Rattle.ini_dialect.specs.Lookups.{name_fits}
use Rattle.ini_dialect.specs.declared.rule.Lookup.{Lookup}
use Rattle.ini_file.specs.Uncomment.{FindsAfter, FindsComment, IsOneMore, OfElement, goes_inside}
use Rattle.ini_file.specs.Uncomment.{is_document, is_document_decides}
use Rattle.ini_edit.proofs.WalkLemmas.{stands_within, step_reads}

-- The parser reads the text T, and what is found from where it stands on is found in the whole.
pub record Searches (o : ParseOption) (case : CaseRule) (key : Text) (name : Option Text) (T : Text)
    (inside : Bool) (p : Place) : Type 0 where
  pub is_reading : IsReading o T p
  pub items : List Given
  pub reads : Reads o T [] items p.front
  pub finds : (found : Option Text) → FindsAfter o case key name T inside p.front found
      → FindsComment o case key name T found

module _ {o : ParseOption} {case : CaseRule} {key : Text} {name : Option Text} {T : Text} where
  pub searches_start : {inside : Bool} {p : Place} → inside ≡ name_fits case name None → IsReading o T p
      → p.front ≡ [] → Searches o case key name T inside p
  searches_start {inside} {p} first is front = record {
    is_reading = is;
    items = [];
    reads = subst (λ b. Reads o T [] [] b) (sym front) (Reads.stay T refl);
    finds = λ found h.
        subst (λ i. FindsAfter o case key name T i [] found) first
        (subst (λ b. FindsAfter o case key name T inside b found) front h);
  }

  module _ {inside : Bool} {p : Place} (s : Searches o case key name T inside p) where
    pub searches_within : StandsWithin p
    searches_within = stands_within s.is_reading s.reads

    pub searches_end : {q : Place} → IsPastLast o T p.front q → FindsComment o case key name T None
    searches_end h =
        s.finds None (subst (λ b. FindsAfter o case key name T inside b None) (sym h.was_end) FindsAfter.none)

    module _ {q : Place} {e : PlacedElement} (step : Steps o T p.front q e) {b : Text} (r : Text)
        (front : b ≡ p.front) (rest : q.front ++ r ≡ q.text) where
      rest_is : r ≡ step.stands.rest
      rest_is =
          append_cancel_left (p.front ++ chars e.source.now) r step.stands.rest
          (ap (λ x. x ++ r) (sym step.stands.reaches) ∙ rest ∙ step.is_reading.text ∙ step.stands.whole
          ∙ sym (append_assoc p.front (chars e.source.now) step.stands.rest))

      of_step : (made : Option Text)
          → OfElement o case key inside b (chars e.source.now) r (gives e.content) made
          → OfElement o case key inside p.front (chars e.source.now) step.stands.rest (gives e.content) made
      of_step made h =
          subst (λ x. OfElement o case key inside x (chars e.source.now) step.stands.rest (gives e.content)
          made) front
          (subst (λ x. OfElement o case key inside b (chars e.source.now) x (gives e.content) made) rest_is h)

      pub searches_found : {made : Option (String Global)} {new : String Global}
          → OfElement o case key inside b (chars e.source.now) r (gives e.content) (option_map string_text made)
          → made ≡ Some new → FindsComment o case key name T (Some (string_text new))
      searches_found {made} {new} h is =
          s.finds (Some (string_text new)) (FindsAfter.here step.stands.whole step.stands.is_element
          (subst (λ x. OfElement o case key inside p.front (chars e.source.now) step.stands.rest
          (gives e.content) (option_map string_text x)) is (of_step (option_map string_text made) h)))

      pub searches_more : {made : Option (String Global)} {goes : Bool}
          → OfElement o case key inside b (chars e.source.now) r (gives e.content) (option_map string_text made)
          → made ≡ None → goes ≡ goes_inside case name inside (gives e.content)
          → Searches o case key name T goes q
      searches_more {made} {goes} h is goes_is = record {
        is_reading = step.is_reading;
        items = s.items ++ gives e.content;
        reads = reads-append s.reads (step_reads step);
        finds = λ found after.
            s.finds found (FindsAfter.later step.stands.whole step.stands.is_element
            (subst (λ x. OfElement o case key inside p.front (chars e.source.now) step.stands.rest
            (gives e.content) (option_map string_text x)) is (of_step (option_map string_text made) h))
            (subst (λ x. FindsAfter o case key name T x (p.front ++ chars e.source.now) found) goes_is
            (subst (λ x. FindsAfter o case key name T goes x found) step.stands.reaches after)));
      }

-- what was found, and what came of trying it
module _ {o : ParseOption} (rule : Lookup) (name : Option Text) (key : Text) where
  pub found_some : {T : Text} {made : Option (String Global)} (new : String Global) → made ≡ Some new
      → FindsComment o rule.case key name T (option_map string_text made)
      → FindsComment o rule.case key name T (Some (string_text new))
  found_some {T} new is h = subst (λ x. FindsComment o rule.case key name T (option_map string_text x)) is h

  pub tried : {d : Document} {U V : Text} {b same : Bool} → U ≡ V → b ≡ same
      → IsOneMore rule o name key d U b → IsOneMore rule o name key d V same
  tried {d} {U} {V} {b} {same} text is h =
      subst (λ x. IsOneMore rule o name key d x same) text (subst (IsOneMore rule o name key d U) is h)

pub decides_same : (d e : Document) {same : Bool} → same ≡ is_document d e → Decides same (d ≡ e)
decides_same d e is = subst (λ b. Decides b (d ≡ e)) (sym is) (is_document_decides d e)

-- a walk over two lists that are seen otherwise
module _ {A B : Type 0} (same : B → B → Bool) (see : A → B) where
  abbrev all_same : List A → List A → Bool
  all_same xs ys = pointwise same (map see xs) (map see ys)

  pub same_more : (xs ys : List A) (i : ℕ) (x y : A) {whole : Bool} → i < length xs → x ≡ get_or xs i x
      → i < length ys → y ≡ get_or ys i y → same (see x) (see y) ≡ true
      → pointwise same (map see (drop i xs)) (map see (drop i ys)) ≡ whole
      → pointwise same (map see (drop (i + 1) xs)) (map see (drop (i + 1) ys)) ≡ whole
  same_more xs ys i x y within is other_within other_is h so_far =
      let left = all_same (drop (i + 1) xs) (drop (i + 1) ys) in
      sym (ap (λ b. b && left) h)
      ∙ sym (ap₂ all_same (here xs i x within is) (here ys i y other_within other_is)) ∙ so_far

  pub same_ends : (xs ys : List A) (i : ℕ) (x y : A) {whole : Bool} → i < length xs → x ≡ get_or xs i x
      → i < length ys → y ≡ get_or ys i y → same (see x) (see y) ≡ false
      → pointwise same (map see (drop i xs)) (map see (drop i ys)) ≡ whole → false ≡ whole
  same_ends xs ys i x y within is other_within other_is h so_far =
      let left = all_same (drop (i + 1) xs) (drop (i + 1) ys) in
      sym (ap (λ b. b && left) h)
      ∙ sym (ap₂ all_same (here xs i x within is) (here ys i y other_within other_is)) ∙ so_far

  pub same_end : (xs ys : List A) (i : ℕ) {whole : Bool} → length xs ≤ i → length ys ≤ i
      → pointwise same (map see (drop i xs)) (map see (drop i ys)) ≡ whole → true ≡ whole
  same_end xs ys i all others so_far =
      sym (ap₂ all_same (drop_all i xs all) (drop_all i ys others)) ∙ so_far

  pub apart : (xs ys : List A) → length xs ≢ length ys → false ≡ pointwise same (map see xs) (map see ys)
  apart [] [] h = absurd (h refl)
  apart [] (y ∷ ys) h = refl
  apart (x ∷ xs) [] h = refl
  apart (x ∷ xs) (y ∷ ys) h =
      elim (same (see x) (see y)) as (λ b. false ≡ (b && all_same xs ys)) [
        | true ↦ apart xs ys (λ e. h (ap suc e))
        | false ↦ refl
      ]
