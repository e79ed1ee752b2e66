-- The walk to the first pair of a key in the first section of a name.
use Rattle.std.proofs.Common.{◌≡◌, ◌∙◌, Bool, true, false, cond, List, [], ◌∷◌, ◌++◌, fold, ap, sym, subst}
use Rattle.std.proofs.Common.{refl, subst₂, Option, None, Some, append_assoc, append-nil, chars, MatchOption}
use Rattle.std.specs.Prelude.{option_and_then}
use Rattle.std.proofs.lemmas.Bool.{cond-true, cond-false}
use Rattle.std.proofs.lemmas.Grind.{fold-append}
use Rattle.std.proofs.lemmas.List.{append_cancel_left}
use Rattle.std.specs.List.{list_all}
use Rattle.ini_text.specs.Grammar.CharacterKinds.{is_inline_white}
use Rattle.ini_text.specs.Grammar.Elements.{Given, Header, Pair, Element}
use Rattle.ini_text.specs.Options.Backslashes.{Backslash}
use Rattle.ini_text.specs.Grammar.Keys.{KeyFront}
use Rattle.ini_text.specs.Grammar.Places.{ArePlaced, FollowsKey, SpaceAfter, Stretches, after_key_source}
use Rattle.ini_text.specs.Grammar.Places.{pair_source, separator_text, value_source}
use Rattle.ini_text.specs.Grammar.Texts.{Reads}
use Rattle.ini_text.specs.Laws.PlainLaws.{BeginsWithHeader}
use Rattle.ini_text.specs.Parsing.Items.{cow_text}
use Rattle.ini_text.specs.Parsing.Parser.{Place}
use Rattle.ini_text.specs.Parsing.Places.{HasPlaces, gives}
use Rattle.ini_text.specs.Parsing.Places as parsing
use Rattle.ini_text.specs.declared.parser.placed.Content.TheVariants as contents
use Rattle.ini_text.specs.declared.parser.placed.PlacedPair.{PlacedPair}
use Rattle.ini_text.specs.declared.option.ParseOption.{ParseOption}
use Rattle.ini_text.specs.declared.parser.placed.PlacedElement.{PlacedElement}
use Rattle.ini_text.proofs.GrammarLemmas.ItemLemmas.{reads-append}
use Rattle.ini.specs.Texts.{Text, is_name, is_text}
use Rattle.ini.specs.Properties.{Pairs, first_value}
use Rattle.ini.specs.Documents.{Document, document_of, first_section, value_in, with_item, with_pair}
use Rattle.ini.specs.SectionItems.{pair_items}
use Rattle.ini.proofs.KeepingLemmas.{name_refl}
use Rattle.ini_edit.specs.Places.{pair_of}
use Rattle.ini_edit.specs.Targets.{Lacks}
use Rattle.ini_edit.specs.FirstPairs.{IsFirstPair, LacksPair, LacksSection, stretches_of}
use Rattle.ini_edit.specs.Inside.Walks.{EndsSection, IsPastLast, IsReading, OpensFirst, OpensNone}
use Rattle.ini_edit.specs.Inside.Walks.{PassesPairs, ReachesEnd, ReachesPair, ReadsOn, StandsWithin, Steps}
use Rattle.ini_edit.specs.declared.find.FoundPair.{FoundPair}
use Rattle.ini_edit.proofs.DocumentLemmas.{pair_items-append, section_made, sections_after}
use Rattle.ini_edit.proofs.WalkLemmas.{Walked, stands_within, step_reads, stays, told}
use Rattle.ini_edit.proofs.WalkLemmas.{walked_start, walked_step, walked_within}

-- sections without one of the name, and another that has another name
pub first_section-after : (name : Option Text) (d e : Document) → first_section name d ≡ None
    → first_section name (d ++ e) ≡ first_section name e
first_section-after name [] e none = refl
first_section-after name (s ∷ d) e none = at (is_name name s.0) refl none (first_section-after name d e)
  where
    at : (b : Bool) → is_name name s.0 ≡ b → cond b (Some s.1) (first_section name d) ≡ None
        → (first_section name d ≡ None → first_section name (d ++ e) ≡ first_section name e)
        → first_section name ((s ∷ d) ++ e) ≡ first_section name e
    at true is none more = absurd (let no : Some s.1 ≡ None = none in cc)
    at false is none more = cond-false (is_name name s.0) _ _ is ∙ more none

-- a pair leaves the names as they are
first_section-pair : (name : Option Text) (key value : Text) (d : Document) → first_section name d ≡ None
    → first_section name (with_pair key value d) ≡ None
first_section-pair name key value [] none = none
first_section-pair name key value (s ∷ []) none = at (is_name name s.0) refl none
  where
    at : (b : Bool) → is_name name s.0 ≡ b → cond b (Some s.1) None ≡ None
        → first_section name ((s.0, s.1 ++ (key, value) ∷ []) ∷ []) ≡ None
    at true is none = absurd (let no : Some s.1 ≡ None = none in cc)
    at false is none = cond-false (is_name name s.0) _ _ is
first_section-pair name key value (s ∷ t ∷ d) none =
    at (is_name name s.0) refl none (first_section-pair name key value (t ∷ d))
  where
    at : (b : Bool) → is_name name s.0 ≡ b → cond b (Some s.1) (first_section name (t ∷ d)) ≡ None
        → (first_section name (t ∷ d) ≡ None → first_section name (with_pair key value (t ∷ d)) ≡ None)
        → first_section name (s ∷ with_pair key value (t ∷ d)) ≡ None
    at true is none more = absurd (let no : Some s.1 ≡ None = none in cc)
    at false is none more = cond-false (is_name name s.0) _ _ is ∙ more none

pub document_of-append : (items more : List Given)
    → document_of (items ++ more) ≡ fold with_item (document_of items) more
document_of-append items more = fold-append with_item ((None, []) ∷ []) items more

-- the parser went over sections without one of the name
pub record PassesSections (o : ParseOption) (T : Text) (p : Place) (name : Option Text) : Type 0 where
  pub is_reading : IsReading o T p
  pub items : List Given
  pub reads : Reads o T [] items p.front
  pub none : first_section name (document_of items) ≡ None

opens_none : {name : Option Text} {more : List Given} (items : List Given) → OpensNone name more
    → first_section name (document_of items) ≡ None → first_section name (document_of (items ++ more)) ≡ None
opens_none {name} items OpensNone.nothing none =
    ap (λ l. first_section name (document_of l)) (append-nil items) ∙ none
opens_none {name} items (OpensNone.pair {key} {value}) none =
    ap (first_section name) (document_of-append items (Pair key value ∷ []))
    ∙ first_section-pair name key value (document_of items) none
opens_none {name} items (OpensNone.other {t} apart) none =
    ap (first_section name) (document_of-append items (Header t ∷ []))
    ∙ first_section-after name (document_of items) ((Some t, []) ∷ []) none
    ∙ cond-false (is_name name (Some t)) _ _ apart

module _ {o : ParseOption} {T : Text} {p : Place} where
  pub sections_within : {name : Option Text} → PassesSections o T p name → StandsWithin p
  sections_within s = stands_within s.is_reading s.reads

  pub sections_step : {name : Option Text} {q : Place} {e : PlacedElement} → PassesSections o T p name
      → Steps o T p.front q e → OpensNone name (gives e.content) → PassesSections o T q name
  sections_step {e = e} s t none = record {
    is_reading = t.is_reading;
    items = s.items ++ gives e.content;
    reads = reads-append s.reads (step_reads t);
    none = opens_none s.items none s.none;
  }

  pub sections_opened : {name : Text} {q : Place} {e : PlacedElement} → PassesSections o T p (Some name)
      → Steps o T p.front q e → gives e.content ≡ Header name ∷ [] → OpensFirst o T q (Some name)
  sections_opened {name} {q} {e} s t is = record {
    is_reading = t.is_reading;
    items = s.items ++ Header name ∷ [];
    sections = document_of s.items;
    opens = record { opened = document_of-append s.items (Header name ∷ []); first = s.none };
    reads = reads-append s.reads (subst (λ l. Reads o T p.front l q.front) is (step_reads t));
  }

  pub sections_end : {name : Option Text} {q : Place} → PassesSections o T p name → IsPastLast o T p.front q
      → LacksSection o T name
  sections_end s h = record {
    document = document_of s.items;
    is_document = record {
      items = s.items;
      derives = subst (Reads o T [] s.items) h.was_end s.reads;
      document = refl;
    };
    none = s.none;
  }

-- at the text's front
module _ {p : Place} (refusal : p.refusal ≡ None) (front : p.front ≡ []) where
  at_front : Reads p.option p.text [] [] p.front
  at_front = subst (Reads p.option p.text [] []) (sym front) (Reads.stay p.text refl)

  pub sections_start : (name : Text) → PassesSections p.option p.text p (Some name)
  sections_start name = record {
    is_reading = record { option = refl; text = refl; refusal = refusal };
    items = [];
    reads = at_front;
    none = refl;
  }

  -- the general section is there
  pub general_opened : OpensFirst p.option p.text p None
  general_opened = record {
    is_reading = record { option = refl; text = refl; refusal = refusal };
    items = [];
    sections = [];
    opens = record { opened = refl; first = refl };
    reads = at_front;
  }

-- the parser went over pairs without the key
pub record Searches (o : ParseOption) (T b : Text) (p : Place) (key : Text) : Type 0 where
  pub walked : Walked o T b p
  pub passes : PassesPairs o T b p.front key

pub lacks_more : (key k value : Text) (pairs : Pairs) → Lacks key pairs → is_text key k ≡ false
    → Lacks key (pairs ++ (k, value) ∷ [])
lacks_more key k value [] lacks apart = cond-false (is_text key k) _ _ apart
lacks_more key k value (q ∷ qs) lacks apart =
    at (is_text key q.0) refl lacks (λ none. lacks_more key k value qs none apart)
  where
    at : (b : Bool) → is_text key q.0 ≡ b → cond b (Some q.1) (first_value key qs) ≡ None
        → (Lacks key qs → Lacks key (qs ++ (k, value) ∷ [])) → Lacks key ((q ∷ qs) ++ (k, value) ∷ [])
    at true is none more = absurd (let no : Some q.1 ≡ None = none in cc)
    at false is none more = cond-false (is_text key q.0) _ _ is ∙ more none

pub search_start : {p : Place} {key : Text} → StandsWithin p → Searches p.option p.text p.front p key
search_start s =
    let w = walked_start s in
    record { walked = w; passes = record { pairs = []; lacks = refl; reads = stays s } }

-- items of which none is a pair of the key, nor a header
pub data PairsWithout (key : Text) : List Given → Type 0 where
  nothing : PairsWithout key []
  pair : {k value : Text} → is_text key k ≡ false → PairsWithout key (Pair k value ∷ [])

module _ {o : ParseOption} {T b : Text} {p : Place} {key : Text} (s : Searches o T b p key) where
  pub search_within : StandsWithin p
  search_within = walked_within s.walked

  passes_more : {c : Text} {more : List Given} → PairsWithout key more → Reads o T p.front more c
      → PassesPairs o T b c key
  passes_more {c} PairsWithout.nothing reads = record {
    pairs = s.passes.pairs;
    lacks = s.passes.lacks;
    reads =
        subst (λ l. Reads o T b l c) (append-nil (pair_items s.passes.pairs))
        (reads-append s.passes.reads reads);
  }
  passes_more {c} (PairsWithout.pair {k} {value} apart) reads = record {
    pairs = s.passes.pairs ++ (k, value) ∷ [];
    lacks = lacks_more key k value s.passes.pairs s.passes.lacks apart;
    reads =
        subst (λ l. Reads o T b l c) (sym (pair_items-append s.passes.pairs ((k, value) ∷ [])))
        (reads-append s.passes.reads reads);
  }

  pub search_step : {q : Place} {e : PlacedElement} → Steps o T p.front q e
      → PairsWithout key (gives e.content)
      → Searches o T b q key
  search_step t none = record {
    walked = walked_step s.walked t;
    passes = passes_more none (step_reads t);
  }

  -- the section ended
  pub search_end : {q : Place} → IsPastLast o T p.front q → ReachesEnd o T b q key
  search_end {q} h = record {
    is_reading = h.is_reading;
    front = p.front;
    passes = s.passes;
    ends = subst (EndsSection o T p.front) (h.was_end ∙ sym h.is_end) (EndsSection.end h.was_end);
  }

  pub search_header : {q : Place} {e : PlacedElement} {name : Text} → Steps o T p.front q e
      → gives e.content ≡ Header name ∷ [] → ReachesEnd o T b q key
  search_header {q} {name = name} t is = record {
    is_reading = t.is_reading;
    front = p.front;
    passes = s.passes;
    ends = EndsSection.header name (subst (λ l. Reads o T p.front l q.front) is (step_reads t));
  }

  -- the pair of the key
  pub search_pair : {q : Place} {e : PlacedElement} {pair : PlacedPair} (found : FoundPair)
      → Steps o T p.front q e
      → e.content ≡ contents.Pair pair → cow_text pair.key ≡ key → chars found.front.now ≡ p.front
      → found.value ≡ pair.value → found.places ≡ pair.places → q.front ++ chars found.rest.now ≡ q.text
      → ReachesPair o T b q key found
  search_pair {q} {e} {pair} found t is same front value places rest =
      let stands = t.stands in
      let has : HasPlaces o p.front (chars e.source.now) stands.rest (contents.Pair pair) =
      subst (HasPlaces o p.front (chars e.source.now) stands.rest) is stands.places in
      let source : chars e.source.now ≡ pair_of (stretches_of found) = has.0
      ∙ ap (λ x. pair_source (parsing.stretches_of x)) (sym places) in
      let following : stands.rest ≡ chars found.rest.now =
      append_cancel_left q.front stands.rest (chars found.rest.now)
      (ap (λ x. x ++ stands.rest) stands.reaches ∙ append_assoc p.front (chars e.source.now) stands.rest
      ∙ sym stands.whole ∙ sym t.is_reading.text ∙ sym rest) in
      record {
        is_reading = t.is_reading;
        passes = subst (λ c. PassesPairs o T b c key) (sym front) s.passes;
        whole = stands.whole ∙ ap (λ x. x ++ (chars e.source.now ++ stands.rest)) (sym front)
            ∙ ap (λ x. chars found.front.now ++ (x ++ stands.rest)) source
            ∙ ap (λ x. chars found.front.now ++ (pair_of (stretches_of found) ++ x)) following;
        front = stands.reaches ∙ ap (λ x. x ++ chars e.source.now) (sym front)
            ∙ ap (λ x. chars found.front.now ++ x) source;
        placed = rw (front, sym following, places, value, sym same) has.1;
      }

-- the items after a pair: pairs of its section, and then a header first
pub items_split : (items : List Given)
    → (later : Pairs) × ((rest : List Given) × ((items ≡ pair_items later ++ rest) × BeginsWithHeader rest))
items_split [] = ([], ([], (refl, tt)))
items_split (Header name ∷ items) = ([], (Header name ∷ items, (refl, tt)))
items_split (Pair key value ∷ items) =
    let more = items_split items in
    ((key, value) ∷ more.0, (more.1.0, (ap (λ l. Pair key value ∷ l) more.1.1.0, more.1.1.1)))

pub white_after : {b : Backslash} {raw_value space_after : Text} → SpaceAfter b raw_value space_after
    → list_all is_inline_white space_after ≡ true
white_after (SpaceAfter.bare bare white) = white
white_after (SpaceAfter.escaped front white special all) = refl

-- a pair in its stretches is an element
pub placed_element : {o : ParseOption} {b r key value : Text} {p : Stretches} → ArePlaced o b p r key value
    → Element o b (pair_source p) r (Pair key value ∷ [])
placed_element {o} {b} {r} {key} {value} {p} h = at h.after_key
  where
    at : FollowsKey o p r value → Element o b (pair_source p) r (Pair key value ∷ [])
    at (FollowsKey.has_value f) =
        subst (λ m. Element o b (p.key ++ (separator_text m ++ value_source p)) r (Pair key value ∷ []))
        (sym f.separator_is)
        (Element.pair (subst (λ m. KeyFront o b p.key ((separator_text m ++ value_source p) ++ r) key)
        f.separator_is h.key_front) h.some f.separates f.gives)
    at (FollowsKey.is_lone f) =
        let none : after_key_source p ≡ [] =
        ap (λ m. separator_text m ++ value_source p) f.no_separator ∙ f.nothing in
        subst₂ (λ s v. Element o b s r (Pair key v ∷ []))
        (sym (ap (λ t. p.key ++ t) none ∙ append-nil p.key)) (sym f.empty)
        (Element.lone_key f.may_be (subst (λ t. KeyFront o b p.key (t ++ r) key) none h.key_front)
        h.some f.next)

pub end_reads : {o : ParseOption} {T c d : Text} → EndsSection o T c d
    → (items : List Given) × Reads o T c items d
end_reads (EndsSection.end is) = ([], Reads.stay [] (sym is ∙ sym (append-nil _)))
end_reads (EndsSection.header t reads) = (Header t ∷ [], reads)

module _ {o : ParseOption} {T : Text} {p : Place} {name : Option Text} (key : Text)
    (opens : OpensFirst o T p name) where
  -- the pair that was found, where the later pairs of its section stand after it, and then a header first
  unfoldable pub found_before : {q : Place} {found : FoundPair} {after : List Given} (later : Pairs)
      (rest : List Given)
      → ReachesPair o T p.front q key found → after ≡ pair_items later ++ rest → BeginsWithHeader rest
      → Reads o T q.front after T → IsFirstPair o T name key (stretches_of found) (cow_text found.value)
  found_before {after = after} later rest reaches is header then = record {
    before = opens.items ++ pair_items reaches.passes.pairs;
    after = after;
    stands = record {
      text = reaches.whole;
      reads = reads-append opens.reads reaches.passes.reads;
      is_element = placed_element reaches.placed;
      then = subst (λ c. Reads o T c after T) reaches.front then;
    };
    target = record {
      opening = opens.items;
      sections = opens.sections;
      earlier = reaches.passes.pairs;
      later = later;
      rest = rest;
      opens = opens.opens;
      lacks = reaches.passes.lacks;
      before_is = refl;
      after_is = is;
      header = header;
    };
    placed = reaches.placed;
  }

  -- the same, in a text that is read to its end
  pub found_first : {q : Place} {pair : FoundPair} → ReachesPair o T p.front q key pair → ReadsOn o T q.front
      → IsFirstPair o T name key (stretches_of pair) (cow_text pair.value)
  found_first reaches on =
      let split = items_split on.items in
      found_before split.0 split.1.0 reaches split.1.1.0 split.1.1.1 on.reads

  -- the section has no pair of the key, and the rest of the text begins with a header
  lacks_pair : {front : Text} (rest : List Given) → BeginsWithHeader rest → PassesPairs o T p.front front key
      → Reads o T front rest T → LacksPair o T name key
  lacks_pair rest header passes reads =
      let made = section_made passes.pairs rest opens.opens header in
      let d = opens.sections in
      record {
        document = document_of (opens.items ++ (pair_items passes.pairs ++ rest));
        is_document = record {
          items = opens.items ++ (pair_items passes.pairs ++ rest);
          derives = reads-append opens.reads (reads-append passes.reads reads);
          document = refl;
        };
        none =
            ap (value_in name key) made
            ∙ ap (option_and_then (first_value key))
            (first_section-after name d ((name, passes.pairs) ∷ sections_after rest) opens.opens.first
            ∙ cond-true (is_name name name) (Some passes.pairs) _ (name_refl name))
            ∙ passes.lacks;
      }

  pub lacks_first : {q : Place} → ReachesEnd o T p.front q key → ReadsOn o T q.front → LacksPair o T name key
  lacks_first reaches on = at reaches.ends on.reads
    where
      at : {d : Text} {items : List Given} → EndsSection o T reaches.front d → Reads o T d items T
          → LacksPair o T name key
      at (EndsSection.end is) reads =
          lacks_pair [] tt reaches.passes
          (subst (λ c. Reads o T c [] T) (sym is) (Reads.stay [] (sym (append-nil T))))
      at {items = items} (EndsSection.header t first) reads =
          lacks_pair (Header t ∷ items) tt reaches.passes (reads-append first reads)

  pub lacks_told : {q : Place} → ReachesEnd o T p.front q key → ReadsOn q.option q.text q.front
      → LacksPair o T name key
  lacks_told {q} reaches on = lacks_first reaches (told (λ o T. ReadsOn o T q.front) reaches.is_reading on)

  -- where the parser stands then
  pair_reads : {q : Place} {pair : FoundPair} → ReachesPair o T p.front q key pair
      → Reads o T (chars pair.front.now) (Pair key (cow_text pair.value) ∷ []) q.front
  pair_reads {q} {pair} h =
      let x = stretches_of pair in
      let placed = h.placed in
      subst (Reads o T x.front (Pair key (cow_text pair.value) ∷ [])) (sym h.front)
      (Reads.step h.whole (placed_element placed)
      (Reads.stay x.rest (h.whole ∙ sym (append_assoc x.front (pair_of x) x.rest))))

  pub reached_within : (q : Place) (found : Option FoundPair)
      → MatchOption found (ReachesEnd o T p.front q key) (ReachesPair o T p.front q key) → StandsWithin q
  reached_within q None h =
      stands_within
      h.is_reading (reads-append opens.reads (reads-append h.passes.reads (end_reads h.ends).1))
  reached_within q (Some x) h =
      stands_within h.is_reading (reads-append opens.reads (reads-append h.passes.reads (pair_reads h)))

  reached_reading : (q : Place) (found : Option FoundPair)
      → MatchOption found (ReachesEnd o T p.front q key) (ReachesPair o T p.front q key) → IsReading o T q
  reached_reading q None h = h.is_reading
  reached_reading q (Some x) h = h.is_reading

  found_answers : (q : Place) (found : Option FoundPair)
      → MatchOption found (ReachesEnd o T p.front q key) (ReachesPair o T p.front q key)
      → ReadsOn o T q.front
      → MatchOption found (LacksPair o T name key)
      (λ pair. IsFirstPair o T name key (stretches_of pair) (cow_text pair.value))
  found_answers q None h on = lacks_first h on
  found_answers q (Some x) h on = found_first h on

  -- the same as the calls tell it
  module _ (q : Place) (found : Option FoundPair)
      (h : MatchOption found (ReachesEnd p.option p.text p.front q key)
      (ReachesPair p.option p.text p.front q key)) where
    here : MatchOption found (ReachesEnd o T p.front q key) (ReachesPair o T p.front q key)
    here = told (λ o T. MatchOption found (ReachesEnd o T p.front q key) (ReachesPair o T p.front q key))
        opens.is_reading h

    pub goes_on_within : StandsWithin q
    goes_on_within = reached_within q found here

    pub finds : ReadsOn q.option q.text q.front → MatchOption found (LacksPair o T name key)
        (λ pair. IsFirstPair o T name key (stretches_of pair) (cow_text pair.value))
    finds on = found_answers q found here
        (told (λ o T. ReadsOn o T q.front) (reached_reading q found here) on)

pub lacks_section : {o : ParseOption} {T : Text} {name : Option Text} (key : Text) → LacksSection o T name
    → LacksPair o T name key
lacks_section key h = record {
  document = h.document;
  is_document = h.is_document;
  none = ap (option_and_then (first_value key)) h.none;
}
