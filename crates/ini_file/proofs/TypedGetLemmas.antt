-- How look-ups end in a file, by how they end in its document.
use Rattle.std.proofs.Common.{◌≡◌, ◌∙◌, ℕ, Bool, true, false, List, [], ◌∷◌, Option, Bor, chars, length, map}
use Rattle.std.proofs.Common.{arith, eqb-true, subst}
use Rattle.std.specs.Prelude.{◌==◌}
use Rattle.std.proofs.lemmas.Simd.{map-map}
use Rattle.std.specs.declared.alloc.Global.{Global}
use Rattle.std.specs.declared.vec.Vec.{Vec}
use Rattle.ini_text.specs.declared.error.Error.{Error}
use Rattle.ini_text.specs.declared.option.ParseOption.{ParseOption}
use Rattle.ini.specs.Documents.{Document}
use Rattle.ini.specs.Texts.{Text, str_name, str_text}
use Rattle.ini_words.specs.Words.{Word}
use Rattle.ini_file.specs.Merges.{Loads}
use Rattle.ini_file.specs.Order.{words_of}
use Rattle.ini_file.specs.Told.{EndsOfTexts, EndsWith, GotAs}
use Rattle.ini_file.specs.Typed.{AreConverted}
use Rattle.ini_file.specs.TypedGets.{EndsGot, EndsOn, EndsTyped, end_of, got_texts}
use Rattle.ini_file.specs.declared.manner.ValueKind.{ValueKind}
use Rattle.ini_file.specs.declared.typed.Converted.{Converted}
use Rattle.ini_file.specs.declared.typed.Converted.TheVariants.{Not as NotConverted, Texts}
use Rattle.ini_file.specs.declared.typed_get.TypedEnd.{TypedEnd}
use Rattle.ini_file.specs.declared.typed_get.TypedEnd.TheVariants.{Done, Not, NotFound, Refused}
use Rattle.ini_file.specs.declared.words.Wanted.{Wanted}

-- a document refuses nothing
none_refused : (made : List Text → Word) (texts : List Text) (refused : Error)
    → EndsOfTexts made texts (Refused refused) → ⊥
none_refused made [] refused h = h
none_refused made (text ∷ texts) refused h = h

none_refused_on : (null : Bool) (kind : ValueKind) (home : Option Word) (values : List Word)
    (refused : Error) → EndsOn null kind home values (Refused refused) → ⊥
none_refused_on null kind home [] refused h = h
none_refused_on null kind home (value ∷ values) refused h = h

-- what is made of its values is made of the file's
pub ends-with : (o : ParseOption) (w : Wanted) (made : List Text → Word) (input : List ℕ) (end : TypedEnd)
    (d : Document) → Loads o input d → GotAs w made d end → EndsWith o w made input end
ends-with o w made input (Done bytes) d loads got = (d, loads, got)
ends-with o w made input NotFound d loads got = (d, loads, got)
ends-with o w made input (Not index) d loads got = (d, loads, got)
ends-with o w made input (Refused refused) d loads got = absurd (none_refused made _ refused got)

pub ends-typed : (o : ParseOption) (w : Wanted) (kind : ValueKind) (home : Option Word) (input : List ℕ)
    (end : TypedEnd) (d : Document) → Loads o input d → EndsGot w kind home d end
    → EndsTyped o w kind home input end
ends-typed o w kind home input (Done bytes) d loads got = (d, loads, got)
ends-typed o w kind home input NotFound d loads got = (d, loads, got)
ends-typed o w kind home input (Not index) d loads got = (d, loads, got)
ends-typed o w kind home input (Refused refused) d loads got =
    absurd (none_refused_on w.null kind home got.0 refused got.2)

-- texts that were got, and what is made of them
none-made : (made : List Text → Word) (texts : List (Bor (List ℕ))) → (length texts == 0) ≡ true
    → EndsOfTexts made (map str_text texts) NotFound
none-made made [] none = tt
none-made made (text ∷ texts) none =
    let empty : length (text ∷ texts) ≡ 0 = eqb-true (length (text ∷ texts)) 0 none in absurd (omega arith)

some-made : (made : List Text → Word) (texts : List (Bor (List ℕ))) → (length texts == 0) ≡ false
    → (bytes : Vec ℕ Global) → bytes.items ≡ made (map str_text texts)
    → EndsOfTexts made (map str_text texts) (Done bytes)
some-made made [] some bytes is = cc
some-made made (text ∷ texts) some bytes is = is

module _ (made : List Text → Word) (texts : List (Bor (List ℕ))) (got : List Text)
    (are : map str_text texts ≡ got) where
  pub got-no-texts : (length texts == 0) ≡ true → EndsOfTexts made got NotFound
  got-no-texts none = subst (λ ts. EndsOfTexts made ts NotFound) are (none-made made texts none)

  pub got-texts : (length texts == 0) ≡ false → (bytes : Vec ℕ Global)
      → bytes.items ≡ made (map str_text texts) → EndsOfTexts made got (Done bytes)
  got-texts some bytes is =
      subst (λ ts. EndsOfTexts made ts (Done bytes)) are (some-made made texts some bytes is)

-- values that are there end in what they say, or in the first that says nothing
missing-on : (null : Bool) (kind : ValueKind) (home : Option Word) (texts : List (Bor (List ℕ)))
    → (length texts == 0) ≡ true → EndsOn null kind home (words_of texts) NotFound
missing-on null kind home [] none = tt
missing-on null kind home (text ∷ texts) none =
    let empty : length (text ∷ texts) ≡ 0 = eqb-true (length (text ∷ texts)) 0 none in absurd (omega arith)

said-on : (null : Bool) (kind : ValueKind) (home : Option Word) (texts : List (Bor (List ℕ)))
    → (length texts == 0) ≡ false → (bytes : Vec ℕ Global)
    → AreConverted kind home (end_of null) (words_of texts) (Texts bytes)
    → EndsOn null kind home (words_of texts) (Done bytes)
said-on null kind home [] some bytes said = cc
said-on null kind home (text ∷ texts) some bytes said = said

unsaid-on : (null : Bool) (kind : ValueKind) (home : Option Word) (texts : List (Bor (List ℕ)))
    → (length texts == 0) ≡ false → (index : ℕ)
    → AreConverted kind home (end_of null) (words_of texts) (NotConverted index)
    → EndsOn null kind home (words_of texts) (Not index)
unsaid-on null kind home [] some index unsaid = cc
unsaid-on null kind home (text ∷ texts) some index unsaid = unsaid

module _ (w : Wanted) (kind : ValueKind) (home : Option Word) (d : Document) (texts : List (Bor (List ℕ)))
    (are : map str_text texts
    ≡ got_texts w.rule w.all (str_text w.key) (str_name w.section) (str_name w.default) d) where
  are-got : map chars (words_of texts)
      ≡ got_texts w.rule w.all (str_text w.key) (str_name w.section) (str_name w.default) d
  are-got = map-map chars (λ text. text.now) texts ∙ are

  pub got-none : (length texts == 0) ≡ true → EndsGot w kind home d NotFound
  got-none none = (words_of texts, are-got, missing-on w.null kind home texts none)

  module _ (end : Word) (ends : end ≡ end_of w.null) (some : (length texts == 0) ≡ false)
      (converted : Converted) (are_converted : AreConverted kind home end (words_of texts) converted) where
    converted-as : (answer : Converted) → converted ≡ answer
        → AreConverted kind home (end_of w.null) (words_of texts) answer
    converted-as answer is =
        subst (λ e. AreConverted kind home e (words_of texts) answer) ends
        (subst (AreConverted kind home end (words_of texts)) is are_converted)

    pub got-said : (bytes : Vec ℕ Global) → converted ≡ Texts bytes → EndsGot w kind home d (Done bytes)
    got-said bytes is =
        (words_of texts, are-got, said-on w.null kind home texts some bytes (converted-as (Texts bytes) is))

    pub got-unsaid : (index : ℕ) → converted ≡ NotConverted index → EndsGot w kind home d (Not index)
    got-unsaid index is = (
      words_of texts,
      are-got,
      unsaid-on w.null kind home texts some index (converted-as (NotConverted index) is),
    )
