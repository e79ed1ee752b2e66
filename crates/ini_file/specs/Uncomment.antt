-- Comments that hold a pair, and the text in which the first of them is that pair.
use Rattle.std.specs.Prelude.{◌≡◌, ◌&&◌, Bool, true, false, if◌then◌else◌, List, [], ◌∷◌, ◌++◌}
use Rattle.std.specs.Prelude.{Option, None, Some}
use Rattle.std.specs.Bool.{Decides}
use Rattle.std.specs.Cmp.Lexicographic.{bytes_decides, pointwise, pointwise_decides}
use Rattle.std.specs.List.{remove}
use Rattle.std.proofs.Common.{ap, refl}
use Rattle.std.proofs.lemmas.Bool.Decides.{Decides-and, Decides-like}
use Rattle.ini_text.specs.Grammar.CharacterKinds.{is_blank, is_comment_mark}
use Rattle.ini_text.specs.Grammar.Elements.{Element, Given, Header}
use Rattle.ini_text.specs.Grammar.Positions.{starts_line}
use Rattle.ini_text.specs.Parsing.Fronts.{front_of}
use Rattle.ini_text.specs.declared.error.Error.{Error}
use Rattle.ini_text.specs.declared.error.ParseError.{ParseError}
use Rattle.ini_text.specs.declared.option.ParseOption.{ParseOption}
use Rattle.ini.specs.Documents.{Document}
use Rattle.ini.specs.Equality.{is_pairs, is_pairs_decides}
use Rattle.ini.specs.Loading.{IsDocumentOf, IsStopOf}
use Rattle.ini.specs.Properties.{Pairs}
use Rattle.ini.specs.Texts.{Text}
use Rattle.ini_edit.specs.SourceEditsAt.{at_section}
use Rattle.ini_edit.specs.SourceLines.{after_blanks}
use Rattle.ini_edit.specs.WholeTexts.{IsRefusalOf}
use Rattle.ini_edit.specs.declared.error.EditError.{EditError}
use Rattle.ini_edit.specs.declared.error.EditError.TheVariants.{NoPlace, Text as TextError}
use Rattle.ini_dialect.specs.Lookups.{name_fits, text_fits, value_under}
use Rattle.ini_dialect.specs.SourceLookups.{IsCountingPair}
use Rattle.ini_dialect.specs.declared.rule.CaseRule.{CaseRule}
use Rattle.ini_dialect.specs.declared.rule.CaseRule.TheVariants.{Kept}
use Rattle.ini_dialect.specs.declared.rule.Lookup.{Lookup}
use Rattle.ini_dialect.specs.declared.source.PairNumber.{PairNumber}

-- what follows the blank with which a text begins
abbrev pub after_blank : Text → Text
after_blank [] = []
after_blank (c ∷ cs) = if is_blank c then cs else c ∷ cs

-- what a comment says: what follows its mark, and one blank after that
abbrev pub said : Text → Option Text
said [] = None
said (c ∷ cs) = if is_comment_mark c then Some (after_blank cs) else None

-- the pairs are one, and the document has one section, of such pairs
abbrev pub is_one_pair : CaseRule → (key : Text) → Pairs → Bool
is_one_pair case key [] = false
is_one_pair case key (p ∷ []) = text_fits case key p.0
is_one_pair case key (p ∷ q ∷ ps) = false

abbrev pub is_pair_alone : CaseRule → (key : Text) → Document → Bool
is_pair_alone case key [] = false
is_pair_alone case key (s ∷ []) = is_one_pair case key s.1
is_pair_alone case key (s ∷ t ∷ d) = false

-- two documents have the same sections, with the same pairs, in the same order
abbrev pub is_section : Option Text × Pairs → Option Text × Pairs → Bool
is_section s t = name_fits Kept s.0 t.0 && is_pairs s.1 t.1

abbrev pub is_document : Document → Document → Bool
is_document d e = pointwise is_section d e

is_name_decides : (n m : Option Text) → Decides (name_fits Kept n m) (n ≡ m)
is_name_decides None None = (λ e. refl, λ e. refl)
is_name_decides None (Some u) = (
  λ e. absurd (let no : false ≡ true = e in cc),
  λ e. absurd (let no : ◌≡◌ {A = Option Text} None (Some u) = e in cc),
)
is_name_decides (Some t) None = (
  λ e. absurd (let no : false ≡ true = e in cc),
  λ e. absurd (let no : ◌≡◌ {A = Option Text} (Some t) None = e in cc),
)
is_name_decides (Some t) (Some u) =
    Decides-like _ (ap Some) (λ e. let same : Some t ≡ Some u = e in cc) (bytes_decides t u)

is_section_decides : (s t : Option Text × Pairs) → Decides (is_section s t) (s ≡ t)
is_section_decides s t =
    Decides-like _ (λ e. λ i. (e.0 i, e.1 i)) (λ e. (ap (λ r. r.0) e, ap (λ r. r.1) e))
    (Decides-and _ _ (is_name_decides s.0 t.0) (is_pairs_decides s.1 t.1))

-- it says whether they are the same document
pub is_document_decides : (d e : Document) → Decides (is_document d e) (d ≡ e)
is_document_decides = pointwise_decides is_section_decides

module _ (o : ParseOption) (case : CaseRule) (key : Text) where
  -- whether a text that is read alone is one pair, of the key
  pub data HoldsPair (line : Text) : Bool → Type 0 where
    is_read : {d : Document} {holds : Bool} → IsDocumentOf o line d → holds ≡ is_pair_alone case key d
        → HoldsPair line holds
    is_refused : {e : ParseError} → IsStopOf o line e → HoldsPair line false

  -- After the front b stands a source that gives nothing, before a rest. It is a comment that begins its line
  -- and holds a pair of the key: then this is the text without its mark. Else it is none that is looked for.
  pub data Uncomments (inside : Bool) (b source rest : Text) : Option Text → Type 0 where
    comment : {line : Text} → inside ≡ true → starts_line b ≡ true → said (after_blanks source) ≡ Some line
        → HoldsPair line true
        → Uncomments inside b source rest
        (Some (b ++ (front_of source (after_blanks source) ++ (line ++ rest))))
    outside : inside ≡ false → Uncomments inside b source rest None
    behind : starts_line b ≡ false → Uncomments inside b source rest None
    no_comment : said (after_blanks source) ≡ None → Uncomments inside b source rest None
    no_pair : {line : Text} → said (after_blanks source) ≡ Some line → HoldsPair line false
        → Uncomments inside b source rest None

-- whether what follows an element is inside a section of the name
abbrev pub goes_inside : CaseRule → (name : Option Text) → (inside : Bool) → List Given → Bool
goes_inside case name inside [] = inside
goes_inside case name inside (Header found ∷ items) = name_fits case name (Some found)
goes_inside case name inside (Given.Pair key value ∷ items) = inside

module _ (o : ParseOption) (case : CaseRule) (key : Text) where
  -- the same of an element: one that gives an item is no comment
  abbrev pub OfElement : Bool → (b source rest : Text) → List Given → Option Text → Type 0
  OfElement inside b source rest [] made = Uncomments o case key inside b source rest made
  OfElement inside b source rest (item ∷ items) made = made ≡ None

  -- from the front b on, the text without the mark of the first comment that is looked for, if there is one
  pub data FindsAfter (name : Option Text) (T : Text) : (inside : Bool) → (b : Text) → Option Text → Type 0
    where
      none : {inside : Bool} → FindsAfter name T inside T None
      here : {inside : Bool} {b source rest U : Text} {items : List Given} → T ≡ b ++ (source ++ rest)
          → Element o b source rest items → OfElement inside b source rest items (Some U)
          → FindsAfter name T inside b (Some U)
      later : {inside : Bool} {b source rest : Text} {items : List Given} {found : Option Text}
          → T ≡ b ++ (source ++ rest) → Element o b source rest items
          → OfElement inside b source rest items None
          → FindsAfter name T (goes_inside case name inside items) (b ++ source) found
          → FindsAfter name T inside b found

  abbrev pub FindsComment : (name : Option Text) → (T : Text) → Option Text → Type 0
  FindsComment name T found = FindsAfter name T (name_fits case name None) [] found

module _ (rule : Lookup) (o : ParseOption) (name : Option Text) (key : Text) where
  -- whether a text is read as the document with one pair of the key more, which counts: without that pair it
  -- is the document
  pub data IsOneMore (d : Document) (U : Text) : Bool → Type 0 where
    is_read : {e : Document} {at : PairNumber} {same : Bool} → IsDocumentOf o U e
        → IsCountingPair rule name key e at
        → Decides same (at_section at.section (λ pairs. remove pairs at.pair) e ≡ d)
        → IsOneMore d U same
    lacks_it : {e : Document} → IsDocumentOf o U e → value_under rule name key e ≡ None → IsOneMore d U false
    is_refused : {e : ParseError} → IsStopOf o U e → IsOneMore d U false

  -- the text U is T without the mark of the first such comment, and is read as T with that pair more, where
  -- there was none of the key
  pub record IsUncommentedText (T U : Text) : Type 0 where
    pub document : Document
    pub was : IsDocumentOf o T document
    pub lacked : value_under rule name key document ≡ None
    pub first : FindsComment o rule.case key name T (Some U)
    pub is_more : IsOneMore document U true

  -- reading the text is refused, or memory is; there is a pair of the key that counts; or the text would not
  -- be read so
  pub data RefusesToUncomment (T : Text) : EditError → Type 0 where
    reading : {e : Error} → IsRefusalOf o T e → RefusesToUncomment T (TextError e)
    there : {U : Text} {d : Document} {at : PairNumber} → FindsComment o rule.case key name T (Some U)
        → IsDocumentOf o T d → IsCountingPair rule name key d at → RefusesToUncomment T NoPlace
    otherwise : {U : Text} {d : Document} → FindsComment o rule.case key name T (Some U)
        → IsDocumentOf o T d → IsOneMore d U false → RefusesToUncomment T NoPlace
