-- Where a pair stands in a text, and the text with another value in its place.
use Rattle.std.specs.Prelude.{◌≡◌, ℕ, true, List, [], ◌∷◌, ◌++◌, Option}
use Rattle.ini_text.specs.Grammar.CharacterKinds.{is_blank, is_line_end, BeginsWithNo}
use Rattle.ini_text.specs.Grammar.Places.{separator_text}
use Rattle.ini_text.specs.Grammar.Elements.{Element, Given, Pair}
use Rattle.ini_text.specs.Grammar.Texts.{Reads}
use Rattle.ini_text.specs.declared.option.ParseOption.{ParseOption}

-- A pair's stretches in a text: what stands before its element; its key's source, and the separator, which a
-- key alone lacks; white space before the value; the raw value; white space after it; a note in the same line;
-- where values are multiline, the line end and the lines that add nothing to the value; and what follows the
-- element.
pub record Stretches : Type 0 where
  pub front : List ℕ
  pub key : List ℕ
  pub separator : Option ℕ
  pub space_before : List ℕ
  pub raw_value : List ℕ
  pub space_after : List ℕ
  pub note : List ℕ
  pub trailing_lines : List ℕ
  pub rest : List ℕ

-- the element, and the text, with x in the place of the raw value
abbrev pub pair_with : Stretches → List ℕ → List ℕ
pair_with p x =
    p.key ++ (separator_text p.separator
    ++ (p.space_before ++ (x ++ (p.space_after ++ (p.note ++ p.trailing_lines)))))

abbrev pub text_with : Stretches → List ℕ → List ℕ
text_with p x = p.front ++ (pair_with p x ++ p.rest)

-- the element as it is, and the text up to its end
abbrev pub pair_of : Stretches → List ℕ
pair_of p = pair_with p p.raw_value

abbrev pub up_to_end : Stretches → List ℕ
up_to_end p = p.front ++ pair_of p

-- The stretches are those of a pair of the text, which gives the items before it, and those after it.
pub record StandsAt (o : ParseOption) (T : List ℕ) (p : Stretches) (key value : List ℕ)
    (before after : List Given) : Type 0 where
  pub text : T ≡ text_with p p.raw_value
  pub reads : Reads o T [] before p.front
  pub is_element : Element o p.front (pair_of p) p.rest (Pair key value ∷ [])
  pub then : Reads o T (up_to_end p) after T

-- what may follow a multiline value
pub record Follows (o : ParseOption) (x : List ℕ) : Type 0 where
  pub no_blank : o.enabled_indented_mutiline_value ≡ true → BeginsWithNo is_blank x
  pub no_line_end : o.enabled_indented_mutiline_value ≡ true → BeginsWithNo is_line_end x
