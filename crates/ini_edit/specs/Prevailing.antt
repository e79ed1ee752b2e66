-- The separator that most pairs of a text have, with a blank or none on each side.
use Rattle.std.specs.Prelude.{◌==◌, ◌&&◌, ◌||◌, not, if◌then◌else◌, flat_map, nat_lt, ℕ, Bool, true, false}
use Rattle.std.specs.Prelude.{List, [], ◌∷◌, Option, None, Some}
use Rattle.std.specs.Bool.{beq}
use Rattle.std.specs.List.{best_of, count_by}
use Rattle.std.specs.Option.{option_map, unwrap_or}
use Rattle.ini_text.specs.Grammar.CharacterKinds.{colon, equals, space, is_blank, is_line_end, begins}
use Rattle.ini.specs.Texts.{Text}
use Rattle.ini_edit.specs.SourceLines.{blanks_at_end, is_empty}
use Rattle.ini_edit.specs.SourcePlaces.{is_nil}
use Rattle.ini_edit.specs.SourceWritten.{Style}
use Rattle.ini_edit.specs.Sources.{PairPiece, SectionPiece}
use Rattle.ini_edit.specs.declared.source.layout.prevailing.Form.{Form}

-- a value gives its first line nothing
abbrev pub leaves_line_empty : (raw_value : Text) → Bool
leaves_line_empty raw_value = is_empty raw_value || begins is_line_end raw_value

-- a separator, and whether blanks stand before it and after it
abbrev pub form_with : (separator : ℕ) (padded spaced : Bool) → Form
form_with separator padded spaced = record { separator = separator; padded = padded; spaced = spaced }

abbrev pub is_form : Form → Form → Bool
is_form a b = a.separator == b.separator && (beq a.padded b.padded && beq a.spaced b.spaced)

-- The form that a pair shows. Where separators are aligned, the blanks before one show nothing, and count as
-- those after it.
abbrev pub form_of : (aligned : Bool) → PairPiece → Form
form_of aligned p =
    let spaced = begins is_blank p.stretches.space_before in
    form_with (unwrap_or p.stretches.separator equals)
    (if aligned then spaced else not (is_empty (blanks_at_end p.stretches.key))) spaced

-- none is shown by a pair whose value gives its line nothing
abbrev pub forms_of : (aligned : Bool) → PairPiece → List Form
forms_of aligned p = if leaves_line_empty p.stretches.raw_value then [] else form_of aligned p ∷ []

abbrev pub forms_in : (aligned : Bool) → List SectionPiece → List Form
forms_in aligned ss = flat_map (λ s. flat_map (forms_of aligned) s.pairs) ss

-- the first of two stands in a list, and the second doesn't before it
abbrev pub comes_first : (a b : Form) → List Form → Bool
comes_first a b [] = false
comes_first a b (x ∷ xs) = if is_form x a then true else (if is_form x b then false else comes_first a b xs)

abbrev pub count_of : Form → List Form → ℕ
count_of a xs = count_by (λ x. is_form x a) xs

-- a list has more of the first one, or as many, and that comes first
abbrev pub prevails : List Form → (a b : Form) → Bool
prevails xs a b =
    nat_lt (count_of b xs) (count_of a xs) || (count_of b xs == count_of a xs && comes_first a b xs)

-- all forms but that of `=` alone
abbrev pub other_forms : List Form
other_forms =
    form_with equals false true ∷ form_with equals true false ∷ form_with equals true true
    ∷ form_with colon false false ∷ form_with colon false true ∷ form_with colon true false
    ∷ form_with colon true true ∷ []

-- the form that prevails in a list
abbrev pub prevailing : List Form → Option Form
prevailing xs =
    if is_nil xs then None else Some (best_of (prevails xs) (form_with equals false false) other_forms)

abbrev pub blank_if : Bool → Text
blank_if b = if b then space ∷ [] else []

-- how a form is written
abbrev pub form_style : Form → Style
form_style f = record {
  indent = [];
  pad = blank_if f.padded;
  separator = f.separator;
  space_before = blank_if f.spaced;
}

abbrev pub prevailing_style : (aligned : Bool) → List SectionPiece → Option Style
prevailing_style aligned ss = option_map form_style (prevailing (forms_in aligned ss))
