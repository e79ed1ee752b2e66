-- Reading a string by steps that each take a piece.
use Rattle.std.specs.Prelude.{◌≡◌, ℕ, zero, suc, ◌==◌, ◌&&◌, Bool, if◌then◌else◌, List, [], ◌∷◌, Option}
use Rattle.std.specs.Prelude.{Some, None, unwrap_or}
use Rattle.ini_text.specs.Grammar.CharacterKinds.{backslash, letter_x, line_feed}
use Rattle.ini_text.specs.Grammar.EscapeSequences.{control, spelled_by}
use Rattle.ini_text.specs.Options.Backslashes.{Backslash, reads_escapes, begins_escape}
use Rattle.ini_text.specs.Grammar.Strings.{Ends, is_endpoint, is_before_note}
use Rattle.ini_text.specs.Inside.Reading.{Answer, found, stopped, and_then, Step, more, ends, read_by}
use Rattle.ini_text.specs.declared.error.ParseKind.TheVariants.{EndOfText, BrokenEscape, UnknownCharacter}

-- after a backslash among the units
abbrev pub folded_unit : List ℕ → Answer (Option ℕ)
folded_unit [] = stopped [] EndOfText
folded_unit (c ∷ cs) = if c == line_feed then found (None ∷ []) cs else stopped cs BrokenEscape

abbrev pub unit : List ℕ → Answer (Option ℕ)
unit [] = stopped [] EndOfText
unit (c ∷ cs) = if c == backslash then folded_unit cs else found (Some c ∷ []) cs

-- so many units
abbrev pub units : ℕ → List ℕ → Answer (Option ℕ)
units zero t = found [] t
units (suc k) t = and_then (units k) (unit t)

abbrev pub character : Option ℕ → List ℕ → Answer ℕ
character (Some v) r = found (v ∷ []) r
character None r = stopped r UnknownCharacter

-- the character that the units spell
abbrev pub spelled_character : Answer (Option ℕ) → Answer ℕ
spelled_character (found us r) = character (spelled_by us) r
spelled_character (stopped r k) = stopped r k

-- after \x
unfoldable pub coded_character : List ℕ → Answer ℕ
coded_character t = spelled_character (units 4 t)

-- what a backslash and the character after it stand for, where that is not the x of a code
abbrev pub value_after_backslash : Bool → ℕ → List ℕ
value_after_backslash escapes c =
    if c == line_feed then []
    else if escapes then unwrap_or (control c) c ∷ []
    else backslash ∷ c ∷ []

-- where the text ends, after the characters w
abbrev pub at_end : Ends → List ℕ → Answer ℕ
at_end to w = if to.text then found w [] else stopped [] EndOfText

abbrev pub as_step : Answer ℕ → Step ℕ
as_step (found v r) = more v r
as_step (stopped r k) = ends (stopped r k)

-- after a backslash
abbrev pub escape : Bool → Ends → List ℕ → Step ℕ
escape e to [] = ends (at_end to (backslash ∷ []))
escape e to (c ∷ cs) =
    if c == letter_x && e then as_step (coded_character cs) else more (value_after_backslash e c) cs

abbrev pub piece : Backslash → Ends → List ℕ → Step ℕ
piece b to [] = ends (at_end to [])
piece b to (c ∷ cs) =
    if begins_escape b c then escape (reads_escapes b) to cs
    else if is_endpoint to c then ends (found [] (c ∷ cs))
    else if is_before_note to c cs then ends (found (c ∷ []) cs)
    else more (c ∷ []) cs

unfoldable pub string : Backslash → Ends → List ℕ → Answer ℕ
string b to t = read_by (piece b to) t

-- whatever a backslash is, the string at the front of a text is v, and r follows it
abbrev pub ReadsRaw : Ends → List ℕ → List ℕ → List ℕ → Type 0
ReadsRaw to t v r = (b : Backslash) → string b to t ≡ found v r
