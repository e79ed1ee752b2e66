-- How a value's own lines end: within a line; and where a raw value ends in a backslash that would take what
-- follows.
use Rattle.std.proofs.Common.{◌≡◌, ◌≢◌, ◌∙◌, ℕ, Bool, true, false, eqb, [], ◌∷◌, ◌++◌, ap}
use Rattle.std.proofs.Common.{append-nil, if◌then◌else◌, not, refl, sym}
use Rattle.std.proofs.lemmas.Bool.{both_ways, or_right}
use Rattle.ini_text.specs.Grammar.CharacterKinds.{is_inline_white, line_feed}
use Rattle.ini_text.specs.Grammar.Places.{LastLine, OwnLines, SpaceAfter, ends_bare}
use Rattle.ini_text.specs.Grammar.Positions.{last_or}
use Rattle.ini_text.specs.Grammar.Values.{LineEnd}
use Rattle.ini_text.specs.Options.Backslashes.{begins_escape}
use Rattle.ini_text.specs.Options.ReadOptions.{backslash_of}
use Rattle.ini_text.specs.declared.option.ParseOption.{ParseOption}
use Rattle.ini.specs.Texts.{Text}
use Rattle.ini_edit.specs.Endings.{Ending, ending, ending_from, next_ending}
use Rattle.ini_edit.proofs.EndingLemmas.{ending-lead, ending-text, ending_from-append}

-- the ends of texts that take nothing that follows
data IsOpen : Ending → Type 0 where
  inside : IsOpen Ending.inside
  line : IsOpen Ending.line

-- after a line end, however the line before it ends
after_end : (o : ParseOption) {e y : Text} (f : Ending) (t : Text) → LineEnd e y
    → ((f : Ending) → IsOpen f → ending_from o f t ≡ Ending.inside)
    → ending_from o f (e ++ t) ≡ Ending.inside
after_end o Ending.inside t LineEnd.lf rest = rest Ending.line IsOpen.line
after_end o Ending.line t LineEnd.lf rest = rest Ending.line IsOpen.line
after_end o Ending.escape t LineEnd.lf rest = rest Ending.inside IsOpen.inside
after_end o Ending.inside t LineEnd.cr_lf rest = rest Ending.line IsOpen.line
after_end o Ending.line t LineEnd.cr_lf rest = rest Ending.line IsOpen.line
after_end o Ending.escape t LineEnd.cr_lf rest = rest Ending.line IsOpen.line
after_end o Ending.inside t (LineEnd.cr n) rest = rest Ending.inside IsOpen.inside
after_end o Ending.line t (LineEnd.cr n) rest = rest Ending.inside IsOpen.inside
after_end o Ending.escape t (LineEnd.cr n) rest = rest Ending.inside IsOpen.inside

-- a line, in which a note may stand, before its end
line_ends : (o : ParseOption) {e y : Text} (l t : Text) → LineEnd e y
    → ((f : Ending) → IsOpen f → ending_from o f t ≡ Ending.inside)
    → ending_from o Ending.inside (l ++ (e ++ t)) ≡ Ending.inside
line_ends o {e} l t le rest =
    ending_from-append o Ending.inside l (e ++ t) ∙ after_end o (ending_from o Ending.inside l) t le rest

module _ {o : ParseOption} where
  last_ends : {t r : Text} → r ≢ [] → LastLine o t r → (e : Ending) → IsOpen e
      → ending_from o e t ≡ Ending.inside
  last_ends some (LastLine.last {w} {l} goes ln _) e is =
      ap (λ z. ending_from o e (w ++ z)) (sym (append-nil l))
      ∙ ending-lead o e w (l ++ []) goes.begins goes.lead.white ∙ ending-text [] some ln
  last_ends some (LastLine.empty_lf m) Ending.inside is = last_ends some m Ending.line IsOpen.line
  last_ends some (LastLine.empty_lf m) Ending.line is = last_ends some m Ending.line IsOpen.line
  last_ends some (LastLine.empty_lf m) Ending.escape is = elim is [ ]
  last_ends some (LastLine.empty_cr_lf m) Ending.inside is = last_ends some m Ending.line IsOpen.line
  last_ends some (LastLine.empty_cr_lf m) Ending.line is = last_ends some m Ending.line IsOpen.line
  last_ends some (LastLine.empty_cr_lf m) Ending.escape is = elim is [ ]
  last_ends some (LastLine.continued {w} {l} {e = x} {t} goes ln le m) e is =
      ending-lead o e w (l ++ (x ++ t)) goes.begins goes.lead.white
      ∙ line_ends o l t le (last_ends some m)
  last_ends some (LastLine.comment {s} {e = x} {t} noted le m) e is =
      ending_from-append o e s (x ++ t) ∙ after_end o (ending_from o e s) t le (last_ends some m)

  -- a value's own lines that something follows
  pub own_ends : {l r : Text} → r ≢ [] → OwnLines o l r → ending_from o Ending.inside l ≡ Ending.inside
  own_ends {l} some (OwnLines.first ln) =
      ap (ending_from o Ending.inside) (sym (append-nil l)) ∙ ending-text [] some ln
  own_ends some (OwnLines.more {l} {e} {t} ln le m) = line_ends o l t le (last_ends some m)

-- a text ends so where a line starts before it too
pub escape_inside : (o : ParseOption) (t : Text) → ending o t ≡ Ending.escape
    → ending_from o Ending.inside t ≡ Ending.escape
escape_inside o [] h = absurd (let no : Ending.line ≡ Ending.escape = h in cc)
escape_inside o (c ∷ t) h = h

-- its last character is a backslash that takes what follows
next_escape : (x y : Bool) → (if x then Ending.escape else (if y then Ending.line else Ending.inside))
    ≡ Ending.escape → x ≡ true
next_escape true y h = refl
next_escape false true h = absurd (let no : Ending.line ≡ Ending.escape = h in cc)
next_escape false false h = absurd (let no : Ending.inside ≡ Ending.escape = h in cc)

escape_next : (o : ParseOption) (e : Ending) (c : ℕ) → next_ending o e c ≡ Ending.escape
    → begins_escape (backslash_of o) c ≡ true
escape_next o Ending.escape c h = absurd (let no : Ending.inside ≡ Ending.escape = h in cc)
escape_next o Ending.inside c h = next_escape (begins_escape (backslash_of o) c) (eqb c line_feed) h
escape_next o Ending.line c h = next_escape (begins_escape (backslash_of o) c) (eqb c line_feed) h

escape_last : (o : ParseOption) (e : Ending) (d : ℕ) (t : Text)
    → (e ≡ Ending.escape → begins_escape (backslash_of o) d ≡ true)
    → ending_from o e t ≡ Ending.escape → begins_escape (backslash_of o) (last_or d t) ≡ true
escape_last o e d [] was h = was h
escape_last o e d (c ∷ t) was h = escape_last o (next_ending o e c) c t (escape_next o e c) h

-- no white space stands after a raw value that ends so
pub closed_space : (o : ParseOption) {raw_value space_after : Text}
    → SpaceAfter (backslash_of o) raw_value space_after
    → ending o raw_value ≡ Ending.escape → space_after ≡ []
closed_space o (SpaceAfter.bare {raw_value} bare white) h =
    let slash : begins_escape (backslash_of o) (last_or line_feed raw_value) ≡ true =
    escape_last o Ending.line line_feed raw_value (λ e. absurd (let no : Ending.line ≡ Ending.escape = e
    in cc)) h
    in
    absurd (both_ways (ends_bare (backslash_of o) raw_value)
    (ap not (or_right (is_inline_white (last_or line_feed raw_value)) _ slash)) bare)
closed_space o (SpaceAfter.escaped front white special all) h = refl
