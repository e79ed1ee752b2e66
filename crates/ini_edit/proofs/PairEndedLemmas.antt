-- Multiline values that something follows: they end with a line end.
use Rattle.std.proofs.Common.{◌≡◌, ◌≢◌, ◌∙◌, ℕ, true, false, [], ◌∷◌, ◌++◌, ap, refl}
use Rattle.std.proofs.lemmas.Bool.{both_ways}
use Rattle.ini_text.specs.Grammar.CharacterKinds.{is_line_end, line_feed}
use Rattle.ini_text.specs.Grammar.Places.{TrailingLines}
use Rattle.ini_text.specs.Grammar.Positions.{last_or}
use Rattle.ini_text.specs.Grammar.Values.{LineEnd, MoreLines, Value}
use Rattle.ini_text.specs.declared.option.ParseOption.{ParseOption}
use Rattle.ini_text.proofs.LawLemmas.PieceLemmas.{last_or-append}
use Rattle.ini.specs.Texts.{Text}
use Rattle.ini_edit.specs.Endings.{Closing, Ending, ending_from, next_ending}
use Rattle.ini_edit.proofs.EmptyLineLemmas.{closing_nothing, no_backslash, no_escape}

line_end_last : (c : ℕ) {e r : Text} → LineEnd e r → is_line_end (last_or c e) ≡ true
line_end_last c LineEnd.lf = refl
line_end_last c LineEnd.cr_lf = refl
line_end_last c (LineEnd.cr n) = refl

past : (c : ℕ) (s t : Text) → is_line_end (last_or (last_or c s) t) ≡ true
    → is_line_end (last_or c (s ++ t)) ≡ true
past c s t h = ap is_line_end (last_or-append c s t) ∙ h

module _ {o : ParseOption} where
  lines_end : {t r v : Text} (c : ℕ) → MoreLines o t r v → r ≢ [] → is_line_end c ≡ true
      → is_line_end (last_or c t) ≡ true
  lines_end c (MoreLines.done n m) some h = h
  lines_end c (MoreLines.empty_lf m) some h = lines_end line_feed m some refl
  lines_end c (MoreLines.empty_cr_lf m) some h = lines_end line_feed m some refl
  lines_end c (MoreLines.continued {w} {l} {e} {t} goes ln le m) some h =
      let d = last_or (last_or c w) l in
      past c w (l ++ (e ++ t)) (past (last_or c w) l (e ++ t) (past d e t
      (lines_end (last_or d e) m some (line_end_last d le))))
  lines_end c (MoreLines.last goes ln) some h = absurd (some refl)
  lines_end c (MoreLines.comment {s} {e} {t} line le m) some h =
      let d = last_or c s in
      past c s (e ++ t) (past d e t (lines_end (last_or d e) m some (line_end_last d le)))
  lines_end c (MoreLines.last_comment line) some h = absurd (some refl)

  -- a value, and the lines that give nothing more
  pub value_end : {s r v : Text} (c : ℕ) → o.enabled_indented_mutiline_value ≡ true → Value o s r v → r ≢ []
      → is_line_end (last_or c s) ≡ true
  value_end c on (Value.one_line off lead ln) some =
      absurd (both_ways o.enabled_indented_mutiline_value off on)
  value_end c on (Value.to_end _ lead ln) some = absurd (some refl)
  value_end c on (Value.lines {w} {l} {e} {t} _ lead ln le m) some =
      let d = last_or (last_or c w) l in
      past c w (l ++ (e ++ t)) (past (last_or c w) l (e ++ t) (past d e t
      (lines_end (last_or d e) m some (line_end_last d le))))

  pub trailing_end : {t r : Text} (c : ℕ) → o.enabled_indented_mutiline_value ≡ true → TrailingLines o t r
      → r ≢ [] → is_line_end (last_or c t) ≡ true
  trailing_end c on (TrailingLines.line off closes) some =
      absurd (both_ways o.enabled_indented_mutiline_value off on)
  trailing_end c on (TrailingLines.end _) some = absurd (some refl)
  trailing_end c on (TrailingLines.lines {e} {t} _ end more all) some =
      past c e t (lines_end (last_or c e) more some (line_end_last c end))

-- no backslash is alone after a line end
pub end_closes : {o : ParseOption} (e : Ending) (t : Text) → is_line_end (last_or 0 t) ≡ true
    → Closing o (ending_from o e t) []
end_closes {o} e [] h = absurd (let no : false ≡ true = h in cc)
end_closes {o} e (c ∷ t) h = closing_nothing (ending_from o e (c ∷ t)) (apart e c t h)
  where
    apart : (e : Ending) (c : ℕ) (t : Text) → is_line_end (last_or c t) ≡ true
        → ending_from o e (c ∷ t) ≢ Ending.escape
    apart e c [] h = no_escape o e [] c (no_backslash is_line_end c refl h)
    apart e c (d ∷ t) h = apart (next_ending o e c) d t h
