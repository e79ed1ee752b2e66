-- Values that an edit writes: those that are read back.
use Rattle.std.specs.Prelude.{◌≡◌, ◌≢◌, ◌⊎◌, ◌&&◌, ◌||◌, Bool, true, false, not, [], ◌∷◌}
use Rattle.std.specs.List.{list_all}
use Rattle.ini_text.specs.Grammar.CharacterKinds.{begins, is_blank, is_comment_mark, is_line_end}
use Rattle.ini_text.specs.Grammar.CharacterKinds.{is_quote_mark, BeginsWithNo}
use Rattle.ini_text.specs.Grammar.WhiteSpace.{trimmed}
use Rattle.ini_text.specs.Laws.Plain.{IsPlainValue}
use Rattle.ini_text.specs.declared.option.ParseOption.{ParseOption}
use Rattle.ini_text.specs.declared.write.policy.EscapePolicy.{EscapePolicy}
use Rattle.ini_text.specs.declared.write.policy.EscapePolicy.TheVariants.{Nothing}
use Rattle.ini.specs.Texts.{Text}
use Rattle.ini_edit.specs.Endings.{Ending, ending}

-- a comment mark stands behind a blank
abbrev pub has_note : Text → Bool
has_note [] = false
has_note (c ∷ cs) = is_blank c && begins is_comment_mark cs || has_note cs

-- a value that stands in a text just as it is, and is read so, its backslashes too
pub record IsRawValue (o : ParseOption) (policy : EscapePolicy) (value : Text) : Type 0 where
  -- no escapes are read
  pub unread : o.enabled_escape ≡ false
  -- and none are written
  pub unwritten : policy ≡ Nothing
  -- it is trimmed
  pub is_trimmed : trimmed value ≡ value
  -- with quotes on, no quote's mark begins it
  pub no_quote_mark : o.enabled_quote ≡ true → BeginsWithNo is_quote_mark value
  -- with inline comments on, no comment mark stands behind a blank
  pub no_note : o.enabled_inline_comment ≡ true → has_note value ≡ false
  -- no character is LF or CR
  pub one_line : list_all (λ c. not (is_line_end c)) value ≡ true
  -- no backslash at its end takes what follows: the number of those at the end is even
  pub no_lone_backslash : ending o value ≢ Ending.escape

-- a value that, written, is read back: a plain one, or a raw one
abbrev pub IsWritableValue : ParseOption → EscapePolicy → Text → Type 0
IsWritableValue o policy value = IsPlainValue o policy value ⊎ IsRawValue o policy value
