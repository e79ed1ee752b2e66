-- The empty line before a new section.
use Rattle.std.specs.Prelude.{◌≡◌, true, [], ◌∷◌, ◌++◌}
use Rattle.ini_text.specs.Grammar.CharacterKinds.{carriage_return, line_feed}
use Rattle.ini_text.specs.Grammar.Positions.{is_column_one}
use Rattle.ini_text.specs.Options.WriteOptions.{line_end}
use Rattle.ini_text.specs.declared.write.option.LineSeparator.{LineSeparator}
use Rattle.ini.specs.Texts.{Text}

-- a front is empty, or an empty line stands last in it, which ends with LF or CR LF
pub data EndsEmpty : Text → Type 0 where
  nothing : EndsEmpty []
  by_lf : (V : Text) → is_column_one V ≡ true → EndsEmpty (V ++ line_feed ∷ [])
  by_cr_lf : (V : Text) → is_column_one V ≡ true → EndsEmpty (V ++ carriage_return ∷ line_feed ∷ [])

-- the empty line before a new section after the front W: there is none at the text's front, and no second
-- one
pub data EmptyLine (end : LineSeparator) (W : Text) : Text → Type 0 where
  there : EndsEmpty W → EmptyLine end W []
  new : ¬ EndsEmpty W → EmptyLine end W (line_end end)
