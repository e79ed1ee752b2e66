-- Which places an edit leaves in their column.
use Rattle.std.specs.Prelude.{◌≡◌, ◌∷◌, ◌++◌}
use Rattle.ini_text.specs.Grammar.CharacterKinds.{line_feed}
use Rattle.ini_text.specs.Grammar.Positions.{column_of}
use Rattle.ini.specs.Texts.{Text}

-- After a line feed a place has its column, whatever an edit put in the place of what stands before.
abbrev pub ColumnsStay : Text → Text → Text → Type 0
ColumnsStay old new line = column_of (old ++ line_feed ∷ line) ≡ column_of (new ++ line_feed ∷ line)
