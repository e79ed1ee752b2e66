-- Lines and columns that are counted along a text.
use Rattle.std.specs.Prelude.{◌≡◌, ◌+◌, ◌<◌, ◌^◌, ℕ, List}
use Rattle.ini_text.specs.Grammar.Positions.{column_of, line_of}
use Rattle.ini_check.specs.declared.position.Position.{Position}

-- it is the place after the front b
pub record IsAt (b : List ℕ) (m : Position) : Type 0 where
  pub line : m.line ≡ line_of b
  pub column : m.column ≡ column_of b

-- so many characters after it line and column still fit a word
pub record HasRoom (n : ℕ) (m : Position) : Type 0 where
  pub line : m.line + n < 2 ^ 64
  pub column : m.column + n < 2 ^ 64
