-- Lines that two texts share at their front or at their end, and the bytes that are left.
use Rattle.std.specs.Prelude.{◌≡◌, ◌<◌, ℕ, List, [], ◌∷◌, ◌++◌, length}
use Rattle.ini_file.specs.Diffs.{Line, lines_of}

-- the first line of bytes, and the bytes after it
pub record IsFirstLine (bytes line rest : List ℕ) : Type 0 where
  pub lines : lines_of bytes ≡ line ∷ lines_of rest
  pub shorter : length rest < length bytes

-- the last line of bytes, and the bytes before it
pub record IsLastLine (bytes rest line : List ℕ) : Type 0 where
  pub lines : lines_of bytes ≡ lines_of rest ++ line ∷ []
  pub shorter : length rest < length bytes

-- so many first lines are the same, and these bytes are left
pub record ShareFirst (old new : List ℕ) (count : ℕ) (removed added : List ℕ) : Type 0 where
  pub first : List Line
  pub counted : length first ≡ count
  pub old_lines : lines_of old ≡ first ++ lines_of removed
  pub new_lines : lines_of new ≡ first ++ lines_of added

-- last lines are the same, and these bytes are left
pub record ShareLast (old new : List ℕ) (removed added : List ℕ) : Type 0 where
  pub last : List Line
  pub old_lines : lines_of old ≡ lines_of removed ++ last
  pub new_lines : lines_of new ≡ lines_of added ++ last
