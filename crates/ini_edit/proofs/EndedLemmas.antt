-- What begins with a line end is some text.
use Rattle.std.proofs.Common.{◌≢◌, ℕ, List, [], ◌++◌}
use Rattle.ini_text.specs.Grammar.Values.{LineEnd}

pub line_end-some-after : {e : List ℕ} (z y : List ℕ) → LineEnd e y → (e ++ z) ≢ []
line_end-some-after z y LineEnd.lf h = cc
line_end-some-after z y LineEnd.cr_lf h = cc
line_end-some-after z y (LineEnd.cr n) h = cc
