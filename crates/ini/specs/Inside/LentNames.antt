-- What the functions that look a name up know of it.
use Rattle.std.specs.Prelude.{ℕ, List, Option, IfSome}
use Rattle.std.specs.Borrow.{Bor}
use Rattle.std.specs.Str.{IsUtf8}

-- a name that is lent is UTF-8
pub record IsTextName (name : Option (Bor (List ℕ))) : Type 0 where
  pub utf8 : IfSome name (λ s. IsUtf8 s.now)
