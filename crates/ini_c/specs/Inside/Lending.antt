-- What becomes of a text that is kept with its pieces, once a loan of something in it is over.
use Rattle.std.specs.Prelude.{◌≡◌, ⊤}
use Rattle.std.specs.Borrow.{Fml, MutBor, follows_so}
use mathlib.Core.Option.{none}
use Rattle.ini_c.specs.declared.tied.Tied.{Tied}
use Rattle.ini_c.specs.contracts.tied.Tied.{the_row}

-- it is as it was
abbrev pub tied_stays : MutBor Tied → Fml
tied_stays t = follows_so the_row the_row t.ghost_name none (λ _ _. ⊤) (λ after. after ≡ t.now)
