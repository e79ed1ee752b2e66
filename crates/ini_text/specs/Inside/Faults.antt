-- What a fault keeps.
use Rattle.std.specs.Prelude.{ℕ, List}
use Rattle.std.specs.Coded.{Coded-set, coded_list, coded_ℕ, Unit-prop}
use Rattle.ini_text.specs.declared.error.ParseKind.{ParseKind}
use Rattle.ini_text.specs.declared.error.ParseKind.TheVariants as kinds
use Rattle.ini_text.specs.Errors.Messages.{HasMessage}

-- a message belongs to its kind in one way at most
pub HasMessage-prop : (kind : ParseKind) (message : List ℕ) → IsProp (HasMessage kind message)
HasMessage-prop kinds.EndOfText message = Unit-prop
HasMessage-prop kinds.BrokenEscape message = Unit-prop
HasMessage-prop kinds.UnknownCharacter message = Coded-set (coded_list coded_ℕ) message _
HasMessage-prop kinds.InlineComment message = Coded-set (coded_list coded_ℕ) message _
HasMessage-prop kinds.MissingKey message = Coded-set (coded_list coded_ℕ) message _
HasMessage-prop kinds.CrAlone message = Coded-set (coded_list coded_ℕ) message _
HasMessage-prop kinds.HeaderEnd message = Unit-prop
HasMessage-prop kinds.NoSeparator message = Coded-set (coded_list coded_ℕ) message _
