-- The fault in words.
use Rattle.std.specs.Prelude.{codes, ◌≡◌, ℕ, List, ⊤}
use Rattle.ini_text.specs.declared.error.ParseKind.{ParseKind}
use Rattle.ini_text.specs.declared.error.ParseKind.TheVariants.{UnknownCharacter, InlineComment, MissingKey}
use Rattle.ini_text.specs.declared.error.ParseKind.TheVariants.{CrAlone, NoSeparator}

-- five kinds have one fixed message; the messages of the others say what was expected
abbrev pub HasMessage : ParseKind → List ℕ → Type 0
HasMessage UnknownCharacter message = message ≡ codes "unknown character in \\xHH form"
HasMessage InlineComment message = message ≡ codes "doesn't support inline comment"
HasMessage MissingKey message = message ≡ codes "missing key"
HasMessage CrAlone message = message ≡ codes "\\r is not followed by \\n"
HasMessage NoSeparator message = message ≡ codes "no separator follows the key in its line"
HasMessage _ message = ⊤
