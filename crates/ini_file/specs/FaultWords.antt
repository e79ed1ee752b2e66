-- The refusals of a text in words for people.
use Rattle.std.specs.Prelude.{ℕ, List, codes}
use Rattle.ini_text.specs.declared.error.ParseKind.{ParseKind}
use Rattle.ini_text.specs.declared.error.ParseKind.TheVariants.{BrokenEscape, CrAlone, EndOfText, HeaderEnd}
use Rattle.ini_text.specs.declared.error.ParseKind.TheVariants.{InlineComment, MissingKey, NoSeparator}
use Rattle.ini_text.specs.declared.error.ParseKind.TheVariants.{UnknownCharacter}

abbrev pub fault_words : ParseKind → List ℕ
fault_words EndOfText = codes "the text ends within this"
fault_words BrokenEscape = codes "a backslash stands among the four digits after \\x"
fault_words UnknownCharacter = codes "no character has these four digits after \\x"
fault_words InlineComment = codes "a comment begins only at the front of a line"
fault_words MissingKey = codes "no key stands before this"
fault_words CrAlone = codes "among the lines of a value a CR has no LF after it"
fault_words HeaderEnd = codes "the line of a section's name doesn't end in ]"
fault_words NoSeparator = codes "this key has no = or : after it in its line"
