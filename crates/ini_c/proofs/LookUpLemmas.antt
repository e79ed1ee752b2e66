-- The bytes of a text that is found.
use Rattle.std.proofs.Common.{◌≡◌, ℕ, List, Option, Some, ◌∙◌, ap, IsUtf8, chars}
use Rattle.std.proofs.lemmas.Str.{encodes-chars}
use Rattle.ini.specs.Texts.{Text}
use Rattle.ini_c.specs.LookUps.{utf8_of}

pub utf8_found : (found : Option Text) (value : List ℕ) → IsUtf8 value → found ≡ Some (chars value)
    → utf8_of found ≡ Some value
utf8_found found value is_text e = ap utf8_of e ∙ ap Some (encodes-chars value is_text)
