-- Texts with what is written for them.
use Rattle.std.proofs.Common.{◌≡◌, [], ◌∷◌, refl}
use Rattle.std.specs.Prelude.{codes}
use Rattle.ini_text.specs.Escaping.EscapedTexts.{escape, escaped}
use Rattle.ini_text.specs.declared.write.policy.EscapePolicy.TheVariants.{Nothing, Basics, BasicsUnicode}
use Rattle.ini_text.specs.declared.write.policy.EscapePolicy.TheVariants.{BasicsUnicodeExtended, Reserved}
use Rattle.ini_text.specs.declared.write.policy.EscapePolicy.TheVariants.{ReservedUnicode}
use Rattle.ini_text.specs.declared.write.policy.EscapePolicy.TheVariants.{ReservedUnicodeExtended}

controls : escaped Basics (0x7C ∷ 0x07 ∷ 0x7C ∷ 0x08 ∷ 0x7C ∷ 0x7F ∷ 0x7C ∷ 0x1B ∷ 0x7C ∷ [])
    ≡ codes "|\\a|\\b|\\x007f|\\x001b|"
unfolding escape
controls = refl

backslashes : escaped Basics (codes "\\backslashes\\") ≡ codes "\\\\backslashes\\\\"
unfolding escape
backslashes = refl

white : escaped Basics (0x09 ∷ 0x20 ∷ 0x0D ∷ 0x0A ∷ []) ≡ codes "\\t \\r\\n"
unfolding escape
white = refl

punctuation : escaped Basics (codes ":=;#") ≡ codes ":=;#"
unfolding escape
punctuation = refl

reserved : escaped Reserved (codes ":=;#") ≡ codes "\\:\\=\\;\\#"
unfolding escape
reserved = refl

unicode : escaped BasicsUnicode (0xE9 ∷ 0xA3 ∷ 0x2233 ∷ 0x5B57 ∷ 0x2728 ∷ [])
    ≡ codes "\\x00e9\\x00a3\\x2233\\x5b57\\x2728"
unfolding escape
unicode = refl

emoji : escaped ReservedUnicode (0x1_F431 ∷ 0x1_F609 ∷ []) ≡ 0x1_F431 ∷ 0x1_F609 ∷ []
unfolding escape
emoji = refl

extended : escaped ReservedUnicodeExtended (0x1_F431 ∷ 0x1_F609 ∷ []) ≡ codes "\\x1f431\\x1f609"
unfolding escape
extended = refl

highest : escaped BasicsUnicodeExtended (0x10_ABCD ∷ 0x10_FFFF ∷ []) ≡ codes "\\x10abcd\\x10ffff"
unfolding escape
highest = refl

nothing : escaped Nothing (0x00 ∷ 0x5C ∷ 0x3B ∷ 0x5B57 ∷ []) ≡ 0x00 ∷ 0x5C ∷ 0x3B ∷ 0x5B57 ∷ []
unfolding escape
nothing = refl
