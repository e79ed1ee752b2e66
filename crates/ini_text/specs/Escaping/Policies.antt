-- Which characters a policy escapes.
use Rattle.std.specs.Prelude.{ℕ, Bool, false, ◌||◌, ◌&&◌, ◌==◌, nat_lt, nat_le}
use Rattle.ini_text.specs.Grammar.CharacterKinds.{backslash, is_comment_mark, is_separator}
use Rattle.ini_text.specs.declared.write.policy.EscapePolicy.{EscapePolicy}
use Rattle.ini_text.specs.declared.write.policy.EscapePolicy.TheVariants.{Nothing, Basics, BasicsUnicode}
use Rattle.ini_text.specs.declared.write.policy.EscapePolicy.TheVariants.{BasicsUnicodeExtended, Reserved}
use Rattle.ini_text.specs.declared.write.policy.EscapePolicy.TheVariants.{ReservedUnicode}
use Rattle.ini_text.specs.declared.write.policy.EscapePolicy.TheVariants.{ReservedUnicodeExtended, Everything}

-- a backslash, or a control character: U+0000 to U+001F, U+007F
abbrev pub is_basic : ℕ → Bool
is_basic c = c == backslash || nat_lt c 0x20 || c == 0x7F

-- ; # = :
abbrev pub is_reserved : ℕ → Bool
is_reserved c = is_comment_mark c || is_separator c

-- U+0080 to U+FFFF
abbrev pub is_unicode : ℕ → Bool
is_unicode c = nat_le 0x80 c && nat_lt c 0x1_0000

-- above U+FFFF
abbrev pub is_extended : ℕ → Bool
is_extended c = nat_le 0x1_0000 c

-- the policy escapes the character
abbrev pub is_escaped : EscapePolicy → ℕ → Bool
is_escaped Nothing c = false
is_escaped Basics c = is_basic c
is_escaped BasicsUnicode c = is_basic c || is_unicode c
is_escaped BasicsUnicodeExtended c = is_basic c || is_unicode c || is_extended c
is_escaped Reserved c = is_basic c || is_reserved c
is_escaped ReservedUnicode c = is_basic c || is_reserved c || is_unicode c
is_escaped ReservedUnicodeExtended c = is_basic c || is_reserved c || is_unicode c || is_extended c
is_escaped Everything c = is_basic c || is_reserved c || is_unicode c || is_extended c
