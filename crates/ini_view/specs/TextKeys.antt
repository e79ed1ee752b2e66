-- Keys that are characters, and keys that are characters or none: their codes, and the laws of both.
use Rattle.std.specs.Prelude.{◌≡◌, ℕ, ◌+◌, ◌%◌, ◌^◌, true, Option, Some, None, encode_utf8_all}
use Rattle.std.proofs.Common.{ap, sym}
use Rattle.std.specs.Cmp.{IsEquivalence}
use Rattle.std.specs.Cmp.Lexicographic.{bytes_decides, nat_list_eq_equiv, options_equiv}
use Rattle.ini_multimap.specs.Keys.{text_code}
use Rattle.ini.specs.Texts.{Text, is_name, is_text}

-- the code of the text's bytes
abbrev pub characters_code : Text → ℕ
characters_code t = text_code (encode_utf8_all t)

-- no name has 0, and a name has one more than the code of its text
abbrev pub name_code : Option Text → ℕ
name_code None = 0
name_code (Some t) = (characters_code t + 1) % 2 ^ 64

pub same_code : (t u : Text) → is_text t u ≡ true → characters_code t ≡ characters_code u
same_code t u h = ap characters_code ((bytes_decides t u).0 h)

pub fitting_code : (t u : Text) → is_text t u ≡ true → characters_code u ≡ characters_code t
fitting_code t u h = sym (same_code t u h)

pub same_name_code : (n m : Option Text) → is_name n m ≡ true → name_code n ≡ name_code m
same_name_code None None h = cc
same_name_code None (Some u) h = absurd cc
same_name_code (Some t) None h = absurd cc
same_name_code (Some t) (Some u) h = ap (λ c. (c + 1) % 2 ^ 64) (same_code t u h)

pub fitting_name_code : (n m : Option Text) → is_name n m ≡ true → name_code m ≡ name_code n
fitting_name_code n m h = sym (same_name_code n m h)

pub names_equiv : IsEquivalence is_name
names_equiv = options_equiv nat_list_eq_equiv
