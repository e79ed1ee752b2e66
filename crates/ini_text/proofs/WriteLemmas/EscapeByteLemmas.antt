-- The bytes of escapes, and of a text that begins with a character that is escaped.
use Rattle.std.proofs.Common.{◌≡◌, ◌≢◌, ◌∙◌, sym, ℕ, zero, suc, ◌<◌, true, false, not, subst, List, []}
use Rattle.std.proofs.Common.{length, ◌∷◌, ◌++◌, refl, ap, arith, eqb-true, get_or, nat_eq, cond, Some, None}
use Rattle.std.proofs.Common.{Option, encode_utf8_all}
use Rattle.std.specs.Str.{IsAscii}
use Rattle.ini_text.specs.declared.write.escape.TheConstants.{LETTERS}
use Rattle.ini_text.proofs.StringLemmas.TableLemmas.{tested}
use Rattle.std.proofs.lemmas.Bool.Decides.{nat_tests}
use Rattle.std.proofs.lemmas.Str.{chars-nil, encodes-append, encodes-IsAscii}
use Rattle.std.proofs.lemmas.Str.Ascii.{IsAscii-nil, IsAscii-cons}
use Rattle.ini_text.specs.Escaping.EscapedTexts.{escape, escape_by, escaped, escaped_bytes, letter_of}
use Rattle.ini_text.specs.Escaping.EscapedTexts.{hex_digits, digit_count}
use Rattle.ini_text.specs.Escaping.Policies.{is_escaped}
use Rattle.ini_text.specs.Grammar.CharacterKinds.{BeginsWithNo, backslash, letter_x}
use Rattle.ini_text.specs.declared.write.policy.EscapePolicy.{EscapePolicy}

-- an option as a number
abbrev code : Option ℕ → ℕ
code None = 0
code (Some letter) = suc letter

same_code : (a b : Option ℕ) → code a ≡ code b → a ≡ b
same_code None None same = refl
same_code None (Some b) same = absurd (omega arith)
same_code (Some a) None same = absurd (omega arith)
same_code (Some a) (Some b) same = ap Some (omega arith)

-- an entry of the table of letters as an option
abbrev unless_zero : ℕ → Option ℕ
unless_zero zero = None
unless_zero (suc n) = Some (suc n)

nonzero : (e : ℕ) → e ≢ 0 → unless_zero e ≡ Some e
nonzero zero some = absurd (some refl)
nonzero (suc n) some = refl

letter_found : (c e : ℕ) → c < 128 → e ≡ get_or LETTERS c 0 → unless_zero e ≡ letter_of c
letter_found c e within is = same_code (unless_zero e) (letter_of c)
    (eqb-true _ _
    (tested (λ x k. nat_eq (code (unless_zero x)) (code (letter_of k))) LETTERS 128 c e refl within is))

pub letter_is : (c e : ℕ) → c < 128 → e ≡ get_or LETTERS c 0 → e ≢ 0 → Some e ≡ letter_of c
letter_is c e within is some = sym (nonzero e some) ∙ letter_found c e within is

IsAscii-hex_digits : (n c : ℕ) → IsAscii (hex_digits n c)
IsAscii-hex_digits zero c = IsAscii-nil
IsAscii-hex_digits (suc n) c = IsAscii-cons _ _ (grind (arith, nat_tests)) (IsAscii-hex_digits n c)

letter_of-ascii : (c letter : ℕ) → letter_of c ≡ Some letter → letter < 128
letter_of-ascii c letter is = grind (arith, nat_tests)

IsAscii-escape_by : (letter : Option ℕ) (c : ℕ) → letter_of c ≡ letter → IsAscii (escape_by letter c)
IsAscii-escape_by (Some letter) c is =
    IsAscii-cons backslash (letter ∷ []) (omega arith)
    (IsAscii-cons letter [] (letter_of-ascii c letter is) IsAscii-nil)
IsAscii-escape_by None c is =
    let digits = hex_digits (digit_count c) c in
    IsAscii-cons backslash (letter_x ∷ digits) (omega arith)
    (IsAscii-cons letter_x digits (omega arith) (IsAscii-hex_digits (digit_count c) c))

pub IsAscii-escape : (c : ℕ) → IsAscii (escape c)
unfolding escape
IsAscii-escape c = IsAscii-escape_by (letter_of c) c refl

-- a text that begins with a character that is escaped
pub escaped-next : (policy : EscapePolicy) (c : ℕ) (text rest : List ℕ) → text ≡ c ∷ rest
    → is_escaped policy c ≡ true
    → encode_utf8_all (escaped policy text) ≡ escape c ++ encode_utf8_all (escaped policy rest)
escaped-next policy c text rest parts is =
    let first : escaped policy (c ∷ rest) ≡ escape c ++ escaped policy rest =
    ap (λ b. cond b (escape c) (c ∷ []) ++ escaped policy rest) is in
    rw (parts, first, encodes-append, encodes-IsAscii (escape c) (IsAscii-escape c)) refl

-- a text's first character, where it begins with none that isn't escaped
pub escaped-first : (policy : EscapePolicy) (c : ℕ) (text rest : List ℕ) → text ≡ c ∷ rest
    → BeginsWithNo (λ d. not (is_escaped policy d)) text → is_escaped policy c ≡ true
escaped-first policy c text rest parts begins =
    let first : not (is_escaped policy c) ≡ false =
    subst (BeginsWithNo (λ d. not (is_escaped policy d))) parts begins in
    grind arith

-- nothing goes out for nothing
pub escaped_bytes-nil : (policy : EscapePolicy) (bytes : List ℕ) → length bytes ≡ 0
    → escaped_bytes policy bytes ≡ []
escaped_bytes-nil policy [] none = ap (λ cs. encode_utf8_all (escaped policy cs)) chars-nil
escaped_bytes-nil policy (b ∷ bytes) none = absurd (omega arith)
