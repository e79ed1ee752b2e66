-- What bytes begin with, in each encoding.
use Rattle.std.proofs.Common.{◌≡◌, ◌∙◌, ℕ, ◌<◌, ◌≤◌, true, false, List, [], ◌∷◌, ◌++◌, length, take, drop}
use Rattle.std.proofs.Common.{Option, None, Some, IfNone, ap, arith, sym, subst, chars, IsUtf8, append_assoc}
use Rattle.std.proofs.Common.{encode_utf8, encode_utf8_all, length-append, ltb, lt-ltb}
use Rattle.std.proofs.Math.Seq.{take-append_seam}
use Rattle.std.proofs.lemmas.Bool.{and_parts}
use Rattle.std.proofs.lemmas.List.{length-take, take-append-drop, take-take}
use Rattle.std.proofs.lemmas.List.Prefix.{front_rest}
use Rattle.std.proofs.lemmas.Str.{IsUtf8-encode, encodes-chars, len_utf8_bounds, length-encode, scalars-chars}
use Rattle.std.specs.Char.{IsScalar}
use Rattle.std.specs.Option.{option_map}
use Rattle.std.specs.Str.{StartsWithNoChar, all_scalars}
use Rattle.ini_dialect.specs.Encodings.{BeginsNothing, bytes_of, windows_byte}
use Rattle.ini_dialect.specs.Inside.Coding.{BeginsNoUnits, BeginsWith, BeginsWithUtf8, units_in}
use Rattle.ini_dialect.specs.declared.encoding.Encoding.{Encoding}
use Rattle.ini_dialect.specs.declared.encoding.Encoding.TheVariants.{Latin1, Utf16Be, Utf16Le, Utf8}
use Rattle.ini_dialect.specs.declared.encoding.Encoding.TheVariants.{Windows1252}
use lib.Utf8.{scalar}

pub on_none : {X : Type 0} (r : Option X) (P Q : Type 0) → (P → Q) → IfNone r P → IfNone r Q
on_none None P Q f p = f p
on_none (Some x) P Q f p = tt

-- where no character begins
pub no_utf8 : (encoding : Encoding) (bytes : List ℕ) → encoding ≡ Utf8 → StartsWithNoChar bytes
    → BeginsNothing encoding bytes
no_utf8 encoding bytes is none c own more scalar own_is h =
    let same : Some (encode_utf8 c) ≡ Some own = ap (λ e. bytes_of e c) (sym is) ∙ own_is in
    let its : encode_utf8 c ≡ own = cc in
    none c more scalar (h ∙ ap (λ l. l ++ more) (sym its))

pub no_low_first : (encoding : Encoding) (bytes : List ℕ) → encoding ≡ Utf16Le → BeginsNoUnits true bytes
    → BeginsNothing encoding bytes
no_low_first encoding bytes is none c own more scalar own_is h =
    let same : Some (units_in true c) ≡ Some own = ap (λ e. bytes_of e c) (sym is) ∙ own_is in
    let its : units_in true c ≡ own = cc in
    none c more scalar (h ∙ ap (λ l. l ++ more) (sym its))

pub no_low_last : (encoding : Encoding) (bytes : List ℕ) → encoding ≡ Utf16Be → BeginsNoUnits false bytes
    → BeginsNothing encoding bytes
no_low_last encoding bytes is none c own more scalar own_is h =
    let same : Some (units_in false c) ≡ Some own = ap (λ e. bytes_of e c) (sym is) ∙ own_is in
    let its : units_in false c ≡ own = cc in
    none c more scalar (h ∙ ap (λ l. l ++ more) (sym its))

-- one byte, which is a character's
pub one_byte : (encoding : Encoding) (bytes rest : List ℕ) (c b : ℕ) → bytes_of encoding c ≡ Some (b ∷ [])
    → bytes ≡ b ∷ rest → IsScalar c → BeginsWith encoding bytes c rest
one_byte encoding bytes rest c b own_is split scalar = record {
  own = b ∷ [];
  own_is = own_is;
  split = split;
  scalar = scalar;
}

pub latin_bytes : (c b : ℕ) → c ≡ b → b < 256 → bytes_of Latin1 c ≡ Some (b ∷ [])
latin_bytes c b is small =
    let test : ltb c 256 ≡ true = lt-ltb c 256 (omega arith) in
    rw test (ap (λ x. Some (x ∷ [])) is)

pub windows_bytes : (c b : ℕ) → windows_byte c ≡ Some b → bytes_of Windows1252 c ≡ Some (b ∷ [])
windows_bytes c b is = ap (λ o. option_map (λ b. b ∷ []) o) is

-- the first character of the longest front that is UTF-8
module _ (bytes few front : List ℕ) (few_is : few ≡ take 4 bytes)
    (split : few ≡ front ++ drop (length front) few) where
  pub utf8_begins : (c : ℕ) (cs : List ℕ) (n : ℕ) → IsUtf8 front → chars front ≡ c ∷ cs
      → n ≡ length (encode_utf8 c) → BeginsWithUtf8 bytes c (drop n bytes)
  utf8_begins c cs n utf8 first n_is =
      let own : front ≡ encode_utf8 c ++ encode_utf8_all cs =
      sym (encodes-chars front utf8) ∙ ap encode_utf8_all first in
      let whole :
      bytes ≡ (encode_utf8 c ++ encode_utf8_all cs) ++ (drop (length front) few ++ drop 4 bytes) =
      sym (take-append-drop 4 bytes) ∙ ap (λ l. l ++ drop 4 bytes) (sym few_is ∙ split)
      ∙ append_assoc front (drop (length front) few) (drop 4 bytes)
      ∙ ap (λ l. l ++ (drop (length front) few ++ drop 4 bytes)) own in
      let more = encode_utf8_all cs ++ (drop (length front) few ++ drop 4 bytes) in
      let parts : bytes ≡ encode_utf8 c ++ more =
      whole ∙ append_assoc (encode_utf8 c) (encode_utf8_all cs) (drop (length front) few ++ drop 4 bytes) in
      record {
        split =
            parts
            ∙ ap (λ l. encode_utf8 c ++ l) (
            sym (front_rest bytes (encode_utf8 c) more parts) ∙ ap (λ k. drop k bytes) (sym n_is));
        scalar =
            let all : all_scalars (c ∷ cs) ≡ true = ap all_scalars (sym first) ∙ scalars-chars front utf8 in
            (and_parts (scalar c) (all_scalars cs) all).0;
      }

  pub utf8_none : ((n : ℕ) → length front < n → n ≤ length few → IsUtf8 (take n few) → ⊥) → length front ≡ 0
      → StartsWithNoChar bytes
  utf8_none longest none c rest scalar h =
      let size : length (encode_utf8 c) ≤ 4 = omega (arith, length-encode c, len_utf8_bounds c) in
      let some : 0 < length (encode_utf8 c) = omega (arith, length-encode c, len_utf8_bounds c) in
      let fits : length (encode_utf8 c) ≤ length few =
      omega (
        arith,
        ap length few_is,
        length-take 4 bytes,
        ap length h,
        length-append (encode_utf8 c) rest,
      ) in
      let own : take (length (encode_utf8 c)) few ≡ encode_utf8 c =
      ap (take (length (encode_utf8 c))) few_is ∙ take-take (length (encode_utf8 c)) 4 bytes size
      ∙ ap (take (length (encode_utf8 c))) h ∙ take-append_seam (encode_utf8 c) rest in
      longest (length (encode_utf8 c)) (omega arith) fits (subst IsUtf8 (sym own) (IsUtf8-encode c scalar))

pub utf8_fits : (bytes rest : List ℕ) (c n : ℕ) → BeginsWithUtf8 bytes c rest → n ≡ length (encode_utf8 c)
    → n ≤ length bytes
utf8_fits bytes rest c n b n_is = omega (arith, ap length b.split, length-append (encode_utf8 c) rest)

pub no_characters : (front : List ℕ) → IsUtf8 front → chars front ≡ [] → length front ≡ 0
no_characters front utf8 none = ap length (sym (encodes-chars front utf8) ∙ ap encode_utf8_all none)
