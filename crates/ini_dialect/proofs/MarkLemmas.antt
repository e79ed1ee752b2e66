-- A byte order mark at the front of bytes, and of the text that they are.
use Rattle.std.proofs.Common.{◌≡◌, ◌∙◌, ℕ, Bool, true, false, cond, eqb, List, [], ◌∷◌, ◌++◌, length, drop}
use Rattle.std.proofs.Common.{None, Some, ap, append-nil, refl, subst, sym}
use Rattle.std.proofs.lemmas.Bool.Decides.{Decides-eqb}
use Rattle.std.proofs.lemmas.Slice.Eq.{starts_is}
use Rattle.std.specs.List.{starts_with}
use Rattle.ini_dialect.specs.EncodingLaws.{BeginsWithMark}
use Rattle.ini_dialect.specs.EncodingNames.{mark_of, marked}
use Rattle.ini_dialect.specs.Encodings.{IsDecoded, bytes_of, encoded}
use Rattle.ini_dialect.specs.declared.encoding.Encoding.{Encoding}
use Rattle.ini_dialect.specs.declared.encoding.Encoding.TheVariants.{Utf16Be, Utf16Le, Utf8}
use Rattle.ini_dialect.proofs.EncodingLemmas.{following, together}

-- which of three tests tells an encoding
data Told (a b c : Bool) (encoding : Encoding) : Type 0 where
  utf8 : a ≡ true → encoding ≡ Utf8 → Told a b c encoding
  low_first : b ≡ true → encoding ≡ Utf16Le → Told a b c encoding
  low_last : c ≡ true → encoding ≡ Utf16Be → Told a b c encoding

told : (a b c : Bool) (encoding : Encoding)
    → cond a (Some Utf8) (cond b (Some Utf16Le) (cond c (Some Utf16Be) None)) ≡ Some encoding
    → Told a b c encoding
told true b c encoding h =
    let is : encoding ≡ Utf8 = cc in
    utf8 refl is
told false true c encoding h =
    let is : encoding ≡ Utf16Le = cc in
    low_first refl is
told false false true encoding h =
    let is : encoding ≡ Utf16Be = cc in
    low_last refl is
told false false false encoding h = absurd cc

-- the mark's bytes stand at the front, and are those of U+FEFF
record HasMark (encoding : Encoding) (bytes : List ℕ) : Type 0 where
  has_bytes : bytes_of encoding 0xFEFF ≡ Some (mark_of encoding)
  split : bytes ≡ mark_of encoding ++ drop (length (mark_of encoding)) bytes

front_is : (bytes mark : List ℕ) → starts_with eqb bytes mark ≡ true
    → bytes ≡ mark ++ drop (length mark) bytes
front_is bytes mark h = (starts_is Decides-eqb bytes mark (starts_with eqb bytes mark) refl).0 h

has_mark : (bytes : List ℕ) (encoding : Encoding) → marked bytes ≡ Some encoding → HasMark encoding bytes
has_mark bytes encoding h =
    at (
    told (starts_with eqb bytes (mark_of Utf8)) (starts_with eqb bytes (mark_of Utf16Le))
    (starts_with eqb bytes (mark_of Utf16Be)) encoding h)
  where
    at : Told (starts_with eqb bytes (mark_of Utf8)) (starts_with eqb bytes (mark_of Utf16Le))
        (starts_with eqb bytes (mark_of Utf16Be)) encoding → HasMark encoding bytes
    at (utf8 test is) =
        subst (λ e. HasMark e bytes) (sym is)
        (record { has_bytes = refl; split = front_is bytes (mark_of Utf8) test })
    at (low_first test is) =
        subst (λ e. HasMark e bytes) (sym is)
        (record { has_bytes = refl; split = front_is bytes (mark_of Utf16Le) test })
    at (low_last test is) =
        subst (λ e. HasMark e bytes) (sym is)
        (record { has_bytes = refl; split = front_is bytes (mark_of Utf16Be) test })

-- it is the first character of the text
pub begins_with_mark : (encoding : Encoding) (bytes text : List ℕ) → marked bytes ≡ Some encoding
    → IsDecoded encoding bytes text → BeginsWithMark encoding bytes text
begins_with_mark encoding bytes text h is =
    let mark = has_mark bytes encoding h in
    let own : encoded encoding (0xFEFF ∷ []) ≡ Some (mark_of encoding) =
    together encoding 0xFEFF [] (mark_of encoding) [] mark.has_bytes refl
    ∙ ap Some (append-nil (mark_of encoding)) in
    let found =
    following encoding (0xFEFF ∷ []) (mark_of encoding) (drop (length (mark_of encoding)) bytes) text refl
    is.characters own (is.has_bytes ∙ ap Some mark.split) in
    record {
      others = found.more;
      rest = drop (length (mark_of encoding)) bytes;
      text_is = found.split;
      bytes_are = mark.split;
      others_are = record { characters = found.characters; has_bytes = found.has_bytes };
    }
