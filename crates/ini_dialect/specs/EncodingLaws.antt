-- What a change of a text leaves of its bytes, and what a byte order mark is.
use Rattle.std.specs.Prelude.{◌≡◌, ℕ, List, ◌∷◌, ◌++◌, Some}
use Rattle.ini_dialect.specs.EncodingNames.{mark_of}
use Rattle.ini_dialect.specs.Encodings.{IsDecoded, encoded}
use Rattle.ini_dialect.specs.declared.encoding.Encoding.{Encoding}

-- where a part of a text is another one, its bytes are others, and those around it are as they were
pub record ChangesInside (encoding : Encoding) (front old new back before after : List ℕ) : Type 0 where
  pub start : List ℕ
  pub finish : List ℕ
  pub old_bytes : List ℕ
  pub new_bytes : List ℕ
  pub front_is : encoded encoding front ≡ Some start
  pub back_is : encoded encoding back ≡ Some finish
  pub old_is : encoded encoding old ≡ Some old_bytes
  pub new_is : encoded encoding new ≡ Some new_bytes
  pub before_is : before ≡ start ++ (old_bytes ++ finish)
  pub after_is : after ≡ start ++ (new_bytes ++ finish)

-- a byte order mark begins the bytes, and U+FEFF the text; the rest of both is a text too
pub record BeginsWithMark (encoding : Encoding) (bytes text : List ℕ) : Type 0 where
  pub others : List ℕ
  pub rest : List ℕ
  pub text_is : text ≡ 0xFEFF ∷ others
  pub bytes_are : bytes ≡ mark_of encoding ++ rest
  pub others_are : IsDecoded encoding rest others
