-- What a call did that was to send a text by way of a gatherer, which holds some bytes back.
use Rattle.std.specs.Prelude.{◌≡◌, ℕ, true, List, ◌++◌, Option, Result, OnOk, encode_utf8_all}
use Rattle.std.specs.Str.{all_scalars}
use Rattle.ini_text.specs.Device.Unsent.{unsent}
use Rattle.ini_text.specs.Device.Watched.{WritesBytes}
use Rattle.ini_text.specs.declared.error.Error.{Error}
use Rattle.ini_text.specs.declared.device.Watched.{Watched}
use Rattle.ini_text.specs.declared.write.gather.Gatherer.{Gatherer}

module _ {W : Type 0} (contents : W → Option (List ℕ)) (old new : Watched W) (before after : Gatherer)
    (result : Result (Unit {0}) Error) where
  -- of what was unsent and the bytes, a front was written, and the rest is unsent after `Ok`
  pub record SendsBytes (bytes : List ℕ) : Type 0 where
    pub done : List ℕ
    pub rest : List ℕ
    pub parts : unsent before ++ bytes ≡ done ++ rest
    pub written : WritesBytes contents old new result done
    pub rest_unsent : OnOk result (unsent after ≡ rest)

  -- the same of a text; one that was sent whole is made of characters
  pub record Sends (text : List ℕ) : Type 0 where
    pub bytes : SendsBytes (encode_utf8_all text)
    pub characters : OnOk result (all_scalars text ≡ true)
