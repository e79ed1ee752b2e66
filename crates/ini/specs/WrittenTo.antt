-- What a call did that was to write a text to a device.
use Rattle.std.specs.Prelude.{ℕ, List, Option, encode_utf8_all}
use Rattle.std.specs.Io.KnownBytes.{Appends}
use Rattle.ini_text.specs.Device.Watched.{AppendsFront}
use Rattle.ini.specs.Texts.{Text}

module _ {D : Type 0} (contents : D → Option (List ℕ)) (old new : D) where
  -- the text's bytes were appended to the device's; a front of them was
  abbrev pub IsWrittenTo : Text → Type 0
  IsWrittenTo text = Appends (contents old) (contents new) (encode_utf8_all text)

  abbrev pub IsFrontWrittenTo : Text → Type 0
  IsFrontWrittenTo text = AppendsFront (contents old) (contents new) (encode_utf8_all text)
