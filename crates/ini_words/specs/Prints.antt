-- What a call did to its writer; and, for private functions, what is put into an entry.
use Rattle.std.specs.Prelude.{◌≡◌, ◌++◌, ℕ, Bool, false, List, [], chars, encode_utf8_all, ⊤}
use Rattle.std.specs.Prelude.{Option, IsSome, is_some, unwrap_or, Result, Ok, Err, IfOk, IfErr, OnOk, OnErr}
use Rattle.std.specs.Borrow.{Bor}
use Rattle.ini_text.specs.Device.DeviceRefusals.{failures_in, stalls_in}
use Rattle.ini_text.specs.Device.Watched.{SameDevice, WritesAll, WritesFront, device_now, failure_count}
use Rattle.ini_text.specs.Device.Watched.{stall_count}
use Rattle.ini_text.specs.declared.error.Error.{Error}
use Rattle.ini_text.specs.declared.error.Error.TheVariants.{Io, Memory, NoProgress}
use Rattle.ini_text.specs.declared.device.Watched.{Watched}
use Rattle.ini.specs.Texts.{Text}
use Rattle.ini_words.specs.Lines.{text_in}
use Rattle.ini_words.specs.declared.lines.form.Form.{Form}

-- nothing was there to write, or memory was refused
abbrev pub IsSilent : Result Bool Error → Type 0
IsSilent (Ok false) = ⊤
IsSilent (Err (Memory _)) = ⊤
IsSilent _ = ⊥

-- every refusal of a command
abbrev pub IsCommandRefusal : Error → Type 0
IsCommandRefusal (Io _) = ⊤
IsCommandRefusal (Memory _) = ⊤
IsCommandRefusal NoProgress = ⊤
IsCommandRefusal _ = ⊥

-- the bytes of an output, where there is one
abbrev pub output_bytes : Option Text → List ℕ
output_bytes output = encode_utf8_all (unwrap_or output [])

-- a command answers whether there is an output, and wrote it; after a refusal a front of it was written,
-- and after one for memory nothing
pub record Prints {W : Type 0} (contents : W → Option (List ℕ)) (old new : Watched W)
    (result : Result Bool Error) (output : Option Text) : Type 0 where
  pub same_device : SameDevice old new
  pub found : IfOk result (λ found. found ≡ is_some output)
  pub refused : OnErr result (IsSome output)
  pub bytes : OnOk result (WritesAll contents old new (output_bytes output))
  pub front : WritesFront contents old new (output_bytes output)
  pub silent : IsSilent result → device_now new ≡ device_now old
  pub failures : failure_count new ≡ failures_in result
  pub stalls : stall_count new ≡ stalls_in result
  pub only : IfErr result IsCommandRefusal

-- what a part of an entry writes
abbrev pub part_text : Form → Bor (List ℕ) × Bor (List ℕ) → Text
part_text form p = text_in form (chars p.0.now) ++ chars p.1.now
