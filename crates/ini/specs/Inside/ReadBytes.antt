-- How the bytes of a device are read, and what ends it.
use Rattle.std.specs.Prelude.{◌≡◌, ◌≤◌, ℕ, Bool, true, false, List, ◌++◌, length, ⊤, Option}
use Rattle.std.specs.Io.KnownBytes.{Consumes, IsAtEnd}
use Rattle.ini_text.specs.declared.error.Error.{Error}
use Rattle.ini_text.specs.declared.error.Error.TheVariants.{Io, Memory, NoProgress}

-- memory was refused
abbrev pub IsMemory : Error → Type 0
IsMemory (Memory _) = ⊤
IsMemory _ = ⊥

-- the device failed, or memory was refused
abbrev pub IsIoOrMemory : Error → Type 0
IsIoOrMemory (Io _) = ⊤
IsIoOrMemory (Memory _) = ⊤
IsIoOrMemory _ = ⊥

-- the refusal is no device's
abbrev pub IsTextRefusal : Error → Type 0
IsTextRefusal (Io _) = ⊥
IsTextRefusal NoProgress = ⊥
IsTextRefusal _ = ⊤

-- the known bytes of a device that are no longer left were appended to the bytes old
pub record HasRead (before after : Option (List ℕ)) (old new : List ℕ) : Type 0 where
  pub read : List ℕ
  pub consumed : Consumes before after read
  pub bytes : new ≡ old ++ read

-- as many bytes are there as were wanted, unless the device is at its end
abbrev pub IsFilled : ℕ → List ℕ → Option (List ℕ) → Bool → Type 0
IsFilled wanted bytes left true = IsAtEnd left
IsFilled wanted bytes left false = wanted ≤ length bytes
