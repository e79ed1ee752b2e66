-- Which refusals are a device's.
use Rattle.std.specs.Prelude.{ℕ, Result, Err}
use Rattle.ini_text.specs.declared.error.Error.{Error}
use Rattle.ini_text.specs.declared.error.Error.TheVariants.{Io, NoProgress}

-- the device answered a fault
abbrev pub IsIo : {T : Type 0} → Result T Error → Type 0
IsIo (Err (Io _)) = Unit {0}
IsIo _ = ⊥

-- a write took no bytes
abbrev pub IsNoProgress : {T : Type 0} → Result T Error → Type 0
IsNoProgress (Err NoProgress) = Unit {0}
IsNoProgress _ = ⊥

-- one of these two
abbrev pub IsIoOrNoProgress : Error → Type 0
IsIoOrNoProgress (Io _) = Unit {0}
IsIoOrNoProgress NoProgress = Unit {0}
IsIoOrNoProgress _ = ⊥

-- 1 where the device answered a fault, else 0
abbrev pub failures_in : {T : Type 0} → Result T Error → ℕ
failures_in (Err (Io _)) = 1
failures_in _ = 0

-- 1 where a write took no bytes, else 0
abbrev pub stalls_in : {T : Type 0} → Result T Error → ℕ
stalls_in (Err NoProgress) = 1
stalls_in _ = 0
