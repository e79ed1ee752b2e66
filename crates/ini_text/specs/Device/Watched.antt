-- What a clause reads of a watched device, and what a writer's bytes are after a write that may have failed.
use Rattle.std.specs.Prelude.{ℕ, ◌≡◌, ◌<◌, ◌≤◌, ◌↔◌, List, length, take, Option, Result, OnOk, IfErr}
use Rattle.std.specs.Borrow.{MutBor}
use Rattle.std.specs.Io.KnownBytes.{Appends}
use Rattle.ini_text.specs.Device.DeviceRefusals.{IsIo, IsIoOrNoProgress, IsNoProgress, failures_in, stalls_in}
use Rattle.ini_text.specs.declared.error.Error.{Error}
use Rattle.ini_text.specs.declared.device.Watched.{Watched}

-- the device as it is now
abbrev pub device_now : {D : Type 0} → Watched D → D
device_now w = w.device.now

-- faults since `new`
abbrev pub failure_count : {D : Type 0} → Watched D → ℕ
failure_count w = w.failures

-- writes since `new` that took no bytes of a piece that had some
abbrev pub stall_count : {D : Type 0} → Watched D → ℕ
stall_count w = w.stalls

-- no fault and no stall yet
abbrev pub IsClear : {D : Type 0} → Watched D → Type 0
IsClear w = (failure_count w ≡ 0) × (stall_count w ≡ 0)

-- it watches what this reference points to
abbrev pub Watches : {D : Type 0} → Watched D → MutBor D → Type 0
Watches w device = w.device.ghost_name ≡ device.ghost_name

-- both watch the same device
abbrev pub SameDevice : {D : Type 0} → Watched D → Watched D → Type 0
SameDevice old new = Watches new old.device

-- a front of the bytes was appended, where the writer's bytes are known
abbrev pub AppendsFront : Option (List ℕ) → Option (List ℕ) → List ℕ → Type 0
AppendsFront old new bytes = (n : ℕ) × (n ≤ length bytes) × Appends old new (take n bytes)

-- the bytes were appended to the watched writer's; a front of them was
abbrev pub WritesAll : {D : Type 0} → (D → Option (List ℕ)) → Watched D → Watched D → List ℕ → Type 0
WritesAll contents old new bytes = Appends (contents (device_now old)) (contents (device_now new)) bytes

abbrev pub WritesFront : {D : Type 0} → (D → Option (List ℕ)) → Watched D → Watched D → List ℕ → Type 0
WritesFront contents old new bytes =
    AppendsFront (contents (device_now old)) (contents (device_now new)) bytes

-- bytes were written: at `Ok` all of them, and else a front; a fault of the device, or a write that took no
-- bytes, is the answer, and is counted
pub record WritesBytes {D : Type 0} (contents : D → Option (List ℕ)) (old new : Watched D)
    (result : Result (Unit {0}) Error) (whole : List ℕ) : Type 0 where
  pub same_device : SameDevice old new
  pub bytes : OnOk result (WritesAll contents old new whole)
  pub front : WritesFront contents old new whole
  pub failures : failure_count new ≡ failures_in result
  pub stalls : stall_count new ≡ stalls_in result
  pub io : IsIo result ↔ (failure_count old < failure_count new)
  pub no_progress : IsNoProgress result ↔ (stall_count old < stall_count new)
  pub only : IfErr result IsIoOrNoProgress
