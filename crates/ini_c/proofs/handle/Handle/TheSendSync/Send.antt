-- A handle owns a box or nothing, so it may go to another thread as its box may.
use mathlib.Core.Bool.{Bool, true, false}
use mir.Raw.{raw}
use base.Shift.{Keyless}
use denote.Memory.{lone}
use denote.RawPtr.{Ptr}
use denote.Struct.Struct.{exits_of}
use denote.Struct.Owning.{fields, shape, to}
use denote.Builtin.{RawPtr}
use denote.Param.Send.{AllSend, IsSend, owning_send, recorded_send, sendable, struct_send}
use Rattle.std.proofs.Crossing.{frees}
use Rattle.std.proofs.alloc.Global.TheSendSync as heap
use Rattle.std.specs.Global.{Global}
use Rattle.std_alloc.proofs.SendSync.{lies, quiet}
use Rattle.ini_c.specs.Inside.Ownership.{held_or_closed}
use Rattle.ini_c.specs.contracts.document.Kept as Kept
use Rattle.ini_c.specs.contracts.handle.Handle.{the_row, the_type}
use Rattle.ini_c.proofs.document.Kept.TheSendSync as kept

kept_send : IsSend Kept.the_row
kept_send = recorded_send (Kept.the_field).row _ _ Kept.the_type.to_one kept.the_field_send

owned : (is_open : Bool) (at : Ptr) (alloc : Global) (x : Kept.the_row.Denot) → Keyless (held_or_closed is_open at alloc x)
owned true at alloc x =
    (lies Kept.the_row kept_send at x, frees.frees alloc (raw (lone Kept.the_row.mir)) at)
owned false at alloc x = tt

pointer : IsSend RawPtr
pointer = search sendable

pub send : IsSend the_row
send =
    let all : AllSend (fields the_type) = (pointer, (heap.the_field_send, tt)) in
    owning_send the_type all (λ d. owned d.is_open d.at d.alloc d.value)
    (λ k. quiet (to the_type) (exits_of k (fields the_type)) ((struct_send (shape the_type) all).leaving k))
