-- A handle may go to another thread: what it owns names no thread.
use Rattle.std.proofs.Common.{ℕ, [], ◌∷◌}
use mir.Raw.{raw}
use base.Shift.{Keyless}
use denote.Memory.{lone}
use denote.RawPtr.{Ptr, block_ptr}
use denote.Ref.{NamedLft}
use denote.Struct.Struct.{exits_of}
use denote.Struct.Owning.{fields, shape, to}
use denote.Builtin.{RawPtr}
use denote.Param.Send.{AllSend, IsSend, owning_send, sendable, struct_send}
use mir.Syntax.{static}
use Rattle.std.proofs.Crossing.{frees, crosses}
use Rattle.std.proofs.alloc.Global.TheSendSync as heap
use Rattle.std.specs.Global.{Global}
use Rattle.std_alloc.proofs.SendSync.{lies, quiet}
use Rattle.ini_c.specs.Inside.Tying.{held_both, TextRow, SourceRow}
use Rattle.ini_c.specs.contracts.tied.Tied.{the_row, the_type}
use Rattle.ini_edit.proofs.source.Source.TheSendSync as source

abbrev at_life : ℕ → NamedLft
at_life a = record { mir = static; lft = a ∷ [] }

piece_send : (a : ℕ) → IsSend (SourceRow (a ∷ []))
piece_send a = source.the_send (at_life a)

text_send : IsSend TextRow
text_send = search (sendable, crosses)

owned : (text at : Ptr) (alloc : Global) (x : (SourceRow []).Denot) → Keyless (held_both text at alloc x)
owned text at alloc x a was bo = (
  tt,
  (
    tt,
    (
      lies TextRow text_send (block_ptr bo.0 bo.1) was,
      (
        frees.frees alloc (raw (lone TextRow.mir)) text,
        (
          lies (SourceRow (a ∷ [])) (piece_send a) at x,
          frees.frees alloc (raw (lone (SourceRow (a ∷ [])).mir)) at,
        ),
      ),
    ),
  ),
)

pointer : IsSend RawPtr
pointer = search sendable

pub send : IsSend the_row
send =
    let all : AllSend (fields the_type) = (pointer, (pointer, (heap.the_field_send, tt))) in
    owning_send the_type all (λ d. owned d.text d.at d.alloc d.value)
    (λ k. quiet (to the_type) (exits_of k (fields the_type)) ((struct_send (shape the_type) all).leaving k))
