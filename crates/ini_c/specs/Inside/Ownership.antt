-- What a handle owns.
use Rattle.std.specs.Prelude.{Bool, true, false}
use base.Fml.{Fml, ftrue}
use base.Stored.{Coded}
use denote.RawPtr.{Ptr}
use Rattle.std.specs.Box.Ownership.{box_owns}
use Rattle.std.specs.Global.{Global}
use Rattle.std_heap.specs.contracts.GlobalAllocator.TheImpl.{ghosts}
use Rattle.ini_c.specs.contracts.document.Kept.{the_row}

-- an open handle owns the block with the kept value, and a closed one nothing
abbrev pub held_or_closed : Bool → Ptr → Global → the_row.Denot → Fml
held_or_closed true at alloc kept = box_owns (ghosts.dealloc_token alloc) the_row at kept
held_or_closed false at alloc kept = ftrue

abbrev pub kept_coded : Coded the_row.Denot
kept_coded = the_row.coded
