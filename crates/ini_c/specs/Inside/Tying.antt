-- What a text owns that is kept with the pieces that borrow it: a lifetime, the text, which is lent for it,
-- and the
-- pieces.
use Rattle.std.specs.Prelude.{ℕ, List, []}
use mathlib.Core.List.{◌∷◌}
use base.Fraction.{full_share}
use base.Fml.{Fml, fex, feq, fsep, flft, flent}
use base.Stored.{Coded}
use mir.Raw.{raw}
use mir.Syntax.{static}
use denote.Memory.{lone, part_at}
use denote.RattleType.{RattleType}
use denote.RawPtr.{Ptr, block_ptr}
use Rattle.std.specs.Box.Ownership.{box_owns}
use Rattle.std.specs.Global.{Global}
use Rattle.std_heap.specs.contracts.Global as Heap
use Rattle.std_heap.specs.contracts.GlobalAllocator.TheImpl.{ghosts}
use Rattle.std_alloc.specs.contracts.string.String as Text
use Rattle.ini_edit.specs.contracts.source.Source as Source

abbrev pub TextRow : RattleType
TextRow = Text.the_row Heap.the_row ghosts

abbrev pub SourceRow : List ℕ → RattleType
SourceRow κ = Source.the_row (record { mir = static; lft = κ })

abbrev pub held_at : Ptr → Ptr → Global → (SourceRow []).Denot → ℕ → TextRow.Denot → ℕ × ℕ → Fml
held_at text at alloc pieces a was bo =
    fsep (feq Ptr text (block_ptr bo.0 bo.1))
    (fsep (flft (a ∷ []) full_share)
    (fsep (flent (a ∷ []) (part_at TextRow full_share was bo.0 bo.1))
    (fsep (ghosts.dealloc_token alloc (raw (lone TextRow.mir)) text)
    (box_owns (ghosts.dealloc_token alloc) (SourceRow (a ∷ [])) at pieces))))

abbrev pub held_both : Ptr → Ptr → Global → (SourceRow []).Denot → Fml
held_both text at alloc pieces =
    fex ℕ (λ a. fex TextRow.Denot (λ was. fex (ℕ × ℕ) (λ bo. held_at text at alloc pieces a was bo)))

abbrev pub pieces_coded : Coded (SourceRow []).Denot
pieces_coded = (SourceRow []).coded
