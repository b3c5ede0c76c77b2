-- What a cell owns: nothing, or what a box of the held value owns.
use Rattle.std.specs.Prelude.{Option, None, Some}
use base.Fml.{Fml, ftrue}
use base.Stored.{Coded}
use denote.RawPtr.{Ptr}
use Rattle.std.specs.Box.Ownership.{box_owns}
use Rattle.std.specs.Coded.{coded_option}
use Rattle.std.specs.Global.{Global}
use Rattle.std.specs.contracts.impls.GlobalAllocator.TheImpl.{ghosts}
use Rattle.ra_calls.specs.contracts.game.Game.{the_row}

-- a full cell owns the block behind its pointer, with what lies there, and an empty one nothing
abbrev pub cell_owns : Global → Ptr → Option the_row.Denot → Fml
cell_owns alloc at None = ftrue
cell_owns alloc at (Some value) = box_owns (ghosts.dealloc_token alloc) the_row at value

-- how the ghost value is stored
abbrev pub optional_coded : Coded (Option the_row.Denot)
optional_coded = coded_option the_row.coded
