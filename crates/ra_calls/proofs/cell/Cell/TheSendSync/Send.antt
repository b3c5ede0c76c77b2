-- A cell goes to another thread as what it owns does: it owns nothing, or a box of the held value.
use mir.Raw.{raw}
use base.Fraction.{full_share}
use base.Shift.{Keyless}
use denote.Exit.{Exit, unchanged, leaves, hidden, under}
use denote.Memory.{lone}
use denote.RawPtr.{Ptr, block_ptr, null_ptr, lies_at}
use denote.Struct.Struct.{exits_of}
use denote.Struct.Owning.{shape, fields, to}
use denote.Param.Send.{IsSend, Quiet, AllSend, part_keyless, owning_send, struct_send, sendable}
use Rattle.std.specs.Prelude.{Option, None, Some}
use Rattle.std.specs.Global.{Global}
use Rattle.std.proofs.Crossing.{frees}
use Rattle.std.proofs.alloc.Global.TheSendSync as handle
use Rattle.ra_calls.specs.contracts.game.Game as Game
use Rattle.ra_calls.proofs.game.Game.TheSendSync.{the_send as game}
use Rattle.ra_calls.specs.Owned.{cell_owns}
use Rattle.ra_calls.specs.contracts.cell.Cell.{the_row, the_type}

-- what lies behind a pointer names no thread
lies : (at : Ptr) (value : Game.the_row.Denot) → Keyless (lies_at Game.the_row full_share at value)
lies (block_ptr b o) value = part_keyless Game.the_row game full_share value b o
lies null_ptr value = tt

owned : (alloc : Global) (at : Ptr) (value : Option Game.the_row.Denot) → Keyless (cell_owns alloc at value)
owned alloc at None = tt
owned alloc at (Some value) = (lies at value, frees.frees alloc (raw (lone Game.the_row.mir)) at)

quiet : {D X : Type 0} (f : D → X) (e : Exit X) → Quiet e → Quiet (hidden (under f e))
quiet f unchanged q = λ x w. tt
quiet f (leaves L l S s r₀) q = λ d. q (f d)

pub send : IsSend the_row
send =
    let all : AllSend (fields the_type) = (search sendable, (handle.the_field_send, tt)) in
    owning_send the_type all (λ d. owned d.alloc d.at d.value)
    (λ k. quiet (to the_type) (exits_of k (fields the_type)) ((struct_send (shape the_type) all).leaving k))
