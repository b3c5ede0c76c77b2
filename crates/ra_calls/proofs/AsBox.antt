-- A full cell and its parts own what a box at the same types owns.
use Rattle.std.specs.Prelude.{◌≡◌, Option, None, Some, IsSome}
use Rattle.std.proofs.Common.{refl}
use mathlib.Core.Bool.{false≢true}
use mir.Syntax.{impl, tnil, dnil}
use mathlib.Core.List.{[]}
use denote.Signature.{Slot, plain}
use Rattle.std.proofs.BoxSteps.Form.{Bx}
use Rattle.std.specs.contracts.alloc.Global as Heap
use Rattle.std.specs.contracts.impls.GlobalAllocator.TheImpl.{ghosts, dict}
use Rattle.std.proofs.alloc.Global.TheLaws as heap
use Rattle.ra_calls.specs.contracts.game.Game as Game
use Rattle.ra_calls.proofs.game.Game.TheLaws as game
use Rattle.ra_calls.specs.contracts.parts.Parts as Parts
use Rattle.ra_calls.specs.contracts.cell.Cell as Cell

-- a box of what is held
abbrev pub E : Bx
E = record {
  row = Game.the_row;
  laws = game.the_row_laws;
  al = record { row = Heap.the_row; laws = heap.the_row_laws; g = ghosts; d = dict; drops = impl [] tnil dnil };
}

-- what a contract sees of what is held
abbrev pub X : Type 0
X = Game.the_row.Denot

-- what is there, where something is
pub is_full : {A : Type 0} (optional : Option A) → IsSome optional → (a : A) × (optional ≡ Some a)
is_full (Some a) full = (a, refl)
is_full None full = absurd (false≢true full)

-- the parts as a parameter that is given up
abbrev pub FromParts : Slot 0
FromParts = plain (λ _. Parts.the_row Game.the_row Heap.the_row ghosts)

-- the cell as a parameter that is given up
abbrev pub FromCell : Slot 0
FromCell = plain (λ _. Cell.the_row)
