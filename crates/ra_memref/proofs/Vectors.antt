-- Pools and marks, computed from the definitions.
use Rattle.std.proofs.Common.{◌≡◌, true, false, List, [], ◌∷◌, refl}
use Rattle.ra_operand.specs.declared.kind.Kind.TheVariants.{Mem, Delta, Prior}
use Rattle.ra_operand.specs.declared.size.Size.TheVariants.{Byte, Bit0, Count, Four}
use Rattle.ra_indirect.specs.declared.node.Node.{Node}
use Rattle.ra_indirect.specs.declared.node.Node.TheVariants.{Const, Cell as CellNode, View}
use Rattle.ra_indirect.specs.Trees.{constant, view}
use Rattle.ra_indirect.specs.Pools.{spelled_by, IsTree, IsCell, cells_of, tracked_of}
use Rattle.ra_memref.specs.Marks.{marks_after, reads_of}

-- a pool with a cell, its view and its delta view, and two priors of one mask and one of another
abbrev nodes : List Node
nodes = Const 0 ∷ CellNode 1 0 16 ∷ View Mem Byte 1 ∷ Const 5 ∷ View Delta Byte 1 ∷ View Prior Byte
    1 ∷ View Prior Count 1 ∷ View Prior Bit0 1 ∷ CellNode 4 2 4 ∷ View Mem Four 8 ∷ []

spelled : spelled_by nodes ≡ IsTree (constant 0)
    ∷ IsCell (record { pointer = constant 0; address = 16; width = 1 })
    ∷ IsTree (view Mem Byte (constant 0) 16) ∷ IsTree (constant 5)
    ∷ IsTree (view Delta Byte (constant 0) 16) ∷ IsTree (view Prior Byte (constant 0) 16)
    ∷ IsTree (view Prior Count (constant 0) 16) ∷ IsTree (view Prior Bit0 (constant 0) 16)
    ∷ IsCell (record { pointer = view Mem Byte (constant 0) 16; address = 4; width = 4 })
    ∷ IsTree (view Mem Four (view Mem Byte (constant 0) 16) 4) ∷ []
spelled = refl

cells : cells_of nodes ≡ record { pointer = constant 0; address = 16; width = 1 }
    ∷ record { pointer = view Mem Byte (constant 0) 16; address = 4; width = 4 } ∷ []
cells = refl

tracked : tracked_of nodes
    ≡ record { cell = record { pointer = constant 0; address = 16; width = 1 }; mask = 255 }
    ∷ record { cell = record { pointer = constant 0; address = 16; width = 1 }; mask = 1 } ∷ []
tracked = refl

-- the second cell lies at 30, on two pages
marked_on_its_page : marks_after 64 (cells_of nodes) (16 ∷ 30 ∷ []) 31 1 (false ∷ false ∷ []) ≡ true ∷ true ∷ []
marked_on_its_page = refl

marked_on_the_next : marks_after 64 (cells_of nodes) (16 ∷ 30 ∷ []) 40 2 (false ∷ false ∷ []) ≡ false ∷ true ∷ []
marked_on_the_next = refl

marked_by_nothing : marks_after 64 (cells_of nodes) (16 ∷ 30 ∷ []) 16 0 (false ∷ true ∷ []) ≡ false ∷ true ∷ []
marked_by_nothing = refl

-- bytes past the end of the image watch no page
marked_within_size : marks_after 32 (cells_of nodes) (16 ∷ 30 ∷ []) 32 1 (false ∷ false ∷ []) ≡ false ∷ false ∷ []
marked_within_size = refl

moved_or_marked : reads_of (false ∷ true ∷ false ∷ true ∷ []) (1 ∷ 2 ∷ 3 ∷ 4 ∷ []) (1 ∷ 2 ∷ 9 ∷ 9 ∷ []) ≡ 3
moved_or_marked = refl
