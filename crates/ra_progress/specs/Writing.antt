-- A progress file as it is written, one piece after the other: docs/DEFINITIONS.md, "Progress file".
use Rattle.std.specs.Prelude.{ℕ, ◌+◌, ◌≤◌, Option, None, Some, List, ◌∷◌, ◌++◌, length}
use Rattle.std.specs.Int.{w32, w64, to_le_bytes}
use Rattle.ra_progress.specs.declared.shape.ItemShape.{ItemShape}
use Rattle.ra_progress.specs.Contents.{Name, ShapeContents, KeptItem, KeptPresence, ItemFits}
use Rattle.ra_progress.specs.Layout.{item_length}
use Rattle.ra_progress.specs.Names.{entry_names}
use Rattle.ra_progress.specs.Spelling.{mark, named_words}

-- what stands before the first entry: mark, version, the set's digest, the frame count, the counts of cells, priors
-- and entries, and each cell and prior with its name
abbrev pub front_bytes : ShapeContents → (frames : ℕ) → (cells priors : List ℕ) → List ℕ
front_bytes shape frames cells priors =
    mark ++ 3 ∷ (shape.digest ++ (to_le_bytes w64 frames
    ++ (to_le_bytes w32 (length shape.cells) ++ (named_words shape.cells cells
    ++ (to_le_bytes w32 (length shape.priors) ++ (named_words shape.priors priors
    ++ to_le_bytes w32 (length (entry_names shape))))))))

-- a block after its name and length
abbrev pub named_block : Name → List ℕ → List ℕ
named_block name block = name ++ (to_le_bytes w32 (length block) ++ block)

-- what is kept of an item has the counts of a shape whose block is no longer than a file may be
pub record FitsShort (item : KeptItem) : Type 0 where
  pub shape : ItemShape
  pub fits : ItemFits shape item
  pub short : item_length shape ≤ 8388608

-- the block of a presence, where there is one, is no longer than a file may be
abbrev pub PresenceShort : Option KeptPresence → Type 0
PresenceShort None = Unit {0}
PresenceShort (Some p) = length p.hits + length p.numbers ≤ 2097152
