-- Where the fields of a progress file stand, and how long it has to be.
use Rattle.std.specs.Prelude.{ℕ, zero, suc, ◌+◌, ◌-◌, ◌*◌, ◌==◌, if◌then◌else◌, nat_lt, Option, None, Some, List, []}
use Rattle.std.specs.Prelude.{◌∷◌, length, map, take, drop, slice_index, sum_by}
use Rattle.std.specs.List.{range_with_len}
use Rattle.std.specs.Int.{w64, from_le_bytes}
use Rattle.ra_progress.specs.declared.shape.ItemShape.{ItemShape}
use Rattle.ra_progress.specs.declared.shape.ItemShape.TheVariants as shapes
use Rattle.ra_progress.specs.declared.shape.PresenceShape.{PresenceShape}
use Rattle.ra_text.specs.Words.{word_at}
use Rattle.ra_progress.specs.Contents.{Name, ShapeContents, EntryShape, OfItem, OfPresence, Own, own_entries}

-- the name at a place
abbrev pub name_at : List ℕ → ℕ → Name
name_at bytes at = take 16 (drop at bytes)

-- the version, the digest of the set that a file is of, and its frame count
abbrev pub version_in : List ℕ → ℕ
version_in bytes = slice_index bytes 4

-- the digest of the set that a file is of
abbrev pub digest_in : List ℕ → List ℕ
digest_in bytes = take 16 (drop 5 bytes)

-- the frame count of a file
abbrev pub frames_at : List ℕ → ℕ
frames_at bytes = from_le_bytes w64 (take 8 (drop 21 bytes))

-- the closing sum, and what it is a sum of
abbrev pub sum_in : List ℕ → List ℕ
sum_in bytes = drop (length bytes - 16) bytes

-- the bytes that the closing sum is of
abbrev pub summed_in : List ℕ → List ℕ
summed_in bytes = take (length bytes - 16) bytes

-- the bytes that the block of an item of this shape takes
abbrev pub item_length : ItemShape → ℕ
item_length (shapes.Achievement hits) = 5 + 4 * hits
item_length (shapes.Leaderboard hits parts) = 1 + 4 * (hits + parts)

-- the bytes that a block takes
abbrev pub block_length : EntryShape → ℕ
block_length (OfItem shape) = item_length shape
block_length (OfPresence p) = 4 + 4 * (p.hits + p.parts)

-- the bytes that the block of the script takes, where there is one
abbrev pub script_length : Option PresenceShape → ℕ
script_length None = 0
script_length (Some p) = block_length (OfPresence p)

-- the bytes that the block of an own entry takes
abbrev pub own_length : Own → ℕ
own_length own = block_length own.shape

-- ---- version 1: numbers and blocks without names

-- where the first block stands in version 1
abbrev pub blocks_at_1 : ShapeContents → ℕ
blocks_at_1 shape = 29 + 4 * (length shape.cells + length shape.priors)

-- the length of the set's own bytes in version 1
abbrev pub length_1_of : ShapeContents → ℕ
length_1_of shape = blocks_at_1 shape + sum_by own_length (own_entries shape) + 16

-- ---- versions 2 and 3: each number and each block after its name

-- how many cells, priors and entries a file has
abbrev pub cell_count : List ℕ → ℕ
cell_count bytes = word_at bytes 29

-- how many priors a file has
abbrev pub prior_count : List ℕ → ℕ
prior_count bytes = word_at bytes (33 + 20 * cell_count bytes)

-- how many entries a file has
abbrev pub entry_count : List ℕ → ℕ
entry_count bytes = word_at bytes (37 + 20 * (cell_count bytes + prior_count bytes))

-- where the first entry stands: its name, the length of its block, and its block
abbrev pub first_entry : List ℕ → ℕ
first_entry bytes = 41 + 20 * (cell_count bytes + prior_count bytes)

-- where the entry after one stands
abbrev pub entry_after : List ℕ → ℕ → ℕ
entry_after bytes at = at + 20 + word_at bytes (at + 16)

-- the need where it exceeds the length, and else what is needed further
abbrev pub up_to : List ℕ → (need further : ℕ) → ℕ
up_to bytes need further = if nat_lt (length bytes) need then need else further

-- the need once the lengths of this many entries were read from a place on
abbrev pub need_from : List ℕ → (count at need : ℕ) → ℕ
need_from bytes zero at need = need
need_from bytes (suc more) at need =
    up_to bytes (need + word_at bytes (at + 16))
    (need_from bytes more (entry_after bytes at) (need + word_at bytes (at + 16)))

-- the need at the first point at which it exceeds the length, and the need at the end where it does not
abbrev pub need_of : List ℕ → ℕ
need_of bytes =
    let named = cell_count bytes + prior_count bytes in
    up_to bytes 49
    (up_to bytes (53 + 20 * cell_count bytes)
    (up_to bytes (57 + 20 * named)
    (up_to bytes (57 + 20 * (named + entry_count bytes))
    (need_from bytes (entry_count bytes) (first_entry bytes) (57 + 20 * (named + entry_count bytes))))))

-- a name with its number
pub record Numbered : Type 0 where
  pub name : Name
  pub number : ℕ

-- this many names with their numbers, from a place on
abbrev pub numbered_at : List ℕ → (at count : ℕ) → List Numbered
numbered_at bytes at count =
    map (λ k. record
    { name = name_at bytes (at + 20 * k); number = word_at bytes (at + 20 * k + 16) })
    (range_with_len 0 count)

-- the cells of a file with their names
abbrev pub cells_in : List ℕ → List Numbered
cells_in bytes = numbered_at bytes 33 (cell_count bytes)

-- the priors of a file with their names
abbrev pub priors_in : List ℕ → List Numbered
priors_in bytes = numbered_at bytes (37 + 20 * cell_count bytes) (prior_count bytes)

-- an entry of a file: where it stands, its name, and the length of its block
pub record Entry : Type 0 where
  pub at : ℕ
  pub name : Name
  pub size : ℕ

-- the entry at a place
abbrev pub entry_at : List ℕ → ℕ → Entry
entry_at bytes at = record { at = at; name = name_at bytes at; size = word_at bytes (at + 16) }

-- this many entries from a place on
abbrev pub entries_from : List ℕ → (count at : ℕ) → List Entry
entries_from bytes zero at = []
entries_from bytes (suc more) at = entry_at bytes at ∷ entries_from bytes more (entry_after bytes at)

-- the entries of a file
abbrev pub entries_in : List ℕ → List Entry
entries_in bytes = entries_from bytes (entry_count bytes) (first_entry bytes)

-- the length of the set's own bytes in versions 2 and 3, with this many names of cells and tracked masks
abbrev pub length_with : ℕ → ShapeContents → ℕ
length_with names shape =
    57 + 20 * (names + length (own_entries shape)) + sum_by own_length (own_entries shape)

-- the same with those that the shape has
abbrev pub length_of : ShapeContents → ℕ
length_of shape = length_with (length shape.cells + length shape.priors) shape

-- where the block of an own entry stands in the set's own bytes of a version
abbrev pub block_at : ShapeContents → (version number : ℕ) → ℕ
block_at shape version number =
    if version == 1 then blocks_at_1 shape + sum_by own_length (take number (own_entries shape))
    else 61 + 20 * (length shape.cells + length shape.priors + number)
    + sum_by own_length (take number (own_entries shape))
