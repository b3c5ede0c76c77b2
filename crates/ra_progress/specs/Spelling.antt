-- The bytes of a progress file, as they are written: version 3.
use Rattle.std.specs.Prelude.{ℕ, ◌+◌, Bool, if◌then◌else◌, Option, None, Some, List, [], ◌∷◌, ◌++◌, codes, length, map}
use Rattle.std.specs.Int.{w32, w64, to_le_bytes}
use Rattle.md5.specs.Md5.{md5}
use Rattle.ra_progress.specs.Contents.{Name, ShapeContents, KeptItem, OfAchievement, OfBoard, KeptPresence, Opening}
use Rattle.ra_text.specs.Words.{words}
use Rattle.ra_progress.specs.Names.{entry_names}

-- the state byte of an achievement: its state, and 8 more where it is earned
abbrev pub state_byte : (state : ℕ) → (earned : Bool) → ℕ
state_byte state earned = state + (if earned then 8 else 0)

-- the block of an item
abbrev pub item_bytes : KeptItem → List ℕ
item_bytes (OfAchievement state measured hits earned) = state_byte state earned ∷ words (measured ∷ hits)
item_bytes (OfBoard state hits numbers) = state ∷ (words hits ++ words numbers)

-- the block of a presence
abbrev pub presence_bytes : KeptPresence → List ℕ
presence_bytes p = words (p.shown ∷ p.hits) ++ words p.numbers

-- the block of a presence that may be missing
abbrev pub presence_block : Option KeptPresence → List (List ℕ)
presence_block None = []
presence_block (Some p) = presence_bytes p ∷ []

-- the blocks of an opening: the items in set order, then the script
abbrev pub blocks_of : Opening → List (List ℕ)
blocks_of o = map item_bytes o.items ++ presence_block o.presence

-- numbers after their names
abbrev pub named_words : List Name → List ℕ → List ℕ
named_words (name ∷ names) (number ∷ numbers) = name ++ (to_le_bytes w32 number ++ named_words names numbers)
named_words _ _ = []

-- blocks after their names and lengths
abbrev pub named_blocks : List Name → List (List ℕ) → List ℕ
named_blocks (name ∷ names) (block ∷ blocks) =
    name ++ (to_le_bytes w32 (length block) ++ (block ++ named_blocks names blocks))
named_blocks _ _ = []

-- the first four bytes of each progress file
abbrev pub mark : List ℕ
mark = codes "RAPG"

-- mark, version, the set's digest, the frame count; the count of cells, and each with its name; the priors the same;
-- the count of entries, and each with its name and length
abbrev pub body_bytes : ShapeContents → Opening → List ℕ
body_bytes shape o =
    mark ++ 3 ∷ (shape.digest ++ (to_le_bytes w64 o.frames
    ++ (to_le_bytes w32 (length shape.cells) ++ (named_words shape.cells o.cells
    ++ (to_le_bytes w32 (length shape.priors) ++ (named_words shape.priors o.priors
    ++ (to_le_bytes w32 (length (entry_names shape)) ++ named_blocks (entry_names shape) (blocks_of o))))))))

-- and their sum
abbrev pub progress_bytes : ShapeContents → Opening → List ℕ
progress_bytes shape o = body_bytes shape o ++ md5 (body_bytes shape o)
