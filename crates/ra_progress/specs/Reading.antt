-- Which bytes are a progress file that a shape accepts, and why others are none.
use Rattle.std.specs.Prelude.{◌≡◌, ◌⊎◌, ℕ, ◌+◌, ◌≤◌, ◌==◌, ◌&&◌, ◌||◌, not, Bool, true, false, if◌then◌else◌, nat_lt}
use Rattle.std.specs.Prelude.{nat_le, Option, None, Some, option_map, List, [], ◌∷◌, length, map, filter, take, find}
use Rattle.std.specs.Prelude.{bytes_eq, slice_index}
use Rattle.std.specs.List.{flat_map, list_any, AllByRecursion}
use Rattle.md5.specs.Md5.{md5}
use Rattle.ra_progress.specs.declared.shape.ItemShape.{ItemShape}
use Rattle.ra_progress.specs.declared.shape.ItemShape.TheVariants as shapes
use Rattle.ra_progress.specs.declared.refused.ProgressRefused.{ProgressRefused}
use Rattle.ra_progress.specs.declared.refused.ProgressRefused.TheVariants.{WrongLength, WrongMark, WrongVersion}
use Rattle.ra_progress.specs.declared.refused.ProgressRefused.TheVariants.{WrongSum, OtherSet, BadEntry, BadState}
use Rattle.ra_progress.specs.Contents.{Name, ShapeContents, EntryShape, OfItem, OfPresence, Own, own_entries}
use Rattle.ra_text.specs.Words.{word_at}
use Rattle.ra_progress.specs.Layout.{Entry, version_in, digest_in, sum_in, summed_in, own_length, blocks_at_1}
use Rattle.ra_progress.specs.Layout.{length_1_of, cell_count, prior_count, need_of, entries_in}
use Rattle.ra_progress.specs.Spelling.{mark}

-- the most and the fewest bytes of a file
abbrev pub most_bytes : ℕ
most_bytes = 8388608

-- the fewest bytes of a file: mark, version, digest, frame count and sum
abbrev pub fewest_bytes : ℕ
fewest_bytes = 45

-- a version that is read
abbrev pub is_version : ℕ → Bool
is_version version = (version == 1) || ((version == 2) || (version == 3))

-- how long a file has to be: in version 1 as the set's own bytes, and else by its own counts and lengths
abbrev pub wanted_length : ShapeContents → List ℕ → ℕ
wanted_length shape bytes = if version_in bytes == 1 then length_1_of shape else need_of bytes

-- the entries have the lengths of the own ones, one beside the other
abbrev pub have_sizes : List Own → List Entry → Bool
have_sizes [] [] = true
have_sizes (own ∷ owns) (entry ∷ entries) = (entry.size == own_length own) && have_sizes owns entries
have_sizes _ _ = false

-- the digest is the set's, and so are the counts and the lengths of the entries
abbrev pub of_this_set : ShapeContents → List ℕ → Bool
of_this_set shape bytes =
    bytes_eq (digest_in bytes) shape.digest
    && ((cell_count bytes == length shape.cells)
    && ((prior_count bytes == length shape.priors) && have_sizes (own_entries shape) (entries_in bytes)))

-- the bytes are read by their places: in version 1, and in a file of this set
abbrev pub by_places : ShapeContents → List ℕ → Bool
by_places shape bytes = (version_in bytes == 1) || of_this_set shape bytes

-- the own entries of this name
abbrev pub owns_named : Name → List Own → List Own
owns_named name owns = filter (λ own. bytes_eq own.name name) owns

-- whether the set writes an entry of this name
abbrev pub has_named : List Own → Name → Bool
has_named owns name = list_any (λ own. bytes_eq own.name name) owns

-- an own entry is of this set: in version 1 the digest says it, and else the file does or one of its names
abbrev pub is_related : ShapeContents → List ℕ → Bool
is_related shape bytes =
    if version_in bytes == 1 then bytes_eq (digest_in bytes) shape.digest
    else of_this_set shape bytes || list_any (λ entry. has_named (own_entries shape) entry.name) (entries_in bytes)

-- the first own entry that has the name of this one and another length
abbrev pub other_length : List Own → Entry → Option Own
other_length owns entry = find (λ own. not (own_length own == entry.size)) (owns_named entry.name owns)

-- the refusal of an entry whose block is not as long as the set's
abbrev pub bad_entry : List Own → Entry → Option ProgressRefused
bad_entry owns entry =
    option_map (λ own. BadEntry (entry.at + 16) (own_length own) entry.size) (other_length owns entry)

-- the first refusal, where there is one
abbrev pub or_later : Option ProgressRefused → Option ProgressRefused → Option ProgressRefused
or_later (Some why) later = Some why
or_later None later = later

-- the refusal of the first entry, in the order of the file, whose block is not as long as the set's
abbrev pub bad_entries : List Own → List Entry → Option ProgressRefused
bad_entries owns [] = None
bad_entries owns (entry ∷ entries) = or_later (bad_entry owns entry) (bad_entries owns entries)

-- a block of a file, and what it is read as
pub record Block : Type 0 where
  pub at : ℕ
  pub shape : EntryShape

-- blocks one after the other from a place on, as version 1 has them
abbrev pub blocks_from : ℕ → List Own → List Block
blocks_from at [] = []
blocks_from at (own ∷ owns) = record { at = at; shape = own.shape } ∷ blocks_from (at + own_length own) owns

-- the blocks of entries that stand beside the own ones
abbrev pub blocks_beside : List Own → List Entry → List Block
blocks_beside (own ∷ owns) (entry ∷ entries) =
    record { at = entry.at + 20; shape = own.shape } ∷ blocks_beside owns entries
blocks_beside _ _ = []

-- the blocks that an entry is read as: one for every own entry of its name
abbrev pub blocks_of_entry : List Own → Entry → List Block
blocks_of_entry owns entry = map (λ own. record { at = entry.at + 20; shape = own.shape }) (owns_named entry.name owns)

-- the blocks of entries by their names
abbrev pub blocks_named : List Own → List Entry → List Block
blocks_named owns entries = flat_map (blocks_of_entry owns) entries

-- the blocks that are looked at, in the order of the file
abbrev pub blocks_in : ShapeContents → List ℕ → List Block
blocks_in shape bytes =
    if version_in bytes == 1 then blocks_from (blocks_at_1 shape) (own_entries shape)
    else if of_this_set shape bytes then blocks_beside (own_entries shape) (entries_in bytes)
    else blocks_named (own_entries shape) (entries_in bytes)

-- a state byte of an item is in its table: in version 3 that of an achievement is 8 more where it is earned, and never
-- 4
abbrev pub is_state : (version : ℕ) → ItemShape → ℕ → Bool
is_state version (shapes.Achievement hits) byte =
    if version == 3 then nat_lt byte 4 || (nat_le 8 byte && nat_lt byte 13) else nat_lt byte 5
is_state version (shapes.Leaderboard hits parts) byte = nat_lt byte 5

-- the refusal of a block whose state byte or shown index is not in its table
abbrev pub bad_state : List ℕ → Block → Option ProgressRefused
bad_state bytes block = elim block.shape [
  | OfItem shape ↦ if is_state (version_in bytes) shape (slice_index bytes block.at) then None
      else Some (BadState block.at (slice_index bytes block.at))
  | OfPresence p ↦ if nat_lt (word_at bytes block.at) p.lines then None
      else Some (BadState block.at (word_at bytes block.at))
]

-- the first of them
abbrev pub bad_states : List ℕ → List Block → Option ProgressRefused
bad_states bytes [] = None
bad_states bytes (block ∷ blocks) = or_later (bad_state bytes block) (bad_states bytes blocks)

-- the first refusal of an entry or a block, where there is one
abbrev pub bad_contents : ShapeContents → List ℕ → Option ProgressRefused
bad_contents shape bytes =
    or_later (if by_places shape bytes then None else bad_entries (own_entries shape) (entries_in bytes))
    (bad_states bytes (blocks_in shape bytes))

-- the first refusal of a file whole in itself: it is of another set, or something in it does not fit this one
abbrev pub misfit : ShapeContents → List ℕ → Option ProgressRefused
misfit shape bytes =
    if not (is_related shape bytes) then Some (OtherSet shape.digest (digest_in bytes)) else bad_contents shape bytes

-- why a file is refused: the first of eight checks that fails
abbrev pub refusal : ShapeContents → List ℕ → Option ProgressRefused
refusal shape bytes =
    if nat_lt most_bytes (length bytes) then Some (WrongLength most_bytes (length bytes))
    else if nat_lt (length bytes) fewest_bytes then Some (WrongLength fewest_bytes (length bytes))
    else if not (bytes_eq (take 4 bytes) mark) then Some (WrongMark (take 4 bytes))
    else if not (is_version (version_in bytes)) then Some (WrongVersion (version_in bytes))
    else if not (length bytes == wanted_length shape bytes)
    then Some (WrongLength (wanted_length shape bytes) (length bytes))
    else if not (bytes_eq (sum_in bytes) (md5 (summed_in bytes)))
    then Some (WrongSum (sum_in bytes) (md5 (summed_in bytes)))
    else misfit shape bytes

-- the bytes have a layout with names: version 2 or 3, with the length that their counts and lengths ask for
pub record HasLayout (bytes : List ℕ) : Type 0 where
  pub fewest : fewest_bytes ≤ length bytes
  pub most : length bytes ≤ most_bytes
  pub marked : take 4 bytes ≡ mark
  pub version : (version_in bytes ≡ 2) ⊎ (version_in bytes ≡ 3)
  pub as_long : length bytes ≡ need_of bytes

-- the bytes have the mark, a version that is read, and the length that it asks for
pub record IsWhole (shape : ShapeContents) (bytes : List ℕ) : Type 0 where
  pub fewest : fewest_bytes ≤ length bytes
  pub most : length bytes ≤ most_bytes
  pub marked : take 4 bytes ≡ mark
  pub version : is_version (version_in bytes) ≡ true
  pub as_long : length bytes ≡ wanted_length shape bytes

-- the bytes are a progress file that the shape accepts
pub record IsAccepted (shape : ShapeContents) (bytes : List ℕ) : Type 0 where
  pub whole : IsWhole shape bytes
  pub sum : sum_in bytes ≡ md5 (summed_in bytes)
  pub related : is_related shape bytes ≡ true
  pub entries : by_places shape bytes ≡ false
      → AllByRecursion (λ entry. bad_entry (own_entries shape) entry ≡ None) (entries_in bytes)
  pub states : AllByRecursion (λ block. bad_state bytes block ≡ None) (blocks_in shape bytes)
