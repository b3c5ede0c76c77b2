-- What an opening of a set is and where one stands: docs/DEFINITIONS.md, "Openings and snapshots" and "Progress file".
use Rattle.std.specs.Prelude.{◌≡◌, ℕ, Option, None, Some, List, [], IfSome, zip}
use Rattle.std.specs.List.{AllByRecursion}
use Rattle.ra_memory.specs.Image.{History, AreBytes, AreImages}
use Rattle.ra_richpresence.specs.Contents.{ScriptContents}
use Rattle.ra_set.specs.Accepted.{IsSet}
use Rattle.ra_set.specs.Contents.{ItemContents, Unlocks, Ranks, SetContents}
use Rattle.ra_set.specs.Spelled.{IsSpelled}
use Rattle.ra_progress.specs.Contents.{KeptItem, KeptPresence, Opening, IsOpening}
use Rattle.ra_progress.specs.Spelling.{progress_bytes}
use Rattle.ra_progress.specs.Laws.{IsOwn, IsShape}
use Rattle.ra_progress.specs.Names.{IsName}
use Rattle.ra_progress.specs.Reading.{IsAccepted}
use Rattle.ra_progress.specs.Saying.{says}
use Rattle.ra_set.specs.Limits.{IsWithinLimits}
use Rattle.ra_set.specs.Names.{IsNamed}
use Rattle.ra_member.specs.Members.{HasShape, HaveShapes}
use Rattle.ra_meaning.specs.Presence.{opened_display}
use Rattle.ra_meaning.specs.Boards.{opened_board}
use Rattle.ra_meaning.specs.Order.{board_member, script_members, shape_of}
use Rattle.ra_meaning.specs.Openings.{plain_opening, snapshot}

-- the digest of a set and its names are digests, of sixteen bytes each
pub record HasDigests (set : SetContents) : Type 0 where
  pub digest : IsName set.digest
  pub items : AllByRecursion IsName set.item_names
  pub script : IfSome set.script_name IsName

-- The set is one as a file that is accepted gives: within the limits, spelled, named, and with digests.
pub record IsComplete (set : SetContents) : Type 0 where
  pub limits : IsWithinLimits set
  pub spelled : IsSpelled set
  pub named : IsNamed set
  pub digests : HasDigests set

-- what an opening keeps for an item has the shape of its tests and values, where it is a board
abbrev pub HasBoardShape : ItemContents × KeptItem → Type 0
HasBoardShape (Unlocks id t, kept) = Unit {0}
HasBoardShape (Ranks id format b, kept) = HasShape (board_member b) (opened_board b kept).member

-- what an opening keeps for a display has the shapes of its lines
abbrev pub HasDisplayShapes : Option ScriptContents → Option KeptPresence → Type 0
HasDisplayShapes (Some script) (Some kept) = HaveShapes (script_members script) (opened_display script kept).lines
HasDisplayShapes _ _ = Unit {0}

-- the plain opening is an opening, a snapshot is one, that of no frames is the opening before them, and what accepted
-- bytes say is one, whose bytes they are where they are the set's own
pub record HasOpenings (set : SetContents) : Type 0 where
  pub plain : IsSpelled set → IsOpening (shape_of set) (plain_opening set)
  pub after : (o : Opening) (history : History) → IsSpelled set → IsOpening (shape_of set) o
      → AreImages history → IsOpening (shape_of set) (snapshot set o history)
  pub none : (o : Opening) → IsOpening (shape_of set) o → snapshot set o [] ≡ o
  -- a set of a file is complete, and a complete one has its shape within what a file may be
  pub complete : (file : List ℕ) → IsSet file set → IsComplete set
  pub shape : IsComplete set → IsShape (shape_of set)
  pub said : (bytes : List ℕ) → IsWithinLimits set → IsSpelled set → IsNamed set → AreBytes bytes
      → IsAccepted (shape_of set) bytes → IsOpening (shape_of set) (says (shape_of set) bytes)
  pub again : (bytes : List ℕ) → IsShape (shape_of set) → AreBytes bytes
      → IsAccepted (shape_of set) bytes → IsOwn (shape_of set) bytes
      → progress_bytes (shape_of set) (says (shape_of set) bytes) ≡ bytes
  -- what it keeps for boards and for a display has their shapes
  pub boards : (o : Opening) → IsOpening (shape_of set) o → AllByRecursion HasBoardShape (zip set.items o.items)
  pub display : (o : Opening) → IsOpening (shape_of set) o → HasDisplayShapes set.script o.presence
