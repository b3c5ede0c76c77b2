-- What is left of a document, and when nothing is: docs/DEFINITIONS.md, "What is left of a document".
use Rattle.std.specs.Prelude.{◌≡◌, ℕ, ◌+◌, ◌<◌, ◌≤◌, true, is_some, Option, None, Some, List, ◌++◌, length}
use Rattle.std.specs.List.{flat_map}
use Rattle.serde_json.specs.Data.{Data}
use Rattle.ra_set.specs.Refusals.{Refuses}
use Rattle.ra_set.specs.declared.refused.SetRefused.{SetRefused}
use Rattle.ra_set.specs.declared.refused.SetRefused.TheVariants.{Limit}
use Rattle.ra_patch.specs.declared.document_refused.DocumentRefused.{DocumentRefused}
use Rattle.ra_patch.specs.declared.document_refused.DocumentRefused.TheVariants.{Bytes, NotJson, Root}
use Rattle.ra_patch.specs.declared.item_kind.ItemKind.TheVariants.{Achievement, Leaderboard}
use Rattle.ra_patch.specs.declared.left_out.LeftCause.{LeftCause}
use Rattle.ra_patch.specs.declared.left_out.LeftOut.{LeftOut}
use Rattle.ra_patch.specs.declared.scope.Scope.{Scope}
use Rattle.ra_patch.specs.declared.scope.Scope.TheVariants.{All, Official}
use Rattle.ra_patch.specs.Answers.{IsDocument, document_limit}
use Rattle.ra_patch.specs.Fields.{Reads, achievements_in, has_patch}
use Rattle.ra_patch.specs.Leaving.{Leaves, IsScriptVerdict, kept_script, line_of, script_row}
use Rattle.ra_patch.specs.Lines.{presence_lines}
use Rattle.ra_patch.specs.Official.{unofficial_among, wanted}
use Rattle.ra_patch.specs.Patches.{items_in, script_of, wrong_field}

-- what is left of two lists and a presence string: the set file of what stays, and what is left out, list by list
pub record LeavesLists (achievements boards : List Data) (script : Option (List ℕ)) (text : List ℕ)
    (left_out : List LeftOut) : Type 0 where
  pub achievements_kept : List Data
  pub achievement_rows : List LeftOut
  pub of_achievements : Leaves Achievement achievements achievements_kept achievement_rows
  pub boards_kept : List Data
  pub board_rows : List LeftOut
  pub of_boards : Leaves Leaderboard boards boards_kept board_rows
  pub cause : Option LeftCause
  pub of_script : IsScriptVerdict script cause
  pub is : text ≡
      flat_map (line_of Achievement) achievements_kept ++ flat_map (line_of Leaderboard) boards_kept
      ++ presence_lines (kept_script script cause)
  pub rows : left_out ≡ achievement_rows ++ board_rows ++ script_row cause

-- the value has a patch with its lists, and this is left of what is looked at in them
pub record LeavesWanted (scope : Scope) (d : Data) (text : List ℕ) (left_out : List LeftOut) : Type 0 where
  pub whole : wrong_field d ≡ None
  pub lists : LeavesLists (wanted scope (items_in Achievement d)) (items_in Leaderboard d) (script_of d) text left_out

-- the value has a patch with its lists, and this is left of them
abbrev pub LeavesValue : Data → (text : List ℕ) → (left_out : List LeftOut) → Type 0
LeavesValue d text left_out = LeavesWanted All d text left_out

-- this set file is left of the document, and this is left out
pub record LeavesDocument (bytes text : List ℕ) (left_out : List LeftOut) : Type 0 where
  pub value : Data
  pub document : IsDocument bytes value
  pub leaves : LeavesValue value text left_out

-- this set file is left of the value where its unofficial achievements are not looked at, and this is
-- how many things are left out, these achievements among them
pub record LeavesFew (d : Data) (text : List ℕ) (left_out : ℕ) : Type 0 where
  pub rows : List LeftOut
  pub leaves : LeavesWanted Official d text rows
  pub counted : left_out ≡ length rows + unofficial_among (items_in Achievement d)

-- the same of the document
pub record LeavesOfficial (bytes text : List ℕ) (left_out : ℕ) : Type 0 where
  pub value : Data
  pub document : IsDocument bytes value
  pub leaves : LeavesFew value text left_out

-- the document has an object "PatchData" with an array of achievements of its own
pub record HasOwnLists (bytes : List ℕ) : Type 0 where
  pub value : Data
  pub document : IsDocument bytes value
  pub patch : has_patch value ≡ true
  pub listed : is_some (achievements_in value) ≡ true

-- when nothing is left of a document, by the first of these that comes; running out of memory is no such reason
abbrev pub LeavesNothing : List ℕ → DocumentRefused → Type 0
LeavesNothing bytes (Bytes found) = (document_limit < length bytes) × (found ≡ length bytes)
LeavesNothing bytes NotJson = (length bytes ≤ document_limit) × ((d : Data) → Reads bytes d → ⊥)
LeavesNothing bytes (Root field) = (d : Data) × IsDocument bytes d × (wrong_field d ≡ Some field)
LeavesNothing bytes _ = ⊥

-- the refusal is of a limit
abbrev pub IsLimit : SetRefused → Type 0
IsLimit (Limit which found) = Unit {0}
IsLimit _ = ⊥

-- a set file is refused for nothing but a limit
abbrev pub KeepsGrammar : List ℕ → Type 0
KeepsGrammar file = (why : SetRefused) → Refuses file why → IsLimit why
