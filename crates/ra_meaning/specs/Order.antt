-- The cells and tracked masks of a set, and its shape: docs/DEFINITIONS.md, "Order of first occurrence" and "Shape of
-- a set".
use Rattle.std.specs.Prelude.{Option, None, Some, option_map, List, [], ◌∷◌, ◌++◌, map}
use Rattle.std.specs.List.{flat_map}
use Rattle.ra_condition.specs.Contents.{trigger_hits, PartContents}
use Rattle.ra_leaderboard.specs.Contents.{BoardContents}
use Rattle.ra_set.specs.Contents.{ItemContents, Unlocks, Ranks, SetContents}
use Rattle.ra_indirect.specs.Trees.{Tree, Cell, Tracked, same_cell, same_tracked, cells_in, tracked_in, firsts}
use Rattle.ra_chain.specs.Occurrence.{trees_in_trigger}
use Rattle.ra_progress.specs.declared.shape.ItemShape.{ItemShape}
use Rattle.ra_progress.specs.declared.shape.ItemShape.TheVariants as shapes
use Rattle.ra_memref.specs.Names.{cell_name, tracked_name}
use Rattle.ra_progress.specs.Contents.{ShapeContents}
use Rattle.ra_member.specs.Members.{MemberContents, trees_in_member, member_hits, member_numbers}
pub use Rattle.ra_meaning.specs.LineMembers.{tests_in, line_member, script_members, trees_in_line, lines_in}
pub use Rattle.ra_meaning.specs.LineMembers.{presence_shape}

-- the progress of a board, which is one value or none
abbrev pub progress_in : Option (List PartContents) → List (List PartContents)
progress_in None = []
progress_in (Some parts) = parts ∷ []

-- the tests and the values of a board: start, cancel and submit, and its value with the progress after it where it has
-- one
abbrev pub board_member : BoardContents → MemberContents
board_member b = record {
  tests = b.start ∷ b.cancel ∷ b.submit ∷ [];
  values = b.value ∷ progress_in b.progress;
}

-- the trees of an item; those of a board in the order start, cancel, submit, value, progress
abbrev pub trees_in_item : ItemContents → List Tree
trees_in_item (Unlocks id t) = trees_in_trigger t
trees_in_item (Ranks id format b) = trees_in_member (board_member b)

-- the trees of a set: those of its items in set order, and then those of its script line by line
abbrev pub trees_in_set : SetContents → List Tree
trees_in_set set = flat_map trees_in_item set.items ++ flat_map trees_in_line (lines_in set.script)

-- the cells of a set, each once, in the order in which they occur
abbrev pub set_cells : SetContents → List Cell
set_cells set = firsts same_cell (flat_map cells_in (trees_in_set set))

-- the masks of a set with a prior, each once, in the order in which they occur
abbrev pub set_tracked : SetContents → List Tracked
set_tracked set = firsts same_tracked (flat_map tracked_in (trees_in_set set))

-- how many hits and numbers an item keeps
abbrev pub item_shape : ItemContents → ItemShape
item_shape (Unlocks id t) = shapes.Achievement (trigger_hits t)
item_shape (Ranks id format b) = shapes.Leaderboard (member_hits (board_member b)) (member_numbers (board_member b))

-- the shape of the progress of a set: names of cells, tracked masks, items and script, and how many numbers these keep
abbrev pub shape_of : SetContents → ShapeContents
shape_of set = record {
  digest = set.digest;
  cells = map cell_name (set_cells set);
  priors = map tracked_name (set_tracked set);
  items = map item_shape set.items;
  item_names = set.item_names;
  presence = option_map presence_shape set.script;
  presence_name = set.script_name;
}
