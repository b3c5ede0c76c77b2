-- How many numbers lines keep whose trees stand in a pool: docs/DEFINITIONS.md, "Shape of a set".
use Rattle.std.specs.Prelude.{◌≡◌, Option, option_map, ◌≤◌, ℕ, List, [], map, sum, sum_by}
use Rattle.std.specs.List.{flat_map}
use Rattle.ra_indirect.specs.declared.node.Node.{Node}
use Rattle.ra_progress.specs.declared.shape.PresenceShape.{PresenceShape}
use Rattle.ra_richpresence.specs.Contents.{LineContents, ScriptContents, values_in_line}
use Rattle.ra_set.specs.Limits.{line_conditions, optional_trigger, script_conditions}
use Rattle.ra_member.specs.declared.places.Places.{Places}
use Rattle.ra_member.specs.Members.{member_hits, member_numbers}
use Rattle.ra_member.specs.Plans.{GrowsWithin}
use Rattle.ra_meaning.specs.LineMembers.{line_member, trees_in_line, lines_in, presence_shape}

-- a line has no conditions and no macros
pub record IsBare (line : LineContents) : Type 0 where
  pub test : optional_trigger line.test ≡ 0
  pub macros : values_in_line line ≡ []

-- the pool grows by the trees of a line, and this many numbers are kept of it
pub record CountsLine (old new : List Node) (line : LineContents) (kept : Places) : Type 0 where
  pub grows : GrowsWithin old new (trees_in_line line) (line_conditions line)
  pub hits : kept.hits ≡ member_hits (line_member line)
  pub numbers : kept.numbers ≡ member_numbers (line_member line)
  pub few_hits : kept.hits ≤ line_conditions line
  pub few_numbers : kept.numbers ≤ line_conditions line

-- the pool grows by the trees of all lines, and this many numbers are kept of them
pub record CountsLines (old new : List Node) (lines : List LineContents) (hits numbers : ℕ) : Type 0 where
  pub grows : GrowsWithin old new (flat_map trees_in_line lines) (sum_by line_conditions lines)
  pub all_hits : hits ≡ sum (map member_hits (map line_member lines))
  pub all_numbers : numbers ≡ sum (map member_numbers (map line_member lines))
  pub few_hits : hits ≤ sum_by line_conditions lines
  pub few_numbers : numbers ≤ sum_by line_conditions lines

-- the pool grows by the trees of a display that may be missing, and its shape is told
pub record CountsPresence (old new : List Node) (script : Option ScriptContents)
    (shape : Option PresenceShape) : Type 0 where
  pub grows : GrowsWithin old new (flat_map trees_in_line (lines_in script)) (script_conditions script)
  pub shape_too : shape ≡ option_map presence_shape script
