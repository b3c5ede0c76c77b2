-- Counts of conditions by parts: the step between the code and docs/DEFINITIONS.md, "Limits of a set".
use Rattle.std.specs.Prelude.{ℕ, ◌+◌}
use Rattle.ra_condition.specs.Contents.{trigger_hits}
use Rattle.ra_leaderboard.specs.Contents.{BoardContents}
use Rattle.ra_richpresence.specs.Contents.{PieceContents, Bytes, Shows}
use Rattle.ra_set.specs.Limits.{value_conditions, optional_value}

-- how many conditions a board has
abbrev pub board_conditions : BoardContents → ℕ
board_conditions b = trigger_hits b.start + trigger_hits b.cancel + trigger_hits b.submit
    + value_conditions b.value + optional_value b.progress

-- how many conditions a piece of a line has
abbrev pub piece_conditions : PieceContents → ℕ
piece_conditions (Bytes text) = 0
piece_conditions (Shows name value) = value_conditions value
