-- Lines of a display that some text spells: docs/DEFINITIONS.md, "Presence over frames".
use Rattle.std.specs.Prelude.{All, IfSome}
use Rattle.ra_condition.specs.Spelled.{IsTrigger}
use Rattle.ra_richpresence.specs.Contents.{LineContents}
use Rattle.ra_richpresence.specs.Spelled.{IsPiece}

-- a line of a display that some text spells
pub record IsShownLine (line : LineContents) : Type 0 where
  pub test : IfSome line.test IsTrigger
  pub pieces : All IsPiece line.pieces
