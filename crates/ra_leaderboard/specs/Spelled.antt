-- The structure of the boards that some text spells: docs/DEFINITIONS.md, "What texts spell".
use Rattle.std.specs.Prelude.{IfSome}
use Rattle.ra_condition.specs.Spelled.{IsTrigger, IsValue}
use Rattle.ra_leaderboard.specs.Contents.{BoardContents}

-- some text spells the board: its three triggers, its value, and its progress where it has one
pub record IsBoard (b : BoardContents) : Type 0 where
  pub start : IsTrigger b.start
  pub cancel : IsTrigger b.cancel
  pub submit : IsTrigger b.submit
  pub value : IsValue b.value
  pub progress : IfSome b.progress IsValue
