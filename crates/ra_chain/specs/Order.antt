-- Groups in which no condition pauses.
use Rattle.std.specs.Prelude.{◌≡◌, false, List}
use Rattle.std.specs.List.{All}
use Rattle.ra_condition.specs.declared.condition.Condition.{Condition}
use Rattle.ra_condition.specs.Flags.{is_pause}

-- no condition is a PauseIf
abbrev pub HasNoPause : List Condition → Type 0
HasNoPause = All (λ c. is_pause c.flag ≡ false)
