-- The classes of flags: docs/DEFINITIONS.md, "Flags" and "Group outcome".
use Rattle.std.specs.Prelude.{Bool, true, false}
use Rattle.ra_condition.specs.declared.flag.Flag.{Flag}
use Rattle.ra_condition.specs.declared.flag.Flag.TheVariants.{Plain, PauseIf, ResetIf, AddSource, SubSource, AddHits}
use Rattle.ra_condition.specs.declared.flag.Flag.TheVariants.{SubHits, AndNext, OrNext, Measured, MeasuredPercent}
use Rattle.ra_condition.specs.declared.flag.Flag.TheVariants.{MeasuredIf, AddAddress, TriggerIf, ResetNextIf, Remember}

-- the condition only hands a value on, and counts no hits
abbrev pub hands_on : Flag → Bool
hands_on AddSource = true
hands_on SubSource = true
hands_on AddAddress = true
hands_on Remember = true
hands_on _ = false

-- the chain goes on with the condition after this one
abbrev pub combines : Flag → Bool
combines AddHits = true
combines SubHits = true
combines AndNext = true
combines OrNext = true
combines ResetNextIf = true
combines flag = hands_on flag

-- the condition pauses its group
abbrev pub is_pause : Flag → Bool
is_pause PauseIf = true
is_pause _ = false

-- the condition resets its group
abbrev pub is_reset : Flag → Bool
is_reset ResetIf = true
is_reset _ = false

-- the condition offers a number to its group
abbrev pub is_measured : Flag → Bool
is_measured Measured = true
is_measured MeasuredPercent = true
is_measured _ = false

-- the number of the group counts only where the condition is valid
abbrev pub is_measured_if : Flag → Bool
is_measured_if MeasuredIf = true
is_measured_if _ = false

-- the condition is left out of what primes
abbrev pub is_trigger : Flag → Bool
is_trigger TriggerIf = true
is_trigger _ = false

-- the condition moves the cells of the next one
abbrev pub is_address : Flag → Bool
is_address AddAddress = true
is_address _ = false

-- the condition gives the value of later `{recall}`
abbrev pub is_remember : Flag → Bool
is_remember Remember = true
is_remember _ = false

-- the condition has to be valid for its group to be primed
abbrev pub is_wanted : Flag → Bool
is_wanted Plain = true
is_wanted Measured = true
is_wanted MeasuredPercent = true
is_wanted MeasuredIf = true
is_wanted _ = false

-- the condition has to be valid for its group to be valid: a wanted one, or a Trigger
abbrev pub is_required : Flag → Bool
is_required TriggerIf = true
is_required flag = is_wanted flag
