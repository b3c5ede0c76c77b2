-- What a frame does to an achievement, in the words of its states: docs/DEFINITIONS.md, "Achievement states".
use Rattle.std.specs.Prelude.{◌≡◌, ℕ, Bool, true, if◌then◌else◌, List, replicate}
use Rattle.ra_condition.specs.Contents.{TriggerContents, trigger_hits}
use Rattle.ra_trigger.specs.declared.state.State.{State}
use Rattle.ra_trigger.specs.declared.state.State.TheVariants.{Active, Paused}
use Rattle.ra_trigger.specs.Steps.{TriggerKept, Together, together, step}

-- a frame of an achievement: what its groups say together, and what is kept after it
pub record IsFrame (t : TriggerContents) (truths : List Bool) (lefts : List ℕ) (old : TriggerKept)
    (now : Together) (new : TriggerKept) : Type 0 where
  pub says : now ≡ together t truths lefts old.hits
  pub leaves : new ≡ step t truths lefts old

-- all hits of all groups are 0, and so is a measured number that comes from hits
pub record AreCleared (t : TriggerContents) (now : Together) (new : TriggerKept) : Type 0 where
  pub hits : new.hits ≡ replicate (trigger_hits t) 0
  pub measured : now.from_hits ≡ true → new.measured ≡ 0

-- the state after a reset: paused where the trigger is paused, else active
abbrev pub state_after_reset : Together → State
state_after_reset now = if now.paused then Paused else Active
