-- What the bytes of a set file have of an id: docs/DEFINITIONS.md, "Jobs for authors".
use Rattle.std.specs.Prelude.{◌≡◌, ℕ, ◌≤◌, None, Some, List}
use Rattle.ra_condition.specs.Contents.{TriggerContents, trigger_contents, trigger_hits}
use Rattle.ra_condition.specs.Spelled.{IsTrigger}
use Rattle.ra_set.specs.Accepted.{IsSet}
use Rattle.ra_set.specs.Contents.{SetContents}
use Rattle.ra_set.specs.Refusals.{Refuses}
use Rattle.ra_goals.specs.Choosing.{trigger_of}
use Rattle.ra_why_job.specs.declared.choosing.Chosen.{Chosen}
use Rattle.ra_why_job.specs.declared.choosing.Chosen.TheVariants.{Refused, Lacking, Found}

-- The bytes are a set that has this trigger at the id; it can be watched.
pub record IsFound (bytes : List ℕ) (id : ℕ) (t : TriggerContents) : Type 0 where
  pub set : SetContents
  pub is_set : IsSet bytes set
  pub found : trigger_of id set.items ≡ Some t
  pub few : trigger_hits t ≤ 65536
  pub spelled : IsTrigger t

-- what the bytes have of an id
abbrev pub IsChosen : (bytes : List ℕ) → (id : ℕ) → Chosen → Type 0
IsChosen bytes id (Refused why) = Refuses bytes why
IsChosen bytes id Lacking = (set : SetContents) × IsSet bytes set × (trigger_of id set.items ≡ None)
IsChosen bytes id (Found text) = IsFound bytes id (trigger_contents text)
