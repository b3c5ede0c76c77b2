-- The trigger that is read once more from the text of a set.
use Rattle.std.specs.Prelude.{◌≡◌, ℕ, ◌≤◌, Option, IfSome, option_map}
use Rattle.ra_condition.specs.Contents.{TriggerContents, trigger_contents, trigger_hits}
use Rattle.ra_condition.specs.Spelled.{IsTrigger}
use Rattle.ra_condition.specs.declared.trigger_text.TriggerText.{TriggerText}
use Rattle.ra_set.specs.Contents.{SetContents}
use Rattle.ra_goals.specs.Choosing.{trigger_of}

-- a trigger that may be recorded: some text spells it, and it is no larger than that of a set
pub record MayBeRecorded (t : TriggerContents) : Type 0 where
  pub few : trigger_hits t ≤ 65536
  pub spelled : IsTrigger t

-- what was found is the trigger of the achievement of this id in the set
pub record IsFoundIn (id : ℕ) (set : SetContents) (found : Option TriggerText) : Type 0 where
  pub same : option_map trigger_contents found ≡ trigger_of id set.items
  pub usable : IfSome found (λ text. MayBeRecorded (trigger_contents text))
