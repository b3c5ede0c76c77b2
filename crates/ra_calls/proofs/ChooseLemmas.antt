-- The trigger of an achievement of a set may be recorded.
use Rattle.std.proofs.Common.{◌≡◌, ℕ, Option, Some, None, IfSome, option_map, sym}
use Rattle.ra_condition.specs.Contents.{trigger_contents}
use Rattle.ra_condition.specs.declared.trigger_text.TriggerText.{TriggerText}
use Rattle.ra_set.specs.Spelled.{IsSpelled}
use Rattle.ra_set.specs.Limits.{IsWithinLimits}
use Rattle.ra_set.specs.Contents.{SetContents}
use Rattle.ra_goals.specs.Choosing.{trigger_of}
use Rattle.ra_goals.proofs.ChooseLemmas.{chosen_few, chosen_spelled}
use Rattle.ra_calls.specs.Choosing.{MayBeRecorded}

-- what was found in a set may be recorded
pub found_usable : (id : ℕ) (set : SetContents) (found : Option TriggerText)
    → option_map trigger_contents found ≡ trigger_of id set.items → IsSpelled set → IsWithinLimits set
    → IfSome found (λ text. MayBeRecorded (trigger_contents text))
found_usable id set None same spelled limits = tt
found_usable id set (Some text) same spelled limits = record {
  few = chosen_few id (trigger_contents text) set limits (sym same);
  spelled = chosen_spelled id (trigger_contents text) set spelled (sym same);
}
