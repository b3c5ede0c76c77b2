-- Triggers and values after a history: docs/DEFINITIONS.md, "Triggers over frames" and "Values over frames".
use Rattle.std.specs.Prelude.{ℕ, Bool, false, List, [], ◌∷◌}
use Rattle.ra_condition.specs.Contents.{TriggerContents, PartContents}
use Rattle.ra_memory.specs.Image.{History}
use Rattle.ra_memref.specs.Values.{Start}
use Rattle.ra_trigger.specs.Steps.{TriggerKept}
use Rattle.ra_value.specs.Steps.{ValueKept}
use Rattle.ra_member.specs.Frames.{achievement_next, test_next, test_holds, value_next}

-- an achievement after a history, from what the opening keeps
abbrev pub achievement_after : Start → TriggerContents → TriggerKept → History → TriggerKept
achievement_after start t opened [] = opened
achievement_after start t opened (image ∷ earlier) =
    achievement_next start t (image ∷ earlier) (achievement_after start t opened earlier)

-- the hits of a trigger without states after a history
abbrev pub test_hits : Start → TriggerContents → List ℕ → History → List ℕ
test_hits start t opened [] = opened
test_hits start t opened (image ∷ earlier) =
    test_next start t (image ∷ earlier) (test_hits start t opened earlier)

-- the truth of a trigger without states at the last frame; false before the first
abbrev pub test_truth : Start → TriggerContents → List ℕ → History → Bool
test_truth start t opened [] = false
test_truth start t opened (image ∷ earlier) =
    test_holds start t (image ∷ earlier) (test_hits start t opened earlier)

-- a value that is stepped at every frame, after a history
abbrev pub value_after : Start → List PartContents → ValueKept → History → ValueKept
value_after start parts opened [] = opened
value_after start parts opened (image ∷ earlier) =
    value_next start parts (image ∷ earlier) (value_after start parts opened earlier)
