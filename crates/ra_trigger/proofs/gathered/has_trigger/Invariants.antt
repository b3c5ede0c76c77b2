use Rattle.std.proofs.Common.{◌≡◌, ◌∷◌, map, take}
use Rattle.ra_condition.specs.Contents.{group_contents}
use Rattle.ra_trigger.specs.Steps.{has_trigger}
use Rattle.ra_trigger.proofs.gathered.has_trigger.Given as goal

-- the core or an alt so far has a Trigger
abbrev pub invariant-loop-alt : goal.invariant-loop-alt
invariant-loop-alt l = l.found ≡ has_trigger
    (group_contents l.text.core ∷ map group_contents (take l.alt-index l.text.alts.items))
