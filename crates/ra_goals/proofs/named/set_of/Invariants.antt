use Rattle.std.proofs.Common.{◌≡◌, ℕ, ◌||◌, length}
use Rattle.std.specs.BTreeSet.{contains}
use Rattle.std.specs.Ordering.{nat_cmp}
use Rattle.ra_goals.specs.Named.{has_id}
use Rattle.ra_goals.proofs.named.set_of.Given as goal

-- the ids that are left are not yet in the set
abbrev pub invariant-loop-id : goal.invariant-loop-id
invariant-loop-id l = (key : ℕ) → (contains nat_cmp l.set key || has_id l.rest key) ≡ has_id l.fn.ids key

abbrev pub decreases-loop-id : goal.decreases-loop-id
decreases-loop-id l = length l.rest
