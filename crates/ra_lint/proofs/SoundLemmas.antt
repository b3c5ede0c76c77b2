-- Warnings on the triggers that some text spells hold.
use Rattle.std.proofs.Common.{ℕ, zero, suc, List, [], ◌∷◌, slice_index_or, All, arith}
use Rattle.ra_condition.specs.declared.condition.Condition.{Condition}
use Rattle.ra_condition.specs.declared.setting.Setting.TheVariants.{InTrigger}
use Rattle.ra_condition.specs.Contents.{condition_at, TriggerContents, groups_of}
use Rattle.ra_condition.specs.Spelled.{IsTrigger, IsTriggerGroup}
use Rattle.ra_memory.specs.Image.{History}
use Rattle.ra_chain.specs.Elaboration.{left_of, right_of}
use Rattle.ra_memref.specs.Values.{Start}
use Rattle.ra_member.specs.Frames.{truths_at, lefts_at}
use Rattle.ra_lint.specs.declared.warning.Place.{Place}
use Rattle.ra_lint.specs.declared.warning.Place.TheVariants.{Trigger, Start as OfStart, Cancel, Submit}
use Rattle.ra_lint.specs.Laws.{group_at, hits_before, AreSound}
use Rattle.ra_lint.proofs.VerdictLemmas.{never_holds, always_holds}
use Rattle.ra_lint.proofs.SmallLemmas.{all_fit, sides_small}
use Rattle.ra_lint.proofs.TriggerLemmas.{AllMayHave}
use Rattle.ra_lint.proofs.HistoryLemmas.{SmallSides, AllSmall, all_may_be, achievement_may, test_may, never_triggered}
use Rattle.ra_lint.proofs.HistoryLemmas.{never_starts}
use Rattle.ra_lint.proofs.ReachLemmas.{unreached_along}

pub group_small : (cs : List Condition) → IsTriggerGroup cs → SmallSides cs
group_small cs all = sides_small cs (all_fit InTrigger cs all)

pub groups_small : (groups : List (List Condition)) → ((k : ℕ) → IsTriggerGroup (slice_index_or groups k []))
    → AllSmall groups
groups_small [] all = tt
groups_small (cs ∷ groups) all = (group_small cs (all 0), groups_small groups (λ k. all (suc k)))

-- each group of a trigger, and the empty one past the last
pub group_spelled : (t : TriggerContents) → IsTrigger t → (k : ℕ) → IsTriggerGroup (group_at t k)
group_spelled t is zero = is.core
group_spelled t is (suc k) = alt_spelled t.alts is.alts k
  where
    none : IsTriggerGroup []
    none k d below = absurd (omega (arith, below))

    alt_spelled : (alts : List (List Condition)) → All IsTriggerGroup alts → (k : ℕ)
        → IsTriggerGroup (slice_index_or alts k [])
    alt_spelled [] all k = none
    alt_spelled (alt ∷ alts) all zero = all 0 alt (omega arith)
    alt_spelled (alt ∷ alts) all (suc k) = alt_spelled alts (λ i d below. all (suc i) d (omega (arith, below))) k

module _ (place : Place) (t : TriggerContents) (is : IsTrigger t) where
  small : AllSmall (groups_of t)
  small = groups_small (groups_of t) (group_spelled t is)

  before_may : (place : Place) (start : Start) (earlier : History) → AllMayHave (groups_of t)
      (hits_before place start t earlier)
  before_may Trigger start earlier = achievement_may start t small earlier
  before_may OfStart start earlier = test_may start t small earlier
  before_may Cancel start earlier = test_may start t small earlier
  before_may Submit start earlier = test_may start t small earlier

  pub sound : AreSound place t
  sound = record {
    never = λ group j e start history. never_holds start history (left_of (group_at t group) j)
        (right_of (group_at t group) j) (group_small (group_at t group) (group_spelled t is group) j).0
        (group_small (group_at t group) (group_spelled t is group) j).1 (condition_at (group_at t group) j).op e;
    always = λ group j e start history. always_holds start history (left_of (group_at t group) j)
        (right_of (group_at t group) j) (group_small (group_at t group) (group_spelled t is group) j).0
        (group_small (group_at t group) (group_spelled t is group) j).1 (condition_at (group_at t group) j).op e;
    unreachable = λ group j e start image earlier. unreached_along (groups_of t)
        (truths_at start (image ∷ earlier) (groups_of t)) (lefts_at start (image ∷ earlier) (groups_of t))
        (hits_before place start t earlier) (all_may_be start (image ∷ earlier) (groups_of t) small)
        (before_may place start earlier) group j e;
    no_unlock = λ dead start history. never_triggered start t small dead history;
    no_start = λ dead start image earlier. never_starts start t small dead image earlier;
  }
