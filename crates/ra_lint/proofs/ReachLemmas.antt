-- A target that is not reachable is never reached.
use Rattle.std.proofs.Common.{◌≡◌, ℕ, zero, suc, Bool, true, false, not, ◌&&◌, eqb, List, [], ◌∷◌, length, take, drop}
use Rattle.std.proofs.Common.{slice_index_or, refl}
use Rattle.std.proofs.lemmas.Bool.{false≢true}
use Rattle.ra_condition.specs.declared.condition.Condition.{Condition}
use Rattle.ra_condition.specs.Contents.{condition_at}
use Rattle.ra_group.specs.Equations.{Frame, frame_of}
use Rattle.ra_group.specs.Laws.{reached_at}
use Rattle.ra_trigger.specs.Steps.{frames_along}
use Rattle.ra_lint.specs.Chances.{chance_at, may_reach}
use Rattle.ra_lint.specs.Among.{MayBe, MayHave}
use Rattle.ra_lint.specs.Warnings.{may_hold, is_unreachable}
use Rattle.ra_lint.proofs.ChanceLemmas.{reached_among}
use Rattle.ra_lint.proofs.TriggerLemmas.{AllMayHave, AllMayBe}

module _ (f : Frame) (holds : MayBe (may_hold f.conditions) f.truths)
    (had : MayHave f.conditions (may_hold f.conditions) f.hits) where
  unreached : (j : ℕ) → is_unreachable f.conditions j ≡ true → reached_at f j ≡ false
  unreached j e = by_reach (reached_at f j) refl
    where
      by_reach : (b : Bool) → reached_at f j ≡ b → b ≡ false
      by_reach false r = refl
      by_reach true r = absurd (by_parts (not (eqb (condition_at f.conditions j).target 0))
          (may_reach (condition_at f.conditions j).target (chance_at f.conditions (may_hold f.conditions) j).met
          (chance_at f.conditions (may_hold f.conditions) j).added) e
          (reached_among f (may_hold f.conditions) holds had j r))
        where
          by_parts : (a b : Bool) → (a && not b) ≡ true → b ≡ true → ⊥
          by_parts true true e r = false≢true e
          by_parts true false e r = false≢true r
          by_parts false b e r = false≢true e

-- in each group of a trigger
pub unreached_along : (groups : List (List Condition)) (truths : List Bool) (lefts hits : List ℕ)
    → AllMayBe groups truths → AllMayHave groups hits → (group j : ℕ) → is_unreachable
    (slice_index_or groups group []) j ≡ true
    → reached_at (slice_index_or (frames_along groups truths lefts hits) group (frame_of [] [] [] [])) j ≡ false
unreached_along [] truths lefts hits b h group j e = refl
unreached_along (cs ∷ groups) truths lefts hits b h zero j e = unreached
    (frame_of cs (take (length cs) truths) (take (length cs) lefts) (take (length cs) hits)) b.0 h.0 j e
unreached_along (cs ∷ groups) truths lefts hits b h (suc group) j e = unreached_along groups
    (drop (length cs) truths) (drop (length cs) lefts) (drop (length cs) hits) b.1 h.1 group j e
