-- The equations of one condition, by looking back in its chain: docs/DEFINITIONS.md, "Equations of a condition".
use Rattle.std.specs.Prelude.{ℕ, zero, suc, ◌+◌, min, Bool, false, if◌then◌else◌, not, ◌&&◌, ◌||◌, ◌==◌, nat_lt, nat_le}
use Rattle.std.specs.Prelude.{Option, None, Some, List, slice_index, slice_index_or, pos, negsuc, ℤ, ◌+ℤ◌, ◌-ℤ◌}
use Rattle.ra_condition.specs.declared.flag.Flag.{Flag}
use Rattle.ra_condition.specs.declared.flag.Flag.TheVariants.{AddHits, SubHits, AndNext, OrNext, ResetNextIf}
use Rattle.ra_condition.specs.declared.condition.Condition.{Condition}
use Rattle.ra_condition.specs.Flags.{combines, hands_on}
use Rattle.ra_condition.specs.Contents.{condition_at}
use Rattle.ra_group.specs.declared.settled.Settled.{Settled}

-- a group at a frame: its conditions, and for each its comparison, its left value and its hits before
pub record Frame : Type 0 where
  pub conditions : List Condition
  pub truths : List Bool
  pub lefts : List ℕ
  pub hits : List ℕ

-- the frame of these lists
abbrev pub frame_of : List Condition → List Bool → List ℕ → List ℕ → Frame
frame_of cs ts ls hs = record { conditions = cs; truths = ts; lefts = ls; hits = hs }

-- 1: whether the condition is met, by flag and validity of the condition before it
abbrev pub met_after : Flag → Bool → Bool → Bool
met_after AndNext valid t = valid && t
met_after OrNext valid t = valid || t
met_after _ valid t = t

-- 1: whether the condition is met, by what stands before it in its chain, if anything does
abbrev pub met : Option Settled → Bool → Bool
met None t = t
met (Some prev) t = met_after prev.flag prev.valid t

-- 2: whether the hits of the condition are reset, by flag, validity and reset of the condition before it
abbrev pub reset_after : Flag → Bool → Bool → Bool
reset_after ResetNextIf valid reset = valid
reset_after AndNext valid reset = reset
reset_after OrNext valid reset = reset
reset_after _ valid reset = false

-- 2: whether the hits of the condition are reset, by what stands before it in its chain, if anything does
abbrev pub reset_by : Option Settled → Bool
reset_by None = false
reset_by (Some prev) = reset_after prev.flag prev.valid prev.reset

-- 3: the hits of the condition after the frame
abbrev pub hits_after : Bool → Bool → ℕ → ℕ → ℕ
hits_after reset m target h =
    if reset then 0 else (if m && (target == 0 || nat_lt h target) then min (h + 1) 4294967295 else h)

-- 4: whether the condition is valid by itself
abbrev pub valid_alone : Bool → Bool → ℕ → ℕ → Bool
valid_alone reset m target hit = not reset && (if target == 0 then m else nat_le target hit)

-- 5: the hits that the chain adds, by the condition before
abbrev pub add_after : Flag → ℤ → ℕ → ℤ
add_after AddHits add hit = add +ℤ pos hit
add_after SubHits add hit = add -ℤ pos hit
add_after _ add hit = add

-- 5: the hits that the chain adds, by what stands before the condition, if anything does
abbrev pub add_by : Option Settled → ℤ
add_by None = pos 0
add_by (Some prev) = add_after prev.flag prev.add prev.hit

-- 6: a total: the whole number, but at least 0 and at most 2^32 - 1
abbrev pub clamped : ℤ → ℕ
clamped (pos n) = min n 4294967295
clamped (negsuc n) = 0

-- 7: whether the target is reached
abbrev pub reached : ℕ → ℕ → Bool
reached target total = not (target == 0) && nat_le target total

-- 8: whether the condition is valid
abbrev pub valid_by : Flag → ℕ → ℕ → Bool → Bool
valid_by flag target total alone =
    if combines flag || target == 0 then alone else reached target total

-- the equations 1 to 8 for one condition, from what stands before it in its chain
abbrev pub settled : Condition → Bool → ℕ → Option Settled → Settled
settled c t h prev =
    let m = met prev t in
    let reset = reset_by prev in
    let hit = hits_after reset m c.target h in
    let total = clamped (pos hit +ℤ add_by prev) in
    record {
      flag = c.flag;
      reset = reset;
      hit = hit;
      add = add_by prev;
      total = total;
      valid = valid_by c.flag c.target total (valid_alone reset m c.target hit);
    }

-- what the next condition sees before it: this one, or what this one sees where it hands a value on, or nothing after a
-- chain
abbrev pub seen_after : Condition → Settled → Option Settled → Option Settled
seen_after c here prev =
    if hands_on c.flag then prev else (if combines c.flag then Some here else None)

-- the nearest earlier condition of the chain of j that counts hits, if there is one
abbrev pub prev_of : Frame → ℕ → Option Settled
prev_of f zero = None
prev_of f (suc i) =
    seen_after (condition_at f.conditions i) (settled (condition_at f.conditions i)
    (slice_index_or f.truths i false) (slice_index f.hits i) (prev_of f i)) (prev_of f i)

-- the condition at j by the equations
abbrev pub settled_at : Frame → ℕ → Settled
settled_at f j = settled (condition_at f.conditions j) (slice_index_or f.truths j false)
    (slice_index f.hits j) (prev_of f j)
