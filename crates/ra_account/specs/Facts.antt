-- What a frame shows of each condition of a trigger: docs/DEFINITIONS.md, "Account of an achievement".
use Rattle.std.specs.Prelude.{ℕ, zero, suc, ◌+◌, ◌%◌, ◌^◌, Bool, false, not, ◌&&◌, ◌||◌, if◌then◌else◌, nat_lt, List}
use Rattle.std.specs.Prelude.{slice_index}
use Rattle.ra_operand.specs.declared.operand.Operand.{Operand}
use Rattle.ra_operand.specs.declared.operand.Operand.TheVariants.{Cell}
use Rattle.ra_operand.specs.declared.size.Size.{Size}
use Rattle.ra_operand.specs.declared.size.Size.TheVariants.{Two, TwoBig, Three, ThreeBig, Four, FourBig}
use Rattle.ra_condition.specs.declared.flag.Flag.{Flag}
use Rattle.ra_condition.specs.declared.condition.Condition.{Condition}
use Rattle.ra_condition.specs.Chains.{in_pause_chain, places}
use Rattle.ra_condition.specs.Contents.{condition_at, flag_at}
use Rattle.ra_condition.specs.Flags.{hands_on, is_address, is_pause, is_required}
use Rattle.ra_group.specs.declared.standing.Standing.{Standing}
use Rattle.ra_group.specs.Equations.{Frame}
use Rattle.ra_group.specs.Outcome.{some_valid}
use Rattle.ra_group.specs.Standings.{standing_at}
use Rattle.ra_account.specs.declared.facts.Facts.{Facts}
use Rattle.ra_account.specs.declared.facts.Around.{Around}

-- how many bytes a size looks at: three of the four of a cell of 24 bits
abbrev pub bytes_of : Size → ℕ
bytes_of Two = 2
bytes_of TwoBig = 2
bytes_of Three = 3
bytes_of ThreeBig = 3
bytes_of Four = 4
bytes_of FourBig = 4
bytes_of _ = 1

-- a memory operand looks past a memory of this many bytes, by the value of its pointer
abbrev pub past_memory : Operand → (pointer memory : ℕ) → Bool
past_memory (Cell kind size address) pointer memory =
    nat_lt memory ((address + pointer) % 2 ^ 32 + bytes_of size)
past_memory _ pointer memory = false

-- the condition is live: it counts hits, and its group is not paused or it stands in a pause chain
abbrev pub is_live : Flag → Around → Bool
is_live flag around = not (hands_on flag) && (not around.paused || around.in_pause_chain)

-- what is shown of a condition, by how it stands
abbrev pub facts_by : Condition → Standing → Around → (left right : ℕ) → Facts
facts_by c standing around left right = record {
  counts = is_live c.flag around && (standing.met && not standing.reset);
  total = if is_live c.flag around then standing.total else 0;
  past = past_memory c.left around.pointer around.size || past_memory c.right around.pointer around.size;
  left = left;
  right = right;
}

-- the frame wants the condition: it has to be valid and is not, or its group is paused; or it is a PauseIf that is
-- valid
abbrev pub wanted_by : Flag → (paused valid : Bool) → Bool
wanted_by flag paused valid = (is_required flag && (paused || not valid)) || (is_pause flag && valid)

-- the group is paused at the frame
abbrev pub is_paused : Frame → Bool
is_paused f = some_valid is_pause f (places f.conditions)

-- the value of the pointer of the condition after one, by its flag and its left value
abbrev pub pointer_by : Flag → ℕ → ℕ
pointer_by flag left = if is_address flag then left else 0

-- the value of the pointer of the condition at j: the left value of an AddAddress directly before it, else 0
abbrev pub pointer_at : Frame → ℕ → ℕ
pointer_at f zero = 0
pointer_at f (suc i) = pointer_by (flag_at f.conditions i) (slice_index f.lefts i)

-- what the group is for its condition at j, over a memory of this many bytes
abbrev pub around_at : Frame → (size : ℕ) → ℕ → Around
around_at f size j =
    record {
      paused = is_paused f;
      in_pause_chain = in_pause_chain f.conditions j;
      pointer = pointer_at f j;
      size = size;
    }

-- what the frame shows of the condition at j
abbrev pub facts_at : Frame → List ℕ → (size : ℕ) → ℕ → Facts
facts_at f rights size j =
    facts_by (condition_at f.conditions j) (standing_at f j) (around_at f size j)
    (slice_index f.lefts j) (slice_index rights j)

-- the frame wants the condition at j
abbrev pub wanted_at : Frame → ℕ → Bool
wanted_at f j = wanted_by (flag_at f.conditions j) (is_paused f) (standing_at f j).valid
