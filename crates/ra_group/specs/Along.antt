-- Groups side by side, with lists that run over the conditions of all: docs/DEFINITIONS.md, "Triggers over frames" and
-- "Values over frames".
use Rattle.std.specs.Prelude.{◌≡◌, ℕ, ◌+◌, ◌<◌, ◌≤◌, Bool, List, ◌++◌, length, map, take, drop, filter, sum_by}
use Rattle.std.specs.Prelude.{slice_index}
use Rattle.std.specs.List.{flat_map}
use Rattle.ra_condition.specs.declared.condition.Condition.{Condition}
use Rattle.ra_condition.specs.Chains.{in_pause_chain, places, pass_order}
use Rattle.ra_group.specs.declared.group_place.GroupPlace.{GroupPlace}
use Rattle.ra_group.specs.declared.reads.Reads.{Reads}
use Rattle.ra_group.specs.Equations.{Frame, frame_of}

-- how many conditions of a group stand in pause chains; they are the first of its pass order
abbrev pub pause_count : List Condition → ℕ
pause_count cs = length (filter (in_pause_chain cs) (places cs))

-- the frame of a group whose conditions start at the place
abbrev pub frame_at : List Condition → List Bool → (lefts hits : List ℕ) → ℕ → Frame
frame_at cs truths lefts hits at =
    frame_of cs (take (length cs) (drop at truths)) (take (length cs) (drop at lefts)) (take (length cs) (drop at hits))

-- a list with a part of it put anew, from the place on
abbrev pub with_part : List ℕ → ℕ → List ℕ → List ℕ
with_part xs at part = take at xs ++ (part ++ drop (at + length part) xs)

-- what is read for these groups: the pass order of each, how many conditions of each stand in pause chains, and a truth
-- and a left value of each condition
pub record ReadsGroups (groups : List (List Condition)) (reads : Reads) : Type 0 where
  pub orders : reads.orders.now ≡ flat_map pass_order groups
  pub pauses : reads.pauses.now ≡ map pause_count groups
  pub truths : length reads.truths.now ≡ sum_by length groups
  pub lefts : length reads.lefts.now ≡ sum_by length groups

-- what is read has as many entries as there are conditions
pub record HasEntries (count : ℕ) (reads : Reads) : Type 0 where
  pub orders : length reads.orders.now ≡ count
  pub truths : length reads.truths.now ≡ count
  pub lefts : length reads.lefts.now ≡ count

-- the entries of a group of these conditions are those at its place
pub record LiesAlong (cs : List Condition) (reads : Reads) (place : GroupPlace) : Type 0 where
  pub order : take (length cs) (drop place.start reads.orders.now) ≡ pass_order cs
  pub counted : place.number < length reads.pauses.now
  pub pauses : slice_index reads.pauses.now place.number ≡ pause_count cs
  pub within : place.start + length cs ≤ length reads.orders.now
