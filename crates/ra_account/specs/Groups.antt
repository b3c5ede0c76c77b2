-- The accounts of a group's conditions: docs/DEFINITIONS.md, "Account of an achievement". A list has a row for each
-- frame, the newest first.
use Rattle.std.specs.Prelude.{◌≡◌, ℕ, ◌+◌, ◌<◌, ◌≤◌, Bool, true, false, List, [], ◌∷◌, length, map, take, drop, sum_by}
use Rattle.std.specs.Prelude.{slice_index, slice_index_or}
use Rattle.ra_condition.specs.declared.condition.Condition.{Condition}
use Rattle.ra_condition.specs.Chains.{in_pause_chain, places}
use Rattle.ra_condition.specs.Contents.{condition_at, flag_at}
use Rattle.ra_group.specs.Equations.{Frame, frame_of}
use Rattle.ra_account.specs.declared.facts.Facts.{Facts}
use Rattle.ra_account.specs.declared.group_account.GroupAccount.{GroupAccount}
use Rattle.ra_account.specs.declared.row.Row.{Row}
use Rattle.ra_account.specs.declared.sight.Sight.{Sight}
use Rattle.ra_account.specs.Alone.{AreCalm, StandAlone, stands_alone}
use Rattle.ra_account.specs.Running.{AllRunAt, AreRunning}
use Rattle.ra_account.specs.Facts.{facts_at, is_paused, wanted_at, wanted_by}

-- what the account of a group is told of a frame: for each condition its comparison, its left and right value, and its
-- hits before
pub record GroupRow : Type 0 where
  pub truths : List Bool
  pub lefts : List ℕ
  pub rights : List ℕ
  pub hits : List ℕ

-- a row of this many conditions
pub record IsRowOf (count : ℕ) (r : GroupRow) : Type 0 where
  pub truths_many : length r.truths ≡ count
  pub lefts_many : length r.lefts ≡ count
  pub rights_many : length r.rights ≡ count
  pub hits_many : length r.hits ≡ count

-- the marks tell whether each condition stands in a pause chain
pub record ArePausing (cs : List Condition) (pausing : List Bool) : Type 0 where
  pub as_many : length pausing ≡ length cs
  pub each : (j : ℕ) → j < length cs → slice_index_or pausing j false ≡ in_pause_chain cs j

-- the group at the frame
abbrev pub row_frame : List Condition → GroupRow → Frame
row_frame cs r = frame_of cs r.truths r.lefts r.hits

-- what the frame shows of the condition at j, over a memory of this many bytes
abbrev pub shown : List Condition → (size : ℕ) → ℕ → GroupRow → Facts
shown cs size j r = facts_at (row_frame cs r) r.rights size j

-- whether the frame wants each condition
abbrev pub wants_of : List Condition → GroupRow → List Bool
wants_of cs r = map (wanted_at (row_frame cs r)) (places cs)

-- what a row has of the condition at j
abbrev pub sight_at : GroupRow → ℕ → Sight
sight_at r j = record {
  truth = slice_index_or r.truths j false;
  left = slice_index r.lefts j;
  right = slice_index r.rights j;
  hits = slice_index r.hits j;
}

-- what is taken for a condition past the end of a group, where no clause looks
abbrev pub no_sight : Sight
no_sight = record { truth = false; left = 0; right = 0; hits = 0 }

-- the row that a value of the code has
abbrev pub row_in : Row → GroupRow
row_in r = record { truths = r.truths.now; lefts = r.lefts.now; rights = r.rights.now; hits = r.hits.now }

-- a row is kept, and whether its frame pauses the group
pub record KeepsRow (cs : List Condition) (r : GroupRow) (g : GroupAccount) : Type 0 where
  pub paused_too : g.paused ≡ is_paused (row_frame cs r)
  pub seen_too : (j : ℕ) → j < length cs → slice_index_or g.seen.items j no_sight ≡ sight_at r j

-- the row of the last frame is kept, which there is
abbrev pub KeepsLast : List Condition → List GroupRow → GroupAccount → Type 0
KeepsLast cs [] g = ⊥
KeepsLast cs (r ∷ earlier) g = KeepsRow cs r g

-- a frame wants each condition as marked, in a group without chains, by what it shows of each and whether it pauses
-- the group
abbrev pub AreWantedBy : List Condition → (paused : Bool) → List Sight → (wants : List Bool) → Type 0
AreWantedBy cs paused seen wants = (j : ℕ) → j < length cs → slice_index_or wants j false
    ≡ wanted_by (flag_at cs j) paused (stands_alone (condition_at cs j) (slice_index_or seen j no_sight).truth
    (slice_index_or seen j no_sight).hits).valid

-- an account of each condition over these frames, with the row of the last one if one is kept
pub record IsGroupAccount (cs : List Condition) (size : ℕ) (frames : List GroupRow) (g : GroupAccount) : Type 0 where
  pub count : g.frames ≡ length frames
  pub each : AreRunning (λ j. map (shown cs size j) frames) g.conditions.items
  pub last : g.kept ≡ true → KeepsLast cs frames g

-- each is an account of this many frames
pub record GroupStandsAt (count : ℕ) (g : GroupAccount) : Type 0 where
  pub frames_too : g.frames ≡ count
  pub each_stands : AllRunAt count g.conditions.items
  pub some : g.kept ≡ true → 0 < count

-- an account for each condition, with room for what a frame shows; and whether the group is known to have no chains,
-- or to be calm
pub record FitsGroup (cs : List Condition) (g : GroupAccount) : Type 0 where
  pub few : length cs ≤ 65536
  pub many : length g.conditions.items ≡ length cs
  pub wants : length g.wants.items ≡ length cs
  pub pausings : length g.pausing.items ≡ length cs
  pub pausing : (j : ℕ) → j < length cs → slice_index_or g.pausing.items j false ≡ in_pause_chain cs j
  pub room : length g.room.items ≡ length cs
  pub alone : g.alone ≡ true → StandAlone cs
  pub calm : g.calm ≡ true → AreCalm cs
  pub seen : length g.seen.items ≡ length cs
  pub wanted : g.kept ≡ true → AreWantedBy cs g.paused g.seen.items g.wants.items

-- an account of this many frames, with one for each condition
pub record IsGroupReady (cs : List Condition) (count : ℕ) (g : GroupAccount) : Type 0 where
  pub fits : FitsGroup cs g
  pub stands : GroupStandsAt count g

-- the part of a row that has this many conditions, from a place on
abbrev pub cut_row : (count start : ℕ) → GroupRow → GroupRow
cut_row count start r = record {
  truths = take count (drop start r.truths);
  lefts = take count (drop start r.lefts);
  rights = take count (drop start r.rights);
  hits = take count (drop start r.hits);
}

-- the part of a row that has the conditions of a group, which start at a place
abbrev pub part_of : List Condition → ℕ → GroupRow → GroupRow
part_of cs start r = cut_row (length cs) start r

-- the group of a place
abbrev pub group_at : List (List Condition) → ℕ → List Condition
group_at groups g = slice_index_or groups g []

-- the place at which the conditions of a group start, after those of the groups before it
abbrev pub start_at : List (List Condition) → ℕ → ℕ
start_at groups g = sum_by length (take g groups)

-- an account of each group over these frames, of which the conditions of all groups start at a place
abbrev pub AreGroupAccounts : List (List Condition) → (from size : ℕ) → List GroupRow → List GroupAccount → Type 0
AreGroupAccounts groups from size frames accounts =
    (g : ℕ) → g < length accounts → (d : GroupAccount)
    → IsGroupAccount (group_at groups g) size (map (part_of (group_at groups g) (from + start_at groups g)) frames)
    (slice_index_or accounts g d)

-- each is an account of this many frames
abbrev pub AllGroupsStandAt : ℕ → List GroupAccount → Type 0
AllGroupsStandAt count accounts =
    (g : ℕ) → g < length accounts → (d : GroupAccount) → GroupStandsAt count (slice_index_or accounts g d)

-- each tells what the frame of a row wants of its group, of which the conditions of all groups start at a place
abbrev pub AllWant : List (List Condition) → (from : ℕ) → GroupRow → List GroupAccount → Type 0
AllWant groups from row accounts =
    (g : ℕ) → g < length accounts → (d : GroupAccount)
    → (slice_index_or accounts g d).wants.items
    ≡ wants_of (group_at groups g) (part_of (group_at groups g) (from + start_at groups g) row)

-- each has an account for each condition of its group
abbrev pub AllFit : List (List Condition) → List GroupAccount → Type 0
AllFit groups accounts =
    (g : ℕ) → g < length accounts → (d : GroupAccount) → FitsGroup (group_at groups g) (slice_index_or accounts g d)

-- each group has an account of this many frames, with one for each of its conditions
pub record AreReady (groups : List (List Condition)) (count : ℕ) (accounts : List GroupAccount) : Type 0 where
  pub as_many : length accounts ≡ length groups
  pub fit : AllFit groups accounts
  pub stand : AllGroupsStandAt count accounts
