-- The account of a trigger: docs/DEFINITIONS.md, "Account of an achievement". A list has a row for each frame, the
-- newest first.
use Rattle.std.specs.Prelude.{◌≡◌, ℕ, ◌≤◌, Bool, List, length, map}
use Rattle.ra_condition.specs.Contents.{TriggerContents, trigger_hits}
use Rattle.ra_trigger.specs.Steps.{together}
use Rattle.ra_account.specs.declared.moment.Moment.{Moment}
use Rattle.ra_account.specs.declared.trigger_account.TriggerAccount.{TriggerAccount}
use Rattle.ra_account.specs.Counting.{times_of}
use Rattle.ra_account.specs.Nearness.{Lack, IsNearest}
use Rattle.ra_account.specs.Wanting.{trigger_wants}
use Rattle.ra_account.specs.Groups.{GroupRow, AllFit, AllGroupsStandAt, AreGroupAccounts, FitsGroup, GroupStandsAt}
use Rattle.ra_account.specs.Groups.{IsGroupAccount, part_of}

-- what the account of a trigger is told of a frame: the trigger as a whole, and a row over the conditions of all groups
pub record TriggerRow : Type 0 where
  pub moment : Moment
  pub row : GroupRow

-- what a frame shows of a trigger, by its row, and by whether it was waiting and is valid
abbrev pub row_with : TriggerContents → (waited : Bool) → GroupRow → TriggerRow
row_with t waited row = record {
  moment = record {
    reset = (together t row.truths row.lefts row.hits).reset;
    paused = (together t row.truths row.lefts row.hits).paused;
    waited = waited;
  };
  row = row;
}

-- what a frame wants, and whether it has a reset
abbrev pub lack_of : TriggerContents → TriggerRow → Lack
lack_of t f = record { reset = f.moment.reset; wants = trigger_wants t f.row }

-- an account of the trigger over these frames, with a memory of this many bytes
pub record IsTriggerAccount (t : TriggerContents) (size : ℕ) (frames : List TriggerRow)
    (a : TriggerAccount) : Type 0 where
  pub count : a.frames ≡ length frames
  pub core : IsGroupAccount t.core size (map (part_of t.core 0) (map (λ f. f.row) frames)) a.core
  pub alts : AreGroupAccounts t.alts (length t.core) size (map (λ f. f.row) frames) a.alts.items
  pub resets : a.resets ≡ times_of (map (λ f. f.moment.reset) frames)
  pub paused : a.paused ≡ times_of (map (λ f. f.moment.paused) frames)
  pub waited : a.waited ≡ times_of (map (λ f. f.moment.waited) frames)
  pub nearest : IsNearest (map (lack_of t) frames) a.nearest

-- an account of the trigger over this many frames, whatever they showed
pub record IsReady (t : TriggerContents) (a : TriggerAccount) : Type 0 where
  pub few : trigger_hits t ≤ 65536
  pub core_fits : FitsGroup t.core a.core
  pub core_stands : GroupStandsAt a.frames a.core
  pub many : length a.alts.items ≡ length t.alts
  pub alts_fit : AllFit t.alts a.alts.items
  pub alts_stand : AllGroupsStandAt a.frames a.alts.items
  pub resets_few : a.resets.count ≤ a.frames
  pub paused_few : a.paused.count ≤ a.frames
  pub waited_few : a.waited.count ≤ a.frames
  pub nearest_many : length a.nearest.wants.items ≡ trigger_hits t
