-- An item that is not due keeps what it owes, and is seen to take the frame.
use Rattle.std.proofs.Common.{◌≡◌, ℕ, ◌+◌, Bool, true, false, List, [], length, refl, sym, ◌∙◌}
use Rattle.ra_memref.specs.Table.{TableSeen}
use Rattle.ra_memref.specs.Values.{Start}
use Rattle.ra_truths.specs.declared.comparison.Comparison.{Comparison}
use Rattle.ra_schedule.specs.Readers.{ReadersSeen}
use Rattle.ra_schedule.specs.Waking.{Agrees}
use Rattle.ra_set.specs.Contents.{ItemContents, Unlocks, Ranks}
use Rattle.ra_schedule.proofs.MembersRest.Woken.{member_through, through}
use Rattle.ra_group.specs.declared.form.Form.TheVariants.{InTrigger}
use Rattle.ra_schedule.specs.Inputs.{Instant}
use Rattle.ra_items.specs.declared.item_run.ItemRun.{ItemRun}
use Rattle.ra_items.specs.declared.rest.ItemCounts.{ItemCounts}
use Rattle.ra_meaning.specs.Earned.{is_earned}
use Rattle.ra_meaning.specs.Order.{board_member}
use Rattle.ra_meaning.specs.Play.{item_events, unless_earned}
use Rattle.ra_items.specs.Resting.{AreValuesAt, GoesOn, IsToldOf, ItemSeesSame, StepsSeen, first_frame, owed_run}
use Rattle.ra_items.specs.Rests.{IsSomeFrame}
use Rattle.ra_items.specs.RunEvents.{run_events}

-- what sees the same at a second instant as at a first, and at a third as at the second, sees the same at the third as
-- at the first
module _ (one two three : Instant) where
  item_through : (item : ItemContents) → ItemSeesSame one two item → ItemSeesSame two three item
      → ItemSeesSame one three item
  item_through (Unlocks id t) first second = through one two three InTrigger _ first second
  item_through (Ranks id format b) first second =
      member_through one two three (board_member b) first second

-- an item that goes on to rest by earlier values, where it reads the same still
module _ (table : TableSeen) (values : List ℕ) (item : ItemContents) (b : ItemCounts)
    (run : ItemRun) (on : GoesOn table.nodes values item b run)
    (comparisons : List Comparison) (readers : ReadersSeen) (reader : ℕ)
    (told : IsToldOf table.nodes comparisons readers item reader)
    (same : Agrees (length table.nodes) comparisons readers reader values table.values) where
  sees : (start : Start) (image : List ℕ) → AreValuesAt table.nodes table.values
      (first_frame start image) → ItemSeesSame on.now (first_frame start image) item
  sees start image has = told values table.values on.now (first_frame start image) on.at has same

  pub still_on : IsSomeFrame table → GoesOn table.nodes table.values item b run
  still_on frame =
      let next = first_frame frame.start frame.image in
      let first = sees frame.start frame.image frame.has in
      record {
        now = next;
        at = frame.has;
        kept = λ start image seen n. on.kept start image
            (item_through on.now next (first_frame start image) item first seen) n;
        silent = λ start image seen n. on.silent start image
            (item_through on.now next (first_frame start image) item first seen) n;
        told = on.told;
      }

  nothing : (earned : Bool) (start : Start) (image : List ℕ) (n : ℕ)
      → ItemSeesSame on.now (first_frame start image) item
      → [] ≡ unless_earned (item_events start image []) (earned, (item, owed_run n b run))
  nothing true start image n seen = refl
  nothing false start image n seen = sym (on.silent start image seen n)

  pub skipped : (n : ℕ) → StepsSeen table item (owed_run n b run) (owed_run (n + 1) b run) (run_events item run)
  skipped n = record {
    kept = λ start image has. sym (on.kept start image (sees start image has) n);
    events = λ start image has. on.told ∙ nothing (is_earned (owed_run n b run)) start image n (sees start image has);
  }
