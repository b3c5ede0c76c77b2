-- A recorder that takes one frame: what it stands for, and what its slots keep.
use Rattle.std.proofs.Common.{◌≡◌, ℕ, ◌+◌, ◌-◌, ◌*◌, ◌<◌, ◌≤◌, ◌^◌, ◌&&◌, not, Bool, Option, List, ◌∷◌, length, map}
use Rattle.std.proofs.Common.{sym}
use Rattle.std.proofs.Common.{◌∙◌, ap, ap₂, subst, arith}
use Rattle.std.specs.List.{AllByRecursion}
use Rattle.ra_condition.specs.Contents.{TriggerContents}
use Rattle.ra_memory.specs.Image.{History}
use Rattle.ra_memref.specs.Table.{TableSeen, Samples}
use Rattle.ra_memref.specs.Values.{cell_place}
use Rattle.ra_trigger.specs.declared.change.Change.{Change}
use Rattle.ra_trigger.specs.States.{is_triggered}
use Rattle.ra_member.specs.declared.trigger_run.TriggerRun.{TriggerRun}
use Rattle.ra_member.specs.Runs.{IsTriggerRun, StepsAchievement}
use Rattle.ra_explain.specs.declared.slot.Slot.{Slot}
use Rattle.ra_explain.specs.Making.{IsOver}
use Rattle.ra_explain.specs.Recorders.{StandsFor, trigger_cells, plain_start, unlocks_at}
use Rattle.ra_explain.specs.RowLists.{RowsSeen, refilled, rows_from, with_row, truths_laid}
use Rattle.ra_explain.specs.Slots.{kept_by, StandsSomewhere, FitsOptional}
use Rattle.ra_explain.proofs.FrameLemmas.{frame_answers, frame_places, frame_stands}
use Rattle.ra_explain.proofs.RowLemmas.{added_filled, length_with, rows_new}
use Rattle.ra_explain.proofs.SlotLemmas.{slots_kept, slots_stay, slots_fit_more}

-- the count of rows, and the product of one frame more, are numbers of 64 bits
pub rows_fit : (rows hits : ℕ) → rows * (hits + 1) ≤ 67108864 → rows ≤ 67108864
rows_fit rows hits few = let far : rows * (hits + 1) ≡ rows * hits + rows = omega arith in omega (arith, far, few)

pub product_fits : (rows hits count many : ℕ) → rows * (hits + 1) ≤ 67108864 → hits ≤ 65536 → count ≡ rows
    → many ≡ hits → (count + 1) * (many + 1) < 2 ^ 64
product_fits rows hits count many few small same same_too =
    let far : (rows + 1) * (hits + 1) ≡ rows * (hits + 1) + hits + 1 = omega arith in
    let bound : (rows + 1) * (hits + 1) < 2 ^ 64 = omega (arith, far, few, small) in
    rw (same, same_too) bound

-- a recorder takes a frame: its table samples it, its run steps, and it has a row more
pub record TakesRow (t : TriggerContents) (old new : TableSeen) (image : List ℕ) (before after : TriggerRun)
    (change : Change) (rows rows' : RowsSeen) (latest place : ℕ) : Type 0 where
  pub over : IsOver t old
  pub samples : Samples old new image
  pub run : IsTriggerRun new.nodes t after
  pub steps : StepsAchievement new t before after change
  pub grown : rows' ≡ record rows { behind = with_row rows.behind (truths_laid new.values after.laid) latest }
  pub count : length rows'.behind ≡ place + 1

-- the row is added and then filled
pub takes_row : {t : TriggerContents} {old new : TableSeen} {image : List ℕ} {before after : TriggerRun}
    {change : Change} (rows added rows' : RowsSeen) (first : List Bool) (latest place : ℕ) → IsOver t old
    → Samples old new image → IsTriggerRun new.nodes t after → StepsAchievement new t before after change
    → added ≡ record rows { behind = with_row rows.behind first latest }
    → rows' ≡ record added { behind = refilled added.behind (truths_laid new.values after.laid) }
    → length rows'.behind ≡ place + 1 → TakesRow t old new image before after change rows rows' latest place
takes_row rows added rows' first latest place over samples run steps adds fills count = record {
  over = over;
  samples = samples;
  run = run;
  steps = steps;
  grown = added_filled rows added rows' first _ latest adds fills;
  count = count;
}

module _ {t : TriggerContents} {old new : TableSeen} {image : List ℕ} {before after : TriggerRun} {change : Change}
    {rows rows' : RowsSeen} {latest place : ℕ}
    (takes : TakesRow t old new image before after change rows rows' latest place) where
  abbrev row : List Bool
  row = truths_laid new.values after.laid

  behind_is : rows'.behind ≡ with_row rows.behind row latest
  behind_is = ap (λ (r : RowsSeen). r.behind) takes.grown

  place_is : place ≡ length rows.behind
  place_is = omega (arith, takes.count, ap length behind_is, length_with rows.behind row latest)

  pub frames_on : 0 < length rows.behind → length rows'.behind - 1 ≡ length rows.behind - 1 + 1
  frames_on some = omega (arith, takes.count, place_is, some)

  -- the rows behind the frame are its own and those before it
  rows_are : rows_from rows'.behind place ≡ row ∷ rows_from rows.behind latest
  rows_are = ap₂ (λ b n. rows_from b n) behind_is place_is ∙ rows_new rows.behind row latest

  module _ (history : History)
      (stands : StandsFor t (kept_by old before.trigger (rows_from rows.behind latest)) history) where
    pub stands_on : StandsFor t (kept_by new after.trigger (rows_from rows'.behind place)) (image ∷ history)
    stands_on =
        subst (λ rs. StandsFor t (kept_by new after.trigger rs) (image ∷ history)) (sym rows_are)
        (frame_stands t old new image before after change (rows_from rows.behind latest) takes.over takes.samples
        takes.run takes.steps history stands)

    pub answers_on : (not (is_triggered change.before) && is_triggered change.after) ≡ unlocks_at t image history
    answers_on = frame_answers t old new image before after change (rows_from rows.behind latest) takes.over
        takes.samples takes.run takes.steps history stands

    pub places_on : new.places ≡ map (λ c. cell_place plain_start c (image ∷ history)) (trigger_cells t)
    places_on = frame_places t old new image before after change (rows_from rows.behind latest) takes.over
        takes.samples takes.run takes.steps history stands

  pub somewhere_on : StandsSomewhere t (kept_by old before.trigger (rows_from rows.behind latest))
      → StandsSomewhere t (kept_by new after.trigger (rows_from rows'.behind place))
  somewhere_on at = record { history = image ∷ at.history; stands = stands_on at.history at.stands }

  module _ (slots : List (Option Slot)) (fit : AllByRecursion (FitsOptional t rows.behind) slots) where
    pub slots_same : slots_kept t rows'.behind slots ≡ slots_kept t rows.behind slots
    slots_same = ap (λ b. slots_kept t b slots) behind_is ∙ slots_stay t rows.behind row latest slots fit

    pub slots_fit_on : AllByRecursion (FitsOptional t rows'.behind) slots
    slots_fit_on =
        subst (λ b. AllByRecursion (FitsOptional t b) slots) (sym behind_is)
        (slots_fit_more t rows.behind row latest slots fit)
