-- One frame goes on from every history for which what is kept stands.
use Rattle.std.proofs.Common.{◌≡◌, ℕ, not, ◌&&◌, Bool, List, ◌∷◌, length, map, sym, ◌∙◌, ap, ap₂}
use Rattle.std.proofs.lemmas.List.{length-map}
use Rattle.ra_condition.specs.Contents.{TriggerContents, groups_of, trigger_hits}
use Rattle.ra_indirect.specs.Pools.{cells_of, tracked_of, spelled_by}
use Rattle.ra_memory.specs.Image.{History}
use Rattle.ra_memref.specs.Values.{cell_number, cell_place, tracked_number}
use Rattle.ra_memref.specs.Table.{TableSeen, AreKept, Samples, spelled_value}
use Rattle.ra_trigger.specs.declared.change.Change.{Change}
use Rattle.ra_trigger.specs.States.{is_triggered}
use Rattle.ra_trigger.specs.Steps.{TriggerKept}
use Rattle.ra_member.specs.declared.trigger_run.TriggerRun.{TriggerRun}
use Rattle.ra_member.specs.Frames.{achievement_next}
use Rattle.ra_member.specs.Runs.{HasValues, IsTriggerRun, StepsAchievement}
use Rattle.ra_member.proofs.LaidLemmas.{laid_truths}
use Rattle.ra_explain.specs.Making.{IsOver}
use Rattle.ra_explain.specs.Recorders.{plain_start, trigger_cells, trigger_tracked, kept_after, row_of, StandsFor}
use Rattle.ra_explain.specs.Recorders.{unlocks_at}
use Rattle.ra_explain.specs.RowLists.{truths_laid}
use Rattle.ra_explain.specs.Slots.{HaveCounts, counts_of, kept_by, StandsSomewhere}

module _ (t : TriggerContents) (old new : TableSeen) (image : List ℕ) (before after : TriggerRun)
    (change : Change) (rows : List (List Bool)) (over : IsOver t old)
    (samples : Samples old new image) (run : IsTriggerRun new.nodes t after)
    (steps : StepsAchievement new t before after change) (history : History)
    (stands : StandsFor t (kept_by old before.trigger rows) history) where
  are_kept : AreKept plain_start history old.nodes old.cells old.priors
  are_kept = record {
    numbers = stands.cells ∙ ap (map (λ c. cell_number plain_start c history)) (sym over.cells);
    priors_too = stands.priors ∙ ap (map (λ m. tracked_number plain_start m history)) (sym over.tracked);
  }

  has_values : HasValues new plain_start (image ∷ history)
  has_values =
      samples.values plain_start history are_kept ∙ ap
      (λ ns. map (spelled_value plain_start (image ∷ history)) (spelled_by ns)) (sym samples.pool.0)

  -- where each cell lies after the frame
  pub frame_places : new.places ≡ map (λ c. cell_place plain_start c (image ∷ history)) (trigger_cells t)
  frame_places = samples.places plain_start history are_kept
      ∙ ap (map (λ c. cell_place plain_start c (image ∷ history))) over.cells

  stepped : after.trigger ≡ kept_after t (image ∷ history)
  stepped =
      steps.kept plain_start (image ∷ history) has_values
      ∙ ap (achievement_next plain_start t (image ∷ history)) stands.trigger

  -- the row that is read is that of the frame
  row_read : truths_laid new.values after.laid ≡ row_of t (image ∷ history)
  row_read = laid_truths new.nodes new.values plain_start (image ∷ history) has_values (groups_of t) after.laid run.laid

  -- what is kept after the frame stands for the history with its image
  pub frame_stands : StandsFor t
      (kept_by new after.trigger (truths_laid new.values after.laid ∷ rows)) (image ∷ history)
  frame_stands =
      let kept : AreKept plain_start (image ∷ history) old.nodes new.cells new.priors =
      samples.kept plain_start history are_kept in
      record {
        trigger = stepped;
        cells = kept.numbers ∙ ap (map (λ c. cell_number plain_start c (image ∷ history))) over.cells;
        priors = kept.priors_too ∙ ap (map (λ m. tracked_number plain_start m (image ∷ history))) over.tracked;
        rows = ap₂ (λ r rs. r ∷ rs) row_read stands.rows;
      }

  -- the change tells whether the achievement unlocks
  pub frame_answers : (not (is_triggered change.before) && is_triggered change.after) ≡ unlocks_at t image history
  frame_answers =
      ap (λ (c : Change). not (is_triggered c.before) && is_triggered c.after) steps.told
      ∙ ap₂ (λ (k l : TriggerKept). not (is_triggered k.state) && is_triggered l.state) stands.trigger stepped

-- the table is over the trigger after a frame
pub over_after : (t : TriggerContents) (old new : TableSeen) (image : List ℕ) → IsOver t old
    → Samples old new image → IsOver t new
over_after t old new image over samples = record {
  cells = ap cells_of samples.pool.0 ∙ over.cells;
  tracked = ap tracked_of samples.pool.0 ∙ over.tracked;
}

-- what stands for a history has the counts of the trigger
pub counts_kept : (t : TriggerContents) (table : TableSeen) (trigger : TriggerKept)
    (rows : List (List Bool)) → length trigger.hits ≡ trigger_hits t
    → StandsSomewhere t (kept_by table trigger rows) → HaveCounts (counts_of t) table trigger
counts_kept t table trigger rows hits somewhere = record {
  cells = ap length somewhere.stands.cells
      ∙ length-map (trigger_cells t) (λ c. cell_number plain_start c somewhere.history);
  priors = ap length somewhere.stands.priors
      ∙ length-map (trigger_tracked t) (λ m. tracked_number plain_start m somewhere.history);
  hits = hits;
}
