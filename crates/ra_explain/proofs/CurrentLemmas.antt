-- A recording is current where its table agrees with the image, and a table with other marks makes another recording.
use Rattle.std.proofs.Common.{◌≡◌, ℕ, ◌<◌, true, false, List, length, get_or, ap, sym, subst}
use Rattle.ra_condition.specs.Contents.{TriggerContents}
use Rattle.ra_memory.specs.Image.{raw}
use Rattle.ra_indirect.specs.Trees.{Cell}
use Rattle.ra_memref.specs.Table.{TableSeen, Agrees, no_cell}
use Rattle.ra_explain.specs.declared.recording.Recording.TheInside.{Inside}
use Rattle.ra_explain.specs.Making.{IsOver}
use Rattle.ra_explain.specs.Recorders.{trigger_cells}
use Rattle.ra_explain.specs.Seen.{recording_seen, IsRecording}

-- each of these cells that is not marked has the image's number at its place
abbrev pub HasNumbers : TableSeen → List ℕ → List Cell → Type 0
HasNumbers table image cells =
    (k : ℕ) → k < length table.cells → get_or table.marked k true ≡ false
    → get_or table.cells k 0 ≡ raw (get_or cells k no_cell).width image (get_or table.places k 0)

module _ (t : TriggerContents) (table : TableSeen) (image : List ℕ) (over : IsOver t table) where
  pub agrees_current : HasNumbers table image (trigger_cells t) → Agrees table image
  agrees_current has = subst (HasNumbers table image) (sym over.cells) has

  pub current_agrees : Agrees table image → HasNumbers table image (trigger_cells t)
  current_agrees agrees = subst (HasNumbers table image) over.cells agrees

-- the recording with another table
abbrev pub with_table : Inside → TableSeen → Inside
with_table t table = record t { table = table }

module _ (t : Inside) (is : IsRecording t) (table : TableSeen) (rest : table
    ≡ record t.table { marked = table.marked }) where
  pub marked_recording : IsRecording (with_table t table)
  marked_recording = subst (λ (x : TableSeen). IsRecording (with_table t x)) (sym rest) (record {
    few = is.few;
    over = record { cells = is.over.cells; tracked = is.over.tracked };
    run_too = is.run_too;
    width = is.width;
    rows_few = is.rows_few;
    latest = is.latest;
    somewhere = is.somewhere;
    sixteen = is.sixteen;
    slots_fit = is.slots_fit;
    unlock = is.unlock;
  })

  pub marked_rest : recording_seen (with_table t table) ≡ record (recording_seen t) { marked = table.marked }
  marked_rest = ap (λ (x : TableSeen). recording_seen (with_table t x)) rest
