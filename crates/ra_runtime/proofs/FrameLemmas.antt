-- One frame of all items, from what is kept, is one frame of the set by the definitions.
use Rattle.std.proofs.Common.{◌≡◌, ◌≢◌, ℕ, ◌<◌, ◌^◌, Option, None, Some, false, List, [], ◌∷◌, ◌++◌, length, map}
use Rattle.std.proofs.Common.{replicate, zip, refl, sym, ◌∙◌, ap, ap₂, subst, arith}
use Rattle.std.specs.List.{flat_map}
use Rattle.ra_memory.specs.Image.{History}
use Rattle.ra_indirect.specs.Trees.{cells_in, tracked_in, same_cell, same_tracked}
use Rattle.ra_indirect.specs.Pools.{cells_of, tracked_of, spelled_by}
use Rattle.ra_memref.specs.Marks.{reads_of}
use Rattle.ra_memref.specs.Values.{Start, cell_number, cell_place, tracked_number}
use Rattle.ra_memref.specs.Table.{TableSeen, AreKept, Samples, ReadsWanted, spelled_value}
use Rattle.ra_richpresence.specs.Contents.{ScriptContents}
use Rattle.ra_set.specs.Contents.{ItemContents, SetContents}
use Rattle.ra_progress.specs.Contents.{KeptItem, KeptPresence, Opening}
use Rattle.ra_items.specs.declared.item_run.ItemRun.{ItemRun}
use Rattle.ra_meaning.specs.Order.{trees_in_set, set_cells, set_tracked}
use Rattle.ra_meaning.specs.Earned.{Earned, is_earned, earned_in, with_earned}
use Rattle.ra_meaning.specs.Openings.{start_of, snapshot, item_after, number_beside, prior_beside, frames_after}
use Rattle.ra_meaning.specs.Openings.{optional_presence}
use Rattle.ra_meaning.specs.Lines.{event_lines}
use Rattle.ra_meaning.specs.Play.{item_events, events, lines, earns, unless_earned}
use Rattle.ra_member.specs.Runs.{HasValues}
use Rattle.ra_items.specs.Rests.{AreSteppedSeen, IsSomeFrame}
use Rattle.ra_items.specs.AllRuns.{all_events}
use Rattle.ra_runtime.specs.Laid.{opening_by, IsOver}
use Rattle.ra_display.specs.PresenceRuns.{StepsOptional}
use Rattle.std.proofs.lemmas.List.{length-map}
use Rattle.ra_meaning.specs.Runtime.{RuntimeSeen, TakesFrame, ReadsFew}
use Rattle.ra_meaning.proofs.Cuts.Law.{cuts_anywhere}
use Rattle.ra_meaning.proofs.Earned.Frames.{AreSeen, snapshot_with, events_with, earns_with, runs_earn}
use Rattle.ra_meaning.proofs.Openings.Beside.{apart_firsts, numbers_beside, priors_beside}

module _ (table : TableSeen) (start : Start) (image : List ℕ) (has : HasValues table start (image ∷ [])) where
  stepped_kept : (items : List ItemContents) (olds news : List KeptItem) (runs : List ItemRun)
      → AreSteppedSeen table items olds news runs
      → news ≡ map (item_after start (image ∷ [])) (zip items olds)
  stepped_kept [] [] [] [] are = refl
  stepped_kept [] [] [] (run ∷ runs) are = absurd are
  stepped_kept [] [] (new ∷ news) runs are = absurd are
  stepped_kept [] (old ∷ olds) news runs are = absurd are
  stepped_kept (item ∷ items) [] news runs are = absurd are
  stepped_kept (item ∷ items) (old ∷ olds) [] runs are = absurd are
  stepped_kept (item ∷ items) (old ∷ olds) (new ∷ news) [] are = absurd are
  stepped_kept (item ∷ items) (old ∷ olds) (new ∷ news) (run ∷ runs) are =
      ap₂ (λ x xs. x ∷ xs) (are.0.kept start image has) (stepped_kept items olds news runs are.1)

  stepped_events : (items : List ItemContents) (olds news : List KeptItem) (runs : List ItemRun)
      → AreSteppedSeen table items olds news runs
      → all_events items runs ≡ flat_map (unless_earned (item_events start image []))
      (zip (map is_earned olds) (zip items olds))
  stepped_events [] [] [] [] are = refl
  stepped_events [] [] [] (run ∷ runs) are = absurd are
  stepped_events [] [] (new ∷ news) runs are = absurd are
  stepped_events [] (old ∷ olds) news runs are = absurd are
  stepped_events (item ∷ items) [] news runs are = absurd are
  stepped_events (item ∷ items) (old ∷ olds) [] runs are = absurd are
  stepped_events (item ∷ items) (old ∷ olds) (new ∷ news) [] are = absurd are
  stepped_events (item ∷ items) (old ∷ olds) (new ∷ news) (run ∷ runs) are =
      ap₂ (λ x xs. x ++ xs) (are.0.events start image has) (stepped_events items olds news runs are.1)

-- one frame of a display that may be missing
presence_kept_on : (table : TableSeen) (start : Start) (image : List ℕ) → HasValues table start
    (image ∷ []) → (script : Option ScriptContents) (old new : Option KeptPresence) → StepsOptional
    table script old new → new ≡ optional_presence start (image ∷ []) script old
presence_kept_on table start image has None None None steps = refl
presence_kept_on table start image has None None (Some new) steps = absurd steps
presence_kept_on table start image has None (Some old) new steps = absurd steps
presence_kept_on table start image has (Some script) None new steps = absurd steps
presence_kept_on table start image has (Some script) (Some old) None steps = absurd steps
presence_kept_on table start image has (Some script) (Some old) (Some new) steps = ap Some (steps start image has)

module _ (set : SetContents) (count : ℕ) (old new : TableSeen) (image : List ℕ) (olds : List
    KeptItem) (shown : Option KeptPresence) (over : IsOver set old)
    (samples : Samples old new image) where
  abbrev kept : Opening
  kept = opening_by count old olds shown

  abbrev start : Start
  start = start_of set kept

  are_kept : AreKept start [] old.nodes old.cells old.priors
  are_kept = record {
    numbers = subst (λ cs. old.cells ≡ map (number_beside (set_cells set) old.cells) cs)
        (sym over.cells) (sym (numbers_beside (set_cells set) old.cells
        (apart_firsts same_cell (flat_map cells_in (trees_in_set set))) over.cells_many));
    priors_too = subst (λ ts. old.priors ≡ map (prior_beside (set_tracked set) old.priors) ts)
        (sym over.tracked) (sym (priors_beside (set_tracked set) old.priors
        (apart_firsts same_tracked (flat_map tracked_in (trees_in_set set))) over.priors_many));
  }

  has_values : HasValues new start (image ∷ [])
  has_values =
      samples.values start [] are_kept
      ∙ ap (λ ns. map (spelled_value start (image ∷ [])) (spelled_by ns)) (sym samples.pool.0)

  -- the values of the table are those of a frame
  pub some_frame : IsSomeFrame new
  some_frame = record { start = start; image = image; has = has_values }

  pub over_after : IsOver set new
  over_after =
      let after : AreKept start (image ∷ []) old.nodes new.cells new.priors = samples.kept start [] are_kept in
      record {
        cells = ap cells_of samples.pool.0 ∙ over.cells;
        tracked = ap tracked_of samples.pool.0 ∙ over.tracked;
        cells_many = ap length after.numbers ∙ length-map (cells_of old.nodes)
            (λ c. cell_number start c (image ∷ [])) ∙ ap length over.cells;
        priors_many = ap length after.priors_too ∙ length-map (tracked_of old.nodes)
            (λ t. tracked_number start t (image ∷ [])) ∙ ap length over.tracked;
      }

  module _ (news : List KeptItem) (runs : List ItemRun) (shown' : Option KeptPresence)
      (stepped : AreSteppedSeen new set.items olds news runs)
      (steps : StepsOptional new set.script shown shown') where
    pub frame_kept : opening_by (frames_after count 1) new news shown' ≡ snapshot set kept (image ∷ [])
    frame_kept =
        let after : AreKept start (image ∷ []) old.nodes new.cells new.priors = samples.kept start [] are_kept in
        let cells : new.cells ≡ map (λ c. cell_number start c (image ∷ [])) (set_cells set) =
        after.numbers ∙ ap (map (λ c. cell_number start c (image ∷ []))) over.cells in
        let priors : new.priors ≡ map (λ t. tracked_number start t (image ∷ [])) (set_tracked set) =
        after.priors_too ∙ ap (map (λ t. tracked_number start t (image ∷ []))) over.tracked in
        let items = stepped_kept new start image has_values set.items olds news runs stepped in
        let presence = presence_kept_on new start image has_values set.script shown shown' steps in
        (λ i. record
        { frames = frames_after count 1; cells = cells i; priors = priors i; items = items i; presence = presence i })

    pub frame_earned : AreSeen set.items olds → earned_in (snapshot set kept (image ∷ []))
        ≡ earns set kept (image ∷ []) (earned_in kept)
    frame_earned are = runs_earn start image set.items olds are

    pub frame_events : all_events set.items runs ≡ events set kept (image ∷ []) (earned_in kept)
    frame_events = stepped_events new start image has_values set.items olds news runs stepped

    pub frame_lines : count < 2 ^ 64 → event_lines count (all_events set.items runs)
        ≡ lines set kept (image ∷ []) (earned_in kept)
    frame_lines small =
        let same : frames_after count 0 ≡ count = omega arith in
        ap (event_lines count) frame_events
        ∙ ap (λ n. event_lines n (events set kept (image ∷ []) (earned_in kept))) (sym same)

-- what holds of one frame from the kept opening holds of every opening and history that it stands for
pub takes_frame : (old new : RuntimeSeen) → new.set ≡ old.set → new.image ≡ old.image → new.kept
    ≡ snapshot old.set old.kept (old.image ∷ [])
    → earned_in (snapshot old.set old.kept (old.image ∷ []))
    ≡ earns old.set old.kept (old.image ∷ []) (earned_in old.kept)
    → new.events ≡ events old.set old.kept (old.image ∷ []) (earned_in old.kept) → new.lines
    ≡ lines old.set old.kept (old.image ∷ []) (earned_in old.kept) → TakesFrame old new
takes_frame old new set image kept more told printed = record {
  set = set;
  image = image;
  kept = λ o history opening images is.
      let whole : new.kept ≡ snapshot old.set (with_earned (snapshot old.set o history) earned)
      last = kept ∙ ap (λ k. snapshot old.set k last) is in
      let behind : snapshot old.set (snapshot old.set o history) last
      ≡ snapshot new.set o (old.image ∷ history) = sym ((cuts_anywhere old.set).kept o history last
      opening) ∙ ap (λ s. snapshot s o (old.image ∷ history)) (sym set) in
      whole ∙ snapshot_with old.set (snapshot old.set o history) earned last
      ∙ (λ i. with_earned (behind i) (earned_in (sym whole i)));
  earned = λ o history opening images is.
      ap earned_in kept ∙ more ∙ ap (λ k. earns old.set k last earned) is
      ∙ earns_with old.set (snapshot old.set o history) earned old.image
      ∙ sym ((cuts_anywhere old.set).earned_too o history last earned opening some);
  events = λ o history opening images is.
      told ∙ ap (λ k. events old.set k last earned) is
      ∙ events_with old.set (snapshot old.set o history) earned old.image
      ∙ sym ((cuts_anywhere old.set).tells o history last earned opening some);
  lines = λ o history opening images is.
      let count = frames_after (snapshot old.set o history).frames 0 in
      printed ∙ ap (λ k. lines old.set k last earned) is
      ∙ ap (event_lines count) (events_with old.set (snapshot old.set o history) earned old.image)
      ∙ sym ((cuts_anywhere old.set).prints o history last earned opening some);
}
  where
    last : History
    last = old.image ∷ []

    earned : Earned
    earned = earned_in old.kept

    some : last ≢ []
    some e = let bad : old.image ∷ [] ≡ [] = e in cc

-- a sample of a table over a set reads the cells that were marked or moved
pub reads_few : (old new : RuntimeSeen) (table after : TableSeen) (reads : ℕ) → IsOver old.set table
    → Samples table after old.image → ReadsWanted table after reads → old.kept.cells ≡ table.cells
    → old.kept.priors ≡ table.priors → old.marked ≡ table.marked → old.places ≡ table.places
    → new.marked ≡ after.marked → new.places ≡ after.places → ReadsFew old new reads
reads_few old new table after reads over samples wanted cells priors marked places new_marked new_places = record {
  unmarked = new_marked ∙ wanted.unmarked ∙ ap (λ cs. replicate (length cs) false) over.cells;
  places = λ o history opening is.
      let start = start_of old.set o in
      let are : AreKept start history table.nodes table.cells table.priors = record {
        numbers = sym cells ∙ ap (λ (k : Opening). k.cells) is
            ∙ ap (map (λ c. cell_number start c history)) (sym over.cells);
        priors_too = sym priors ∙ ap (λ (k : Opening). k.priors) is
            ∙ ap (map (λ t. tracked_number start t history)) (sym over.tracked);
      } in
      new_places ∙ samples.places start history are
      ∙ ap (map (λ c. cell_place start c (old.image ∷ history))) over.cells;
  counted = wanted.counted ∙ sym (λ i. reads_of (marked i) (places i) (new_places i));
}
