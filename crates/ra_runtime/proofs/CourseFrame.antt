-- A course whose table samples an image, and whose items and display step, takes a frame.
use Rattle.std.proofs.Common.{◌≡◌, ◌≢◌, ℕ, slice_index, sym, ◌<◌, ◌^◌, Some, Option, List, length, refl, subst, ap, ◌∙◌}
use Rattle.std.specs.Vec.{with_items}
use Rattle.std.proofs.lemmas.List.{with_items_is}
use Rattle.ra_indirect.specs.declared.node.Node.{Node}
use Rattle.ra_memref.specs.Table.{TableSeen, IsListed, ListsChanged, Samples}
use Rattle.ra_set.specs.Contents.{set_contents}
use Rattle.ra_items.specs.declared.item_run.ItemRun.{ItemRun}
use Rattle.ra_items.specs.declared.rests.Rests.{Rests}
use Rattle.ra_items.specs.AllRuns.{all_events}
use Rattle.ra_items.specs.Rests.{AreRests, AreSteppedSeen, IsSomeFrame, WereRests, seen_by}
use Rattle.ra_items.proofs.SeenItems.{rests_seen}
use Rattle.ra_display.specs.declared.line_rests.LineRests.{LineRests}
use Rattle.ra_display.specs.declared.presence_run.PresenceRun.{PresenceRun}
use Rattle.ra_display.specs.LineRests.{AreOptionalRests, WereOptionalRests, optional_presence_seen}
use Rattle.ra_display.proofs.SeenLines.{were_rests}
use Rattle.ra_display.specs.PresenceRuns.{StepsOptional}
use Rattle.ra_meaning.specs.Lines.{event_lines}
use Rattle.ra_meaning.specs.Openings.{frames_after}
use Rattle.ra_meaning.specs.Runtime.{TakesFrame}
use Rattle.ra_runtime.specs.declared.course.Course.TheInside.{Inside}
use Rattle.ra_runtime.specs.Courses.{over}
use Rattle.ra_runtime.specs.Laid.{IsOver, opening_by}
use Rattle.ra_runtime.specs.Seen.{IsCourse, course_seen}
use Rattle.ra_runtime.proofs.FrameLemmas.{frame_kept, frame_earned, frame_events, frame_lines, over_after, some_frame}
use Rattle.ra_runtime.proofs.FrameLemmas.{takes_frame}

module _ {t : Inside} (is : IsCourse t) {now : TableSeen} {image : List ℕ} (samples : Samples t.table now image) where
  -- what rested goes by the nodes as they are now, and each that has another number is listed
  module _ (lists : ListsChanged t.table now) where
    within_now : (k : ℕ) → k < length now.changed → slice_index now.changed k < length now.nodes
    within_now k within = rw samples.pool.0 (lists.nodes k within)

    each_now : (n : ℕ) → n < length now.nodes → slice_index t.table.values n ≢ slice_index now.values n
        → IsListed n now.changed
    each_now n within differ = lists.each n (subst (λ (ns : List Node). n < length ns) samples.pool.0 within) differ

    pub items_rested : WereRests now (set_contents t.set).items t.runs.items t.rests
    items_rested = record {
      values = t.table.values;
      are = subst (λ (ns : List Node). AreRests ns t.table.values (set_contents t.set).items t.runs.items t.rests)
          (sym samples.pool.0) is.rests;
      changed = record { each = each_now; nodes = within_now };
    }

    pub lines_rested : WereOptionalRests now (set_contents t.set).script t.presence t.line_rests
    lines_rested = were_rests now t.table.values (set_contents t.set).script t.presence t.line_rests
        (record { each = each_now; nodes = within_now }) (subst (λ (ns : List Node). AreOptionalRests ns
        t.table.values (set_contents t.set).script t.presence t.line_rests) (sym samples.pool.0) is.lines)

  pub frame_some : IsSomeFrame now
  frame_some = some_frame (set_contents t.set) t.count t.table now image (seen_by t.runs.items t.rests)
      (optional_presence_seen t.presence t.line_rests) is.over samples

  pub frame_over : IsOver (set_contents t.set) now
  frame_over = over_after (set_contents t.set) t.count t.table now image (seen_by t.runs.items t.rests)
      (optional_presence_seen t.presence t.line_rests) is.over samples

  pub course_frame : (news : List ItemRun) (rests : Rests) (shown : Option PresenceRun) (lines : LineRests)
      → AreSteppedSeen now (set_contents t.set).items (seen_by t.runs.items t.rests) (seen_by news rests) news
      → StepsOptional now (set_contents t.set).script (optional_presence_seen t.presence t.line_rests)
      (optional_presence_seen shown lines) → t.count < 2 ^ 64 → length news ≡ t.runs.len
      → (count : ℕ) → count ≡ frames_after t.count 1
      → TakesFrame (over (course_seen t) image) (over (course_seen (record {
        set = t.set;
        shape = t.shape;
        said = t.said;
        table = now;
        runs = with_items t.runs news;
        rests = rests;
        presence = shown;
        line_rests = lines;
        size = t.size;
        count = count;
        last = Some t.count;
      })) image)
  course_frame news rests shown lines stepped steps small many count counts =
      let set = set_contents t.set in
      let olds = seen_by t.runs.items t.rests in
      let was = optional_presence_seen t.presence t.line_rests in
      let shows = optional_presence_seen shown lines in
      let same : (with_items t.runs news).items ≡ news = with_items_is t.runs news many in
      takes_frame _ _ refl refl
      ((λ i. opening_by (counts i) now (seen_by (same i) rests) shows) ∙ frame_kept set t.count t.table now image
      olds was is.over samples (seen_by news rests) news shows stepped steps)
      (frame_earned set t.count t.table now image olds was is.over samples (seen_by news rests) news shows stepped
      steps (rests_seen t.table.nodes t.table.values set.items t.runs.items t.rests is.runs is.rests))
      (ap (all_events set.items) same ∙ frame_events set t.count t.table now image olds was is.over samples
      (seen_by news rests) news shows stepped steps)
      (ap (λ rs. event_lines t.count (all_events set.items rs)) same ∙ frame_lines set t.count t.table now image
      olds was is.over samples (seen_by news rests) news shows stepped steps small)
