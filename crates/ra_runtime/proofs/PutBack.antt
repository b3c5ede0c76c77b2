-- A course that takes numbers and blocks, and of which nothing rests any longer, is a course.
use Rattle.std.proofs.Common.{◌≡◌, ℕ, ◌≤◌, false, true, None, Option, IsSome, List, length, map, sym, ◌∙◌, ap}
use Rattle.std.proofs.Common.{subst, arith}
use Rattle.std.specs.Vec.{with_items}
use Rattle.std.proofs.lemmas.List.{with_items_is}
use Rattle.ra_indirect.specs.declared.node.Node.{Node}
use Rattle.ra_memref.specs.Table.{TableSeen}
use Rattle.ra_memref.proofs.AgreeLemmas.{Agrees-marked}
use Rattle.ra_set.specs.Contents.{ItemContents, set_contents}
use Rattle.ra_progress.specs.declared.said.Said.{Said}
use Rattle.ra_progress.specs.Room.{IsRoom}
use Rattle.ra_items.specs.declared.item_run.ItemRun.{ItemRun}
use Rattle.ra_items.specs.declared.rests.Rests.{Rests}
use Rattle.ra_items.specs.AllRuns.{AreItemRuns}
use Rattle.ra_items.specs.ItemRuns.{kept_run}
use Rattle.ra_items.specs.Rests.{AreRests, seen_by}
use Rattle.ra_items.specs.Restoring.{restored_items}
use Rattle.ra_items.proofs.RunsLemmas.{length_runs}
use Rattle.ra_items.proofs.SeenItems.{rests_earned}
use Rattle.ra_display.specs.declared.line_rests.LineRests.{LineRests}
use Rattle.ra_display.specs.declared.presence_run.PresenceRun.{PresenceRun}
use Rattle.ra_display.specs.LineRests.{AreOptionalRests, optional_presence_seen}
use Rattle.ra_display.specs.PresenceBack.{PutsBackPresence}
use Rattle.ra_display.specs.PresenceRuns.{IsOptionalPresence, optional_presence_kept}
use Rattle.ra_display.proofs.SeenLines.{IsForgotten, rests_forgotten}
use Rattle.ra_meaning.specs.Earned.{is_earned}
use Rattle.ra_meaning.specs.Order.{shape_of}
use Rattle.ra_runtime.specs.declared.course.Course.TheInside.{Inside}
use Rattle.ra_runtime.specs.declared.lazy_shape.LazyShape.{LazyShape}
use Rattle.ra_runtime.specs.Laid.{IsOver}
use Rattle.ra_runtime.specs.Lazy.{IsLazy}
use Rattle.ra_runtime.specs.Numbers.{TakesNumbers}
use Rattle.ra_runtime.specs.Seen.{IsCourse}
use Rattle.ra_runtime.proofs.CurrentLemmas.{HasNumbers, current_agrees}

-- the table takes the numbers, the items and the display take their blocks, and all rests are forgotten
pub record IsPutBack (t : Inside) (table : TableSeen) (cells priors bytes : List ℕ) (places : List (Option ℕ))
    (place : Option ℕ) (news : List ItemRun) (rests : Rests) (run : Option PresenceRun) (lines : LineRests)
    : Type 0 where
  pub takes : TakesNumbers t.table table cells priors
  pub kept : map kept_run news ≡ restored_items bytes t.runs.items places
  pub runs : (nodes : List Node) (items : List ItemContents) → AreItemRuns nodes items t.runs.items
      → AreItemRuns nodes items news
  pub many : length news ≡ t.runs.len
  pub each : (nodes : List Node) (values : List ℕ) (items : List ItemContents) (before runs : List ItemRun)
      → AreRests nodes values items before t.rests → AreRests nodes values items runs rests
  pub seen : (runs : List ItemRun) → length runs ≡ length t.rests.each.items → seen_by runs rests ≡ map kept_run runs
  pub presence : PutsBackPresence bytes place t.presence run
  pub lines_too : IsForgotten t.line_rests lines

module _ {t : Inside} (is : IsCourse t) {table : TableSeen} {cells priors bytes : List ℕ} {places : List (Option ℕ)}
    {place : Option ℕ} {news : List ItemRun} {rests : Rests} {run : Option PresenceRun} {lines : LineRests}
    (back : IsPutBack t table cells priors bytes places place news rests run lines) where
  same : (with_items t.runs news).items ≡ news
  same = with_items_is t.runs news back.many

  run_now : IsOptionalPresence t.table.nodes (set_contents t.set).script run
  run_now = back.presence.run t.table.nodes (set_contents t.set).script is.presence

  lines_now : AreOptionalRests t.table.nodes t.table.values (set_contents t.set).script run lines
      × (optional_presence_seen run lines ≡ optional_presence_kept run)
  lines_now = rests_forgotten t.table.nodes t.table.values (set_contents t.set).script t.presence run
      t.line_rests lines is.presence run_now is.lines back.lines_too

  pub back_shown : optional_presence_seen run lines ≡ optional_presence_kept run
  back_shown = lines_now.1

  pub back_seen : seen_by (with_items t.runs news).items rests ≡ restored_items bytes t.runs.items places
  back_seen =
      let long : length (with_items t.runs news).items ≡ length t.rests.each.items = omega (
        arith,
        ap length same,
        back.many,
        t.runs.ok.0,
        length_runs t.table.nodes (set_contents t.set).items t.runs.items is.runs,
        is.rests.many,
      ) in
      back.seen (with_items t.runs news).items long ∙ ap (map kept_run) same ∙ back.kept

  pub back_earned : map is_earned (seen_by t.runs.items t.rests) ≡ map is_earned (map kept_run t.runs.items)
  back_earned = rests_earned t.table.nodes t.table.values (set_contents t.set).items t.runs.items t.rests is.runs
      is.rests

  pub current_back : (over : IsOver (set_contents t.set) table) (image : List ℕ)
      → HasNumbers (set_contents t.set) table image over
  current_back over image = current_agrees (set_contents t.set) table image over
      (Agrees-marked table image _ back.takes.marked)

  -- so it is a course with any shape that stands for the set, and any count of frames
  pub course_back : (shape : LazyShape) → IsLazy (shape_of (set_contents t.set)) shape
      → length t.table.nodes ≤ shape.room → (said : Said) → IsRoom (shape_of (set_contents t.set)) said
      → IsOver (set_contents t.set) table → (count : ℕ) (last : Option ℕ) → last ≡ None
      → IsCourse (record {
        set = t.set;
        shape = shape;
        said = said;
        table = table;
        runs = with_items t.runs news;
        rests = rests;
        presence = run;
        line_rests = lines;
        size = t.size;
        count = count;
        last = last;
      })
  course_back shape lazy names said room over count last none = record {
    script = is.script;
    limits = is.limits;
    lazy = lazy;
    names = subst (λ (ns : List Node). length ns ≤ shape.room) (sym back.takes.pool.0) names;
    room = room;
    over = over;
    runs = subst (λ (rs : List ItemRun). AreItemRuns table.nodes (set_contents t.set).items rs) (sym same)
        (subst (λ (ns : List Node). AreItemRuns ns (set_contents t.set).items news) (sym back.takes.pool.0)
        (back.runs t.table.nodes (set_contents t.set).items is.runs));
    rests = rw (back.takes.pool.0, back.takes.values)
        (back.each t.table.nodes t.table.values (set_contents t.set).items t.runs.items
        (with_items t.runs news).items is.rests);
    told = λ came. absurd (none_came (subst (λ (o : Option ℕ). IsSome o) none came));
    presence = subst (λ (ns : List Node). IsOptionalPresence ns (set_contents t.set).script run)
        (sym back.takes.pool.0) run_now;
    lines = rw (back.takes.pool.0, back.takes.values) lines_now.0;
    digits = is.digits;
    size = back.takes.pool.1 ∙ is.size;
    small = is.small;
  }
    where
      none_came : false ≡ true → ⊥
      none_came same = cc
