-- What a runtime keeps is an opening of its set.
use Rattle.std.proofs.Common.{◌≡◌, ℕ, ◌<◌, ◌≤◌, ◌^◌, Option, None, Some, List, length, map, sum_by, option_map, subst}
use Rattle.std.proofs.Common.{arith, ap, sym, ◌∙◌}
use Rattle.std.proofs.lemmas.List.{length-map}
use Rattle.ra_memref.specs.Names.{cell_name, tracked_name}
use Rattle.ra_runtime.specs.declared.course.Course.TheInside.{Inside}
use Rattle.ra_runtime.specs.Courses.{CourseSeen}
use Rattle.ra_runtime.specs.Seen.{IsCourse, course_seen}
use Rattle.ra_indirect.specs.declared.node.Node.{Node}
use Rattle.ra_richpresence.specs.Contents.{ScriptContents}
use Rattle.ra_memref.specs.Table.{TableSeen}
use Rattle.ra_set.specs.Contents.{SetContents, set_contents}
use Rattle.ra_progress.specs.declared.shape.ItemShape.{ItemShape}
use Rattle.ra_text.specs.Words.{AreWords}
use Rattle.ra_progress.specs.Contents.{KeptItem, ItemsFit, PresenceFits, ShapeContents, IsOpening}
use Rattle.ra_progress.specs.Layout.{item_length, script_length, length_of}
use Rattle.ra_progress.specs.Names.{IsPaired}
use Rattle.ra_progress.proofs.Owns.{own_total}
use Rattle.ra_items.specs.declared.item_run.ItemRun.{ItemRun}
use Rattle.ra_display.specs.declared.presence_run.PresenceRun.{PresenceRun}
use Rattle.ra_meaning.specs.Order.{script_members, presence_shape, set_cells, set_tracked, shape_of}
use Rattle.ra_items.specs.AllRuns.{AreItemRuns}
use Rattle.ra_runtime.specs.Laid.{opening_by}
use Rattle.ra_items.specs.Shapes.{run_shape}
use Rattle.ra_display.specs.declared.line_rests.LineRests.{LineRests}
use Rattle.ra_display.specs.LineRests.{AreOptionalRests, optional_presence_seen, seen_lines}
use Rattle.ra_display.specs.PresenceRuns.{IsOptionalPresence}
use Rattle.ra_display.specs.SavedPresence.{FitOptional}
use Rattle.ra_member.proofs.Opened.{members_long}
use Rattle.ra_items.proofs.ShapeLemmas.{runs_shaped}
use Rattle.ra_display.proofs.SeenLines.{lines_shaped}

-- what is kept of a display is of its script's shape
pub presence_kept_fits : (nodes : List Node) (values : List ℕ) (script : Option ScriptContents)
    (run : Option PresenceRun) (rests : LineRests) → IsOptionalPresence nodes script run
    → AreOptionalRests nodes values script run rests
    → FitOptional (optional_presence_seen run rests)
    → PresenceFits (option_map presence_shape script) (optional_presence_seen run rests)
presence_kept_fits nodes values None None rests is are fit = tt
presence_kept_fits nodes values None (Some run) rests is are fit = absurd is
presence_kept_fits nodes values (Some script) None rests is are fit = absurd is
presence_kept_fits nodes values (Some script) (Some run) rests is are fit =
    let longs = members_long (script_members script) (seen_lines run.lines.items rests)
    (lines_shaped nodes values script.lines run.lines.items rests is.lines are) in
    (is.shown, record { as_many = longs.0; fit = fit.hits }, record { as_many = longs.1; fit = fit.numbers })

-- what is taken from a table over a set, from its runs and from its display
module _ (set : SetContents) (table : TableSeen) (runs : List ItemRun) (kept : List KeptItem)
    (display : Option PresenceRun) (rests : LineRests)
    (are : AreItemRuns table.nodes set.items runs)
    (is : IsOptionalPresence table.nodes set.script display)
    (lines : AreOptionalRests table.nodes table.values set.script display rests) where
  pub opening_taken : (count : ℕ) → count < 2 ^ 64
      → AreWords (length (shape_of set).cells) table.cells
      → AreWords (length (shape_of set).priors) table.priors → ItemsFit (map run_shape runs) kept
      → FitOptional (optional_presence_seen display rests)
      → IsOpening (shape_of set) (opening_by count table kept (optional_presence_seen display rests))
  opening_taken count small cells priors fit fits = record {
    frames = small;
    cells = cells;
    priors = priors;
    items = subst (λ (ss : List ItemShape). ItemsFit ss kept) (runs_shaped table.nodes set.items runs are) fit;
    presence = presence_kept_fits table.nodes table.values set.script display rests is lines fits;
  }

-- the blocks of a shape are short, each kind of them together
pub short_parts : (shape : ShapeContents) → IsPaired shape → length_of shape ≤ 8388608
    → (sum_by item_length shape.items ≤ 8388608) × (script_length shape.presence ≤ 8388608)
short_parts shape paired short =
    let total = own_total shape paired in (omega (arith, total, short), omega (arith, total, short))

-- a shape that is that of the set of a course
module _ {t : Inside} (is : IsCourse t) {seen : CourseSeen} (view : course_seen t ≡ seen) {whole : ShapeContents}
    (same : whole ≡ shape_of seen.set) where
  pub whole_shape : whole ≡ shape_of (set_contents t.set)
  whole_shape = same ∙ sym (ap (λ (r : CourseSeen). shape_of r.set) view)

  -- has the runs of the course, and as many names as its table has numbers
  pub runs_whole : map run_shape t.runs.items ≡ whole.items
  runs_whole = runs_shaped t.table.nodes (set_contents t.set).items t.runs.items is.runs
      ∙ sym (ap (λ (s : ShapeContents). s.items) whole_shape)

  pub names_whole : (length t.table.cells ≡ length whole.cells) × (length t.table.priors ≡ length whole.priors)
  names_whole = (
    is.over.cells_many ∙ sym (length-map (set_cells (set_contents t.set)) cell_name)
        ∙ sym (ap (λ (s : ShapeContents). length s.cells) whole_shape),
    is.over.priors_many ∙ sym (length-map (set_tracked (set_contents t.set)) tracked_name)
        ∙ sym (ap (λ (s : ShapeContents). length s.priors) whole_shape),
  )
