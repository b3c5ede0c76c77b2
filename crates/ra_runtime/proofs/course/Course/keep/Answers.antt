use Rattle.std.proofs.Common.{◌≡◌, ◌<◌, ◌^◌, true, List, Option, length, map, sym, ◌∙◌, ap, subst, arith}
use Rattle.ra_set.specs.Contents.{set_contents}
use Rattle.ra_text.specs.Words.{AreWords}
use Rattle.ra_progress.specs.declared.shape.ItemShape.{ItemShape}
use Rattle.ra_progress.specs.declared.shape.PresenceShape.{PresenceShape}
use Rattle.ra_progress.specs.Contents.{IsOpening, ItemsFit, PresenceFits, ShapeContents, shape_contents}
use Rattle.ra_display.specs.LineRests.{optional_presence_seen}
use Rattle.ra_display.proofs.SeenLines.{optional_fitting}
use Rattle.ra_items.specs.declared.item_run.ItemRun.{ItemRun}
use Rattle.ra_items.specs.Rests.{AreFitting, seen_by}
use Rattle.ra_items.specs.Shapes.{run_shape}
use Rattle.ra_items.proofs.RunsLemmas.{length_runs}
use Rattle.ra_items.proofs.SeenItems.{rests_fit}
use Rattle.ra_items.proofs.ShapeLemmas.{runs_shaped}
use Rattle.std.proofs.lemmas.List.{length-map}
use Rattle.ra_memref.specs.Names.{cell_name, tracked_name}
use Rattle.ra_meaning.specs.Order.{set_cells, set_tracked, shape_of}
use Rattle.ra_runtime.specs.Courses.{CourseSeen}
use Rattle.ra_runtime.specs.Keeping.{IsKeptFor, KeptSeen}
use Rattle.ra_runtime.proofs.LaidShapes.{presence_shaped}
use Rattle.ra_runtime.proofs.SavedOpening.{presence_kept_fits}
use Rattle.ra_runtime.proofs.course.Course.keep.Goals as goal

pub note_blocks-requires-clause-items : goal.note_blocks-requires-clause-items
note_blocks-requires-clause-items c =
    let t = c.self.inside in
    let inv = c.self.invariant in
    let for_it : IsKeptFor (shape_of (set_contents t.set)) c.args.kept.now =
    rw (← c.self.view_is) at (c.has_kept.ensures.so c.if-not-has_kept.false) in
    let shaped = runs_shaped t.table.nodes (set_contents t.set).items t.runs.items inv.runs in
    ap (λ (k : KeptSeen). k.items) c.note_numbers.ensures.noted ∙ for_it.items ∙ sym shaped
    ∙ ap (map run_shape) (sym c.deref.ensures.value)

pub note_blocks-requires-clause-many : goal.note_blocks-requires-clause-many
note_blocks-requires-clause-many c =
    let t = c.self.inside in
    let inv = c.self.invariant in
    omega (
      arith,
      ap length c.deref.ensures.value,
      length_runs t.table.nodes (set_contents t.set).items t.runs.items inv.runs,
      inv.rests.many,
    )

pub note_blocks-requires-clause-fit : goal.note_blocks-requires-clause-fit
note_blocks-requires-clause-fit c =
    let t = c.self.inside in
    let inv = c.self.invariant in
    subst (λ (runs : List ItemRun). AreFitting runs t.rests.each.items) (sym c.deref.ensures.value)
    (rests_fit t.table.nodes t.table.values (set_contents t.set).items t.runs.items t.rests inv.runs inv.rests)

pub note_blocks-requires-clause-presence : goal.note_blocks-requires-clause-presence
note_blocks-requires-clause-presence c =
    let t = c.self.inside in
    let inv = c.self.invariant in
    let for_it : IsKeptFor (shape_of (set_contents t.set)) c.args.kept.now =
    rw (← c.self.view_is) at (c.has_kept.ensures.so c.if-not-has_kept.false) in
    ap (λ (k : KeptSeen). k.presence) c.note_numbers.ensures.noted ∙ for_it.presence
    ∙ sym (presence_shaped t.table.nodes (set_contents t.set).script t.presence inv.presence)

pub note_blocks-requires-clause-lines : goal.note_blocks-requires-clause-lines
note_blocks-requires-clause-lines c =
    let t = c.self.inside in
    optional_fitting t.table.nodes t.table.values (set_contents t.set).script t.presence
    t.line_rests c.self.invariant.presence c.self.invariant.lines

pub note_blocks-requires-clause-shows : goal.note_blocks-requires-clause-shows
note_blocks-requires-clause-shows c =
    let t = c.self.inside in
    let inv = c.self.invariant in
    let script = (set_contents t.set).script in
    λ fits. subst (λ (p : Option PresenceShape). PresenceFits p (optional_presence_seen t.presence
    t.line_rests)) (sym (presence_shaped t.table.nodes script t.presence inv.presence))
    (presence_kept_fits t.table.nodes t.table.values script t.presence t.line_rests inv.presence inv.lines fits)

pub returns-clause-opening : goal.returns-clause-opening
returns-clause-opening c =
    let t = c.self.inside in
    let inv = c.self.invariant in
    let set = set_contents t.set in
    let runs = t.runs.items in
    let shown = optional_presence_seen t.presence t.line_rests in
    let small : t.count < 2 ^ 64 = omega arith in
    let cells : AreWords (length (shape_of set).cells) t.table.cells =
    subst (λ n. AreWords n t.table.cells) (inv.over.cells_many ∙ sym (length-map
    (set_cells set) cell_name)) (rw c.cells.ensures at c.note_numbers.ensures.fit_cells) in
    let priors : AreWords (length (shape_of set).priors) t.table.priors =
    subst (λ n. AreWords n t.table.priors) (inv.over.priors_many ∙ sym (length-map
    (set_tracked set) tracked_name)) (rw c.priors.ensures at c.note_numbers.ensures.fit_priors) in
    let items : ItemsFit (shape_of set).items (seen_by runs t.rests) =
    subst (λ (ss : List ItemShape). ItemsFit ss (seen_by runs t.rests))
    (runs_shaped t.table.nodes set.items runs inv.runs)
    (subst (λ (rs : List ItemRun). ItemsFit (map run_shape rs) (seen_by rs t.rests))
    c.deref.ensures.value c.note_blocks.ensures.fit) in
    let presence : PresenceFits (shape_of set).presence shown =
    subst (λ (p : Option PresenceShape). PresenceFits p shown)
    (presence_shaped t.table.nodes set.script t.presence inv.presence) c.note_blocks.ensures.fits in
    subst (λ (r : CourseSeen). IsOpening (shape_of r.set) r.kept) c.self.view_is
    (record { frames = small; cells = cells; priors = priors; items = items; presence = presence })
