use Rattle.std.proofs.Common.{◌≡◌, ◌++◌, ◌≤◌, List, length, map, option_to_list, sum_by, sym, ◌∙◌, ap, subst, arith}
use Rattle.std.proofs.lemmas.List.{length-map}
use Rattle.md5.specs.Md5.{md5}
use Rattle.ra_set.specs.Contents.{set_contents}
use Rattle.ra_text.specs.Words.{AreWords}
use Rattle.ra_progress.specs.declared.shape.ItemShape.{ItemShape}
use Rattle.ra_progress.specs.Contents.{ShapeContents, shape_contents, IsOpening, ItemsFit}
use Rattle.ra_progress.specs.Layout.{item_length}
use Rattle.ra_progress.specs.Spelling.{progress_bytes, body_bytes, item_bytes, presence_block, named_blocks}
use Rattle.ra_progress.specs.Writing.{front_bytes}
use Rattle.ra_progress.proofs.Written.{body_in_parts}
use Rattle.ra_items.specs.declared.item_run.ItemRun.{ItemRun}
use Rattle.ra_meaning.specs.Order.{shape_of}
use Rattle.ra_display.specs.LineRests.{optional_presence_seen}
use Rattle.ra_display.proofs.SeenLines.{optional_fitting}
use Rattle.ra_runtime.specs.Laid.{opening_by}
use Rattle.ra_items.specs.Rests.{seen_by}
use Rattle.ra_runtime.specs.Courses.{CourseSeen}
use Rattle.ra_items.specs.Shapes.{run_shape}
use Rattle.ra_runtime.proofs.LaidShapes.{presence_shaped}
use Rattle.ra_items.proofs.RunsLemmas.{length_runs}
use Rattle.ra_runtime.proofs.SavedOpening.{names_whole, opening_taken, runs_whole, short_parts, whole_shape}
use Rattle.ra_items.proofs.SeenItems.{rests_fit, seen_long}
use Rattle.ra_runtime.proofs.course.Course.save_by.Goals as goal

pub begin-requires-clause-cells : goal.begin-requires-clause-cells
begin-requires-clause-cells c =
    ap length c.cells-cells.ensures ∙ (names_whole c.self.invariant c.self.view_is c.requires.same).0

pub begin-requires-clause-priors : goal.begin-requires-clause-priors
begin-requires-clause-priors c =
    ap length c.priors-priors.ensures ∙ (names_whole c.self.invariant c.self.view_is c.requires.same).1

pub put_runs-requires : goal.put_runs-requires
put_runs-requires c =
    let t = c.self.inside in
    let inv = c.self.invariant in
    let shaped = runs_whole inv c.self.view_is c.requires.same in
    rw (c.deref.ensures.value, c.deref-2.ensures.value) (record {
      names = c.requires.usable.searchable.paired.items ∙ sym (ap length shaped) ∙ length-map t.runs.items run_shape;
      short = subst (λ (ss : List ItemShape). sum_by item_length ss ≤ 8388608) (sym shaped) (short_parts
          (shape_contents c.args.shape.now) c.requires.usable.searchable.paired c.requires.usable.short).0;
      many = inv.rests.many ∙ sym (length_runs t.table.nodes (set_contents t.set).items t.runs.items inv.runs);
      fit = rests_fit t.table.nodes t.table.values (set_contents t.set).items t.runs.items t.rests inv.runs inv.rests;
    })

pub put_display-requires-clause-fit : goal.put_display-requires-clause-fit
put_display-requires-clause-fit c =
    let t = c.self.inside in
    optional_fitting t.table.nodes t.table.values (set_contents t.set).script t.presence t.line_rests
    c.self.invariant.presence c.self.invariant.lines

pub put_display-requires-clause-short : goal.put_display-requires-clause-short
put_display-requires-clause-short c =
    let t = c.self.inside in
    let shaped = presence_shaped t.table.nodes (set_contents t.set).script t.presence c.self.invariant.presence
    ∙ sym (ap (λ (s : ShapeContents). s.presence) (whole_shape c.self.invariant c.self.view_is c.requires.same)) in
    rw shaped ((short_parts (shape_contents c.args.shape.now) c.requires.usable.searchable.paired
    c.requires.usable.short).1)

pub returns-clause-bytes : goal.returns-clause-bytes
returns-clause-bytes c =
    let t = c.self.inside in
    let inv = c.self.invariant in
    let shape = shape_contents c.args.shape.now in
    let runs = t.runs.items in
    let o = opening_by t.count t.table (seen_by runs t.rests) (optional_presence_seen t.presence t.line_rests) in
    let shaped = runs_whole inv c.self.view_is c.requires.same in
    let long = inv.rests.many ∙ sym (length_runs t.table.nodes (set_contents t.set).items runs inv.runs) in
    let many : length shape.item_names ≡ length o.items = c.requires.usable.searchable.paired.items
    ∙ sym (ap length shaped) ∙ length-map runs run_shape ∙ sym (seen_long runs t.rests long) in
    let front : c.in_ok-bytes.bytes.items ≡ front_bytes shape o.frames o.cells o.priors =
    rw (c.cells-cells.ensures, c.priors-priors.ensures) at c.in_ok-bytes.ensures.bytes in
    let items = named_blocks shape.item_names (map item_bytes o.items) in
    let display = named_blocks (option_to_list shape.presence_name) (presence_block o.presence) in
    let written : c.put_runs.new.bytes.items ≡ c.in_ok-bytes.bytes.items ++ items =
    rw (c.deref.ensures.value, c.deref-2.ensures.value) at c.in_ok-put_runs.ensures.bytes in
    let body : c.put_display.new.bytes.items ≡ body_bytes shape o = c.in_ok-put_display.ensures.bytes
    ∙ ap (λ xs. xs ++ display) (written ∙ ap (λ xs. xs ++ items) front) ∙ body_in_parts shape o many in
    subst (λ (r : CourseSeen). c.close.new.bytes.items ≡ progress_bytes (shape_of r.set) r.kept) c.self.view_is
    (c.in_ok-close.ensures ∙ ap (λ xs. xs ++ md5 xs) body
    ∙ ap (λ (s : ShapeContents). progress_bytes s o) (whole_shape inv c.self.view_is c.requires.same))

pub returns-clause-opening : goal.returns-clause-opening
returns-clause-opening c =
    let t = c.self.inside in
    let inv = c.self.invariant in
    let whole = whole_shape inv c.self.view_is c.requires.same in
    let cells = subst (λ (s : ShapeContents). AreWords (length s.cells) t.table.cells) whole
    (rw c.cells-cells.ensures at c.in_ok-bytes.ensures.cells) in
    let priors = subst (λ (s : ShapeContents). AreWords (length s.priors) t.table.priors) whole
    (rw c.priors-priors.ensures at c.in_ok-bytes.ensures.priors) in
    let fit = subst (λ (rs : List ItemRun). ItemsFit (map run_shape rs) (seen_by rs t.rests)) c.deref-2.ensures.value
    c.in_ok-put_runs.ensures.fit in
    subst (λ (r : CourseSeen). IsOpening (shape_of r.set) r.kept) c.self.view_is
    (opening_taken (set_contents t.set) t.table t.runs.items (seen_by t.runs.items t.rests) t.presence t.line_rests
    inv.runs inv.presence inv.lines t.count (omega arith) cells priors fit c.in_ok-put_display.ensures.fits)

pub returns-clause-saved : goal.returns-clause-saved
returns-clause-saved c = record { kept = _; opening = returns-clause-opening c; is = returns-clause-bytes c }
