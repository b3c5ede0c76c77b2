use Rattle.std.proofs.Common.{refl, rules, replicate, ◌≡◌, List, All, true, false, length, map, ap, subst, sym, ◌∙◌}
use Rattle.std.proofs.lemmas.List.{length-map}
use Rattle.ra_memref.specs.Names.{cell_name, tracked_name}
use Rattle.ra_meaning.specs.Order.{set_cells, set_tracked}
use Rattle.ra_indirect.specs.Pools.{cells_of}
use Rattle.ra_memref.proofs.AgreeLemmas.{Agrees-marked}
use Rattle.ra_set.specs.Contents.{set_contents}
use Rattle.ra_items.specs.declared.item_run.ItemRun.{ItemRun}
use Rattle.ra_items.specs.Shapes.{run_shape, IsSmall}
use Rattle.ra_runtime.proofs.CurrentLemmas.{current_agrees}
use Rattle.ra_runtime.proofs.LaidShapes.{laid_few, laid_shapes, laid_small, laid_presence, laid_small_presence}
use Rattle.ra_items.proofs.ShapeLemmas.{have_digits}
use Rattle.ra_meaning.proofs.Counts.SmallShape.{small_shape}
use Rattle.ra_runtime.proofs.course.Course.begun.Goals as goal

-- no frame came where there is no number of one
none_came : false ≡ true → ⊥
none_came same = cc

pub shape_and_room-requires-clause-over : goal.shape_and_room-requires-clause-over
shape_and_room-requires-clause-over c = c.in_ok-table.ensures.laid.over

pub shape_and_room-requires-clause-few : goal.shape_and_room-requires-clause-few
shape_and_room-requires-clause-few c =
    laid_few (set_contents c.args.set) c.args.size c.in_ok-table.table c.in_ok-table.runs.items
    c.in_ok-table.presence c.in_ok-table.ensures.laid

pub shape_and_room-requires-clause-short : goal.shape_and_room-requires-clause-short
shape_and_room-requires-clause-short c =
    let laid = c.in_ok-table.ensures.laid in
    small_shape (set_contents c.args.set) c.requires.limits c.requires.spelled laid.few_cells laid.few_tracked

pub shape_and_room-requires-clause-small : goal.shape_and_room-requires-clause-small
shape_and_room-requires-clause-small c =
    subst (λ (runs : List ItemRun). All IsSmall (map run_shape runs)) (sym c.deref.ensures.value)
    (laid_small (set_contents c.args.set) c.args.size c.in_ok-table.table c.in_ok-table.runs.items
    c.in_ok-table.presence c.in_ok-table.ensures.laid c.requires.limits c.requires.spelled)

pub shape_and_room-requires-clause-items : goal.shape_and_room-requires-clause-items
shape_and_room-requires-clause-items c =
    ap (map run_shape) c.deref.ensures.value ∙ laid_shapes (set_contents c.args.set) c.args.size
    c.in_ok-table.table c.in_ok-table.runs.items c.in_ok-table.presence c.in_ok-table.ensures.laid

pub shape_and_room-requires-clause-small_presence : goal.shape_and_room-requires-clause-small_presence
shape_and_room-requires-clause-small_presence c =
    laid_small_presence (set_contents c.args.set) c.args.size c.in_ok-table.table
    c.in_ok-table.runs.items c.in_ok-table.presence c.in_ok-table.ensures.laid c.requires.limits
    c.requires.spelled

pub shape_and_room-requires-clause-presence : goal.shape_and_room-requires-clause-presence
shape_and_room-requires-clause-presence c =
    laid_presence (set_contents c.args.set) c.args.size c.in_ok-table.table c.in_ok-table.runs.items
    c.in_ok-table.presence c.in_ok-table.ensures.laid

pub invariant_of-result : goal.invariant_of-result
invariant_of-result c =
    let laid = c.in_ok-table.ensures.laid in
    record {
      script = c.requires.spelled.script;
      limits = c.requires.limits;
      lazy = c.in_ok-shape.ensures.shape;
      names = c.in_ok-shape.ensures.names;
      room = c.in_ok-shape.ensures.room;
      over = laid.over;
      runs = laid.runs_too;
      rests = c.in_ok-table.ensures.rests;
      told = λ came. absurd (none_came came);
      presence = laid.presence_too;
      lines = c.in_ok-table.ensures.lines;
      digits = have_digits (set_contents c.args.set).items c.requires.spelled.items;
      size = laid.fresh.size_too;
      small = c.requires.size;
    }

pub returns : goal.returns
returns c =
    let laid = c.in_ok-table.ensures.laid in
    record {
      set_too = refl;
      size_too = refl;
      kept = (λ i. record {
        frames = 0;
        cells = (laid.fresh.cells ∙ ap (λ cs. replicate (length cs) 0) laid.over.cells ∙ ap (λ n.
            replicate n 0) (sym (length-map (set_cells (set_contents c.args.set)) cell_name))) i;
        priors = (laid.fresh.priors ∙ ap (λ ts. replicate (length ts) 0) laid.over.tracked
            ∙ ap (λ n. replicate n 0)
            (sym (length-map (set_tracked (set_contents c.args.set)) tracked_name))) i;
        items = c.in_ok-table.ensures.kept i;
        presence = c.in_ok-table.ensures.shown i;
      });
      events = refl;
      lines = refl;
      marked = search rules;
      places = search rules;
      current = λ image. current_agrees (set_contents c.args.set) c.in_ok-table.table image
          laid.over (Agrees-marked c.in_ok-table.table image
          (length (cells_of c.in_ok-table.table.nodes)) laid.fresh.marked);
    }
