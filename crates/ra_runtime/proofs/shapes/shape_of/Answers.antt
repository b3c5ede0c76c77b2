use Rattle.std.proofs.Common.{[], All, map, ap, subst, sym, ◌∙◌, arith}
use Rattle.ra_set.specs.Contents.{item_contents, set_contents}
use Rattle.ra_meaning.specs.Order.{item_shape}
use Rattle.ra_items.specs.Planning.{GrowsByItems}
use Rattle.ra_items.specs.Shapes.{run_shape, IsSmall}
use Rattle.ra_runtime.proofs.MadeLemmas.{few_cells, few_tracked, names_set}
use Rattle.ra_items.proofs.ShapeLemmas.{runs_shaped, items_small}
use Rattle.ra_meaning.proofs.Counts.SmallShape.{small_shape}
use Rattle.ra_runtime.proofs.shapes.shape_of.Goals as goal

pub shape_beside-requires-clause-names : goal.shape_beside-requires-clause-names
shape_beside-requires-clause-names c =
    let set = set_contents c.args.set.now in
    let items = c.new_runs.new.pool in
    let pool = c.counted_presence.new.pool in
    let first : GrowsByItems [] items set.items =
    rw (c.in_ok-pool.ensures, c.deref.ensures.value) at c.in_ok-runs.ensures.grows in
    names_set set items pool c.requires.limits first c.in_ok-presence.ensures.grows
    c.in_ok-names.names c.in_ok-names.ensures.cells c.in_ok-names.ensures.priors

pub shape_beside-requires-clause-short : goal.shape_beside-requires-clause-short
shape_beside-requires-clause-short c =
    let set = set_contents c.args.set.now in
    let items = c.new_runs.new.pool in
    let pool = c.counted_presence.new.pool in
    let first : GrowsByItems [] items set.items =
    rw (c.in_ok-pool.ensures, c.deref.ensures.value) at c.in_ok-runs.ensures.grows in
    let next = c.in_ok-presence.ensures.grows in
    small_shape set c.requires.limits c.requires.spelled (few_cells set items pool c.requires.limits
    first next) (few_tracked set items pool c.requires.limits first next)

pub shape_beside-requires-clause-small : goal.shape_beside-requires-clause-small
shape_beside-requires-clause-small c =
    let set = set_contents c.args.set.now in
    let runs = c.in_ok-runs.runs.items in
    let shaped = runs_shaped c.new_runs.new.pool
    (map item_contents c.deref.result.now) runs c.in_ok-runs.ensures.runs_too in
    let same = ap (map run_shape) c.deref-2.ensures.value ∙ shaped
    ∙ ap (λ xs. map item_shape (map item_contents xs)) c.deref.ensures.value in
    subst (All IsSmall) (sym same)
    (items_small set.items c.requires.spelled.items (omega (arith, c.requires.limits.conditions)))

pub shape_beside-requires-clause-items : goal.shape_beside-requires-clause-items
shape_beside-requires-clause-items c =
    let shaped = runs_shaped c.new_runs.new.pool
    (map item_contents c.deref.result.now) c.in_ok-runs.runs.items c.in_ok-runs.ensures.runs_too in
    ap (map run_shape) c.deref-2.ensures.value ∙ shaped
    ∙ ap (λ xs. map item_shape (map item_contents xs)) c.deref.ensures.value
