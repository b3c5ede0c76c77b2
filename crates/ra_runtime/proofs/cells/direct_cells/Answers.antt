use Rattle.std.proofs.Common.{[], ◌≡◌, ◌∙◌, ap, subst}
use Rattle.std.specs.Prelude.{IfOk}
use Rattle.ra_set.specs.Contents.{set_contents}
use Rattle.ra_items.specs.Planning.{GrowsByItems}
use Rattle.ra_indirect.specs.Pools.{cells_of}
use Rattle.ra_meaning.specs.Order.{set_cells}
use Rattle.ra_runtime.specs.Cells.{direct_of}
use Rattle.ra_runtime.proofs.MadeLemmas.{all_grown, grown_cells}
use Rattle.ra_runtime.proofs.cells.direct_cells.Goals as goal

pub returns : goal.returns
returns c =
    let set = set_contents c.args.set.now in
    let items = c.new_runs.new.pool in
    let pool = c.counted_presence.new.pool in
    let first : GrowsByItems [] items set.items =
    rw (c.new-pool.ensures, c.deref.ensures.value) at c.in_ok-_runs.ensures.grows in
    let grown = all_grown set items pool c.requires.limits first c.in_ok-_presence.ensures.grows in
    let cells : cells_of c.deref-2.result.now ≡ set_cells set = ap cells_of (c.deref-2.ensures.value
    ∙ c.in_ok-nodes.ensures.nodes) ∙ grown_cells set pool grown.grows in
    subst (λ cs. IfOk c.direct_in.result (λ cells. cells.items ≡ direct_of cs)) cells c.direct_in.ensures
