use Rattle.std.proofs.Common.{◌≡◌, List, [], map, ap, subst}
use Rattle.ra_indirect.specs.declared.node.Node.{Node}
use Rattle.ra_set.specs.Contents.{ItemContents, item_contents, set_contents}
use Rattle.ra_items.specs.Planning.{AreWaiting}
use Rattle.ra_runtime.proofs.MadeLemmas.{laid}
use Rattle.ra_runtime.proofs.shapes.laid_out.Goals as goal

pub returns : goal.returns
returns c =
    let set = set_contents c.args.set.now in
    let items = c.new_runs.new.pool in
    let pool = c.new_presence.new.pool in
    let runs = c.in_ok-runs.runs.items in
    let same : map item_contents c.deref.result.now ≡ set.items = ap (map item_contents) c.deref.ensures.value in
    let are : AreWaiting [] items set.items runs = subst (λ (xs : List ItemContents). AreWaiting []
    items xs runs) same (subst (λ (ns : List Node). AreWaiting ns items (map item_contents
    c.deref.result.now) runs) c.in_ok-pool.ensures c.in_ok-runs.ensures) in
    laid set items pool c.args.size c.in_ok-table.table runs c.in_ok-presence.presence
    c.requires.limits are c.in_ok-presence.ensures c.in_ok-table.ensures
