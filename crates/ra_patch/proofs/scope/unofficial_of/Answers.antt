use Rattle.std.proofs.Common.{length, map, take, ap, arith}
use Rattle.serde_json.specs.View.{view}
use Rattle.ra_patch.specs.declared.item_kind.ItemKind.TheVariants.{Achievement}
use Rattle.ra_patch.specs.Patches.{items_of}
use Rattle.ra_patch.proofs.OfficialLemmas.{among-fits}
use Rattle.ra_patch.proofs.SiftLemmas.{items-fit}
use Rattle.ra_patch.proofs.scope.unofficial_of.Goals as goal

pub overflow_add-count : goal.overflow_add-count
overflow_add-count c =
    let fits =
    items-fit Achievement c.args.holders.now c.loop-holder.holder-index c.holder-item.result c.loop-holder-test.true
    c.holder-item.is in
    omega (
      arith,
      fits,
      among-fits (items_of Achievement (map view (take c.loop-holder.holder-index c.args.holders.now))),
      among-fits (map view c.items_or_none.result.now),
      ap (λ ds. length ds) c.items_or_none.ensures,
      c.unofficial_among-count.ensures,
      c.loop-holder.invariant,
      c.requires,
    )
