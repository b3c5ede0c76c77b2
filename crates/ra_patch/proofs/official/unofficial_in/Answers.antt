use Rattle.std.proofs.Common.{map, sym, arith}
use Rattle.serde_json.specs.View.{view}
use Rattle.ra_patch.specs.declared.item_kind.ItemKind.TheVariants.{Achievement}
use Rattle.ra_patch.specs.Patches.{items_of}
use Rattle.ra_patch.proofs.Breadth.{few-items}
use Rattle.ra_patch.proofs.OfficialLemmas.{among-fits}
use Rattle.ra_patch.proofs.official.unofficial_in.Goals as goal

pub unofficial_of-requires : goal.unofficial_of-requires
unofficial_of-requires c =
    let few =
    few-items (view c.args.document.now) c.requires Achievement (view c.in-Some.patch.now)
    (map view c.in-Some-holders_of.holders.now) (sym c.in-Some.ensures) (sym c.in-Some-holders_of.ensures) in
    omega (arith, few)

pub returns-in-Some-holders_of-clause-few : goal.returns-in-Some-holders_of-clause-few
returns-in-Some-holders_of-clause-few c =
    let few =
    few-items (view c.args.document.now) c.requires Achievement (view c.in-Some.patch.now)
    (map view c.in-Some-holders_of.holders.now) (sym c.in-Some.ensures) (sym c.in-Some-holders_of.ensures) in
    omega (
      arith,
      few,
      among-fits (items_of Achievement (map view c.in-Some-holders_of.holders.now)),
      c.unofficial_of.ensures,
    )
