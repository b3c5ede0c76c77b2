use Rattle.std.proofs.Common.{length, map, take, ap, sym, subst, arith}
use Rattle.std.proofs.lemmas.List.{length-map}
use Rattle.serde_json.specs.View.{view}
use Rattle.ra_patch.specs.Patches.{items_of}
use Rattle.ra_patch.specs.Sifting.{Sifts}
use Rattle.ra_patch.proofs.OfficialLemmas.{wanted-fits, wanted-nil}
use Rattle.ra_patch.proofs.SiftLemmas.{sifts-none, items-fit}
use Rattle.ra_patch.proofs.sifted.Sifted.take_list.Goals as goal

pub loop-holder-init : goal.loop-holder-init
loop-holder-init c =
    let fresh = c.restart.ensures in
    subst (λ ds. Sifts c.args.kind c.args.self.now ds c.restart.new.self) (sym (wanted-nil c.args.scope))
    (sifts-none c.args.kind c.args.self.now c.restart.new.self fresh.ids fresh.count fresh.text fresh.left_out)

pub take_items-requires : goal.take_items-requires
take_items-requires c =
    let fits =
    items-fit c.args.kind c.args.holders.now c.loop-holder.holder-index c.holder-item.result c.loop-holder-test.true
    c.holder-item.is in
    omega (
      arith,
      fits,
      wanted-fits c.args.scope (items_of c.args.kind (map view (take c.loop-holder.holder-index c.args.holders.now))),
      length-map c.items_or_none.result.now view,
      ap (λ ds. length ds) c.items_or_none.ensures,
      c.loop-holder.invariant.count,
      c.requires,
    )
