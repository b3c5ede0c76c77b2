use Rattle.std.proofs.Common.{map, sym, arith}
use Rattle.serde_json.specs.View.{view}
use Rattle.ra_patch.specs.declared.item_kind.ItemKind.TheVariants.{Achievement, Leaderboard}
use Rattle.ra_patch.proofs.Breadth.{few-items}
use Rattle.ra_patch.proofs.leave.left_of_value.Goals as goal

pub sift-requires-clause-achievements : goal.sift-requires-clause-achievements
sift-requires-clause-achievements c =
    let few =
    few-items (view c.args.document.now) c.requires Achievement (view c.in-Some.patch.now)
    (map view c.in-Some-holders_of.holders.now) (sym c.in-Some.ensures) (sym c.in-Some-holders_of.ensures) in
    omega (arith, few)

pub sift-requires-clause-boards : goal.sift-requires-clause-boards
sift-requires-clause-boards c =
    let few =
    few-items (view c.args.document.now) c.requires Leaderboard (view c.in-Some.patch.now)
    (map view c.in-Some-holders_of.holders.now) (sym c.in-Some.ensures) (sym c.in-Some-holders_of.ensures) in
    omega (arith, few)
