use Rattle.std.proofs.Common.{sym, subst}
use Rattle.ra_items.specs.declared.item_run.ItemRun.{ItemRun}
use Rattle.ra_items.specs.declared.item_run.ItemRun.TheVariants.{Leaderboard}
use Rattle.ra_items.specs.Restoring.{PutsBackItem}
use Rattle.ra_items.proofs.RestoreLemmas.{leaderboard_back}
use Rattle.ra_items.proofs.restored.put_back_item.Goals as goal

pub returns-in-Leaderboard : goal.returns-in-Leaderboard
returns-in-Leaderboard c =
    let old = c.in-Leaderboard.run' in
    let new = c.put_back_board.new.run in
    subst (λ (run : ItemRun). PutsBackItem c.args.bytes.now c.args.place run (Leaderboard new))
    (sym c.in-Leaderboard.is)
    (leaderboard_back c.args.bytes.now c.args.place old new c.put_back_board.ensures)
