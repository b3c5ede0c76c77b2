use Rattle.std.proofs.Common.{length, ap}
use Rattle.ra_progress.proofs.Written.{all_fit}
use Rattle.ra_items.proofs.SaveLemmas.{board_kept_fits}
use Rattle.ra_items.proofs.saved.put_board_run.Goals as goal

pub returns-clause-fits : goal.returns-clause-fits
returns-clause-fits c =
    let hits = c.args.hits.now in
    let numbers = c.args.numbers.now in
    board_kept_fits c.args.run.now hits numbers c.requires.hits (ap length c.requires.numbers)
    (all_fit hits c.type_inv.hits) (all_fit numbers c.type_inv.numbers)
