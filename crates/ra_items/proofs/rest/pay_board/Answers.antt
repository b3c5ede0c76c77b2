use Rattle.ra_items.proofs.RestRuns.{board_stays}
use Rattle.ra_items.proofs.rest.pay_board.Goals as goal

pub returns-clause-run : goal.returns-clause-run
returns-clause-run c = board_stays c.args.run.now _ c.pay_member.ensures.stays
