use Rattle.ra_progress.proofs.OwnOrder.{own_range_is}
use Rattle.ra_progress.proofs.entries.own_range.Goals as goal

pub returns-clause-named : goal.returns-clause-named
returns-clause-named c =
    own_range_is c.args.shape.now c.requires.usable c.args.name.now c.matches.result.0
    c.matches.result.1 c.matches.ensures
