use Rattle.std.proofs.Common.{subst}
use Rattle.ra_indirect.specs.Interned.{IsPool}
use Rattle.ra_indirect.proofs.SpelledLemmas.{all_alone}
use Rattle.ra_indirect.proofs.pool.Pool.node.Goals as goal

pub returns-clause-alone : goal.returns-clause-alone
returns-clause-alone c =
    all_alone c.args.self.now (subst IsPool c.self.view_is c.self.invariant.0) c.args.number c.requires
