use Rattle.std.proofs.Common.{subst}
use Rattle.ra_memref.specs.Table.{TableSeen}
use Rattle.ra_memref.specs.Putting.{IsPriorPut}
use Rattle.ra_memref.specs.Seen.{table_seen}
use Rattle.ra_memref.proofs.PuttingLemmas.{put, prior_is_table, prior_put_by}
use Rattle.ra_memref.proofs.table.Table.put_prior.Goals as goal

pub invariant_of-self : goal.invariant_of-self
invariant_of-self c =
    prior_is_table c.self.inside c.self.invariant c.put_prior.new.self c.args.prior c.args.number c.put_prior.ensures

pub returns : goal.returns
returns c =
    subst (λ (t : TableSeen). IsPriorPut t
    (table_seen (put c.self.inside c.put_prior.new.self)) c.args.prior c.args.number) c.self.view_is
    (prior_put_by c.self.inside c.self.invariant c.put_prior.new.self c.args.prior c.args.number c.put_prior.ensures)
