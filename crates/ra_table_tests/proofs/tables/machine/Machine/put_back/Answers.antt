use Rattle.ra_memref.proofs.AgreeLemmas.{Agrees-marked}
use Rattle.ra_table_tests.proofs.tables.machine.Machine.put_back.Goals as goal

pub invariant_of-self-clause-agrees : goal.invariant_of-self-clause-agrees
invariant_of-self-clause-agrees c = Agrees-marked c.put_back.new.self _ _ c.put_back.ensures.marked
