use Rattle.ra_memref.proofs.AgreeLemmas.{Agrees-marked}
use Rattle.ra_table_tests.proofs.tables.machine.Machine.new.Goals as goal

pub joined-requires-clause-agrees : goal.joined-requires-clause-agrees
joined-requires-clause-agrees c = Agrees-marked c.in_ok-table.table _ _ c.in_ok-table.ensures.marked
