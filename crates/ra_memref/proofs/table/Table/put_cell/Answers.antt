use Rattle.std.proofs.Common.{subst}
use Rattle.ra_memref.specs.Table.{TableSeen}
use Rattle.ra_memref.specs.Putting.{IsCellPut}
use Rattle.ra_memref.specs.Seen.{table_seen}
use Rattle.ra_memref.proofs.PuttingLemmas.{put, cell_is_table, cell_put_by}
use Rattle.ra_memref.proofs.table.Table.put_cell.Goals as goal

pub invariant_of-self : goal.invariant_of-self
invariant_of-self c =
    cell_is_table c.self.inside c.self.invariant c.put_cell.new.self c.args.cell c.args.number c.put_cell.ensures

pub returns : goal.returns
returns c =
    subst (λ (t : TableSeen). IsCellPut t
    (table_seen (put c.self.inside c.put_cell.new.self)) c.args.cell c.args.number) c.self.view_is
    (cell_put_by c.self.inside c.self.invariant c.put_cell.new.self c.args.cell c.args.number c.put_cell.ensures)
