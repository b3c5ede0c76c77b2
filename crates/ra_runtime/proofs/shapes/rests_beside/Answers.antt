use Rattle.ra_runtime.proofs.shapes.rests_beside.Goals as goal

pub returns-clause-rests : goal.returns-clause-rests
returns-clause-rests c = rw c.deref.ensures.value at (c.in_ok-rests.ensures.rests c.args.table.now.values)
