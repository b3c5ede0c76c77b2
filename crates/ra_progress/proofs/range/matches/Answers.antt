use Rattle.ra_progress.proofs.Usable.{few_cells, few_priors, few_entries}
use Rattle.ra_progress.proofs.range.matches.Goals as goal

pub range-requires-clause-few : goal.range-requires-clause-few
range-requires-clause-few c = rw c.deref-in-Cell.ensures.value (few_cells c.args.shape.now c.requires)

pub range-requires-in-Prior-clause-few : goal.range-requires-in-Prior-clause-few
range-requires-in-Prior-clause-few c = rw c.deref-in-Prior-2.ensures.value (few_priors c.args.shape.now c.requires)

pub range-requires-in-Entry-clause-few : goal.range-requires-in-Entry-clause-few
range-requires-in-Entry-clause-few c = rw c.deref-in-Entry-2.ensures.value (few_entries c.args.shape.now c.requires)
