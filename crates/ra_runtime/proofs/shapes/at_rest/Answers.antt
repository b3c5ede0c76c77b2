use Rattle.std.proofs.Common.{◌∙◌}
use Rattle.ra_runtime.proofs.shapes.at_rest.Goals as goal

pub returns-clause-kept : goal.returns-clause-kept
returns-clause-kept c = (rw c.deref.ensures.value at c.in_ok-rests.ensures.kept) ∙ c.in_ok-table.ensures.plain

pub returns-clause-shown : goal.returns-clause-shown
returns-clause-shown c = c.in_ok-rests.ensures.shown ∙ c.in_ok-table.ensures.plain_too

pub returns-clause-rests : goal.returns-clause-rests
returns-clause-rests c = rw c.deref.ensures.value at c.in_ok-rests.ensures.rests
