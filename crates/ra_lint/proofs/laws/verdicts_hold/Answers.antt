use Rattle.ra_lint.proofs.VerdictLaws.{some_is, all_is}
use Rattle.ra_lint.proofs.laws.verdicts_hold.Goals as goal

pub returns-clause-some : goal.returns-clause-some
returns-clause-some c op left right first second = some_is left right first second op

pub returns-clause-all : goal.returns-clause-all
returns-clause-all c op left right first second = all_is left right first second op
