use Rattle.std.proofs.Common.{[], ap}
use Rattle.ra_runtime.specs.Courses.{CourseSeen}
use Rattle.ra_calls.proofs.laws.sets_stay.Goals as goal

pub returns-clause-frame : goal.returns-clause-frame
returns-clause-frame c = λ image old new x. x.frame.set

pub returns-clause-restore : goal.returns-clause-restore
returns-clause-restore c = λ bytes old new x. (x.taken []).set

pub returns-clause-reset : goal.returns-clause-reset
returns-clause-reset c = λ old new x. (x.taken.taken []).set

pub returns-clause-earn : goal.returns-clause-earn
returns-clause-earn c = λ ids old new x. ap (λ (r : CourseSeen). r.set) x.rest

pub returns-clause-take : goal.returns-clause-take
returns-clause-take c = λ o old new x. x.set
