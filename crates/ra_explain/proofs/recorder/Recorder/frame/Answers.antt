use Rattle.std.proofs.Common.{ap}
use Rattle.std.proofs.lemmas.Result.{IfOk-weaker, MatchResult-weaker}
use Rattle.ra_explain.specs.Recordings.{RecordingSeen, over}
use Rattle.ra_explain.proofs.recorder.Recorder.frame.Goals as goal

pub returns-clause-taken : goal.returns-clause-taken
returns-clause-taken g c =
    rw (← c.self.view_is) (IfOk-weaker c.frame.result _ _ (λ unlock took. took.frame) c.frame.ensures.taken)

pub returns-clause-refused : goal.returns-clause-refused
returns-clause-refused g c =
    rw (← c.self.view_is) (MatchResult-weaker c.frame.result c.frame.ensures.refused
    (λ unlock none. none) (λ why no. no.refused))

pub returns-clause-err : goal.returns-clause-err
returns-clause-err g c =
    rw (← c.self.view_is) (MatchResult-weaker c.frame.result c.frame.ensures.refused (λ unlock none. none)
    (λ why no. ap (λ (s : RecordingSeen). over s c.self.inside.memory) no.unchanged))
