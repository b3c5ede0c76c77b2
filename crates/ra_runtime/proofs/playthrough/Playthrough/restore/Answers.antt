use Rattle.std.proofs.Common.{◌∙◌, sym, subst}
use Rattle.ra_runtime.specs.Courses.{CourseSeen, over, IsCurrent}
use Rattle.ra_runtime.proofs.Results.{on_ok, either}
use Rattle.ra_runtime.proofs.playthrough.Playthrough.restore.Goals as goal

pub invariant_of-self : goal.invariant_of-self
invariant_of-self c =
    let t = c.self.inside in
    let is = c.restore.ensures in
    record {
      size = is.size ∙ c.self.invariant.size;
      current = either c.restore.result (λ current. current t.memory) (λ same. subst (λ
          (s : CourseSeen). IsCurrent (over s t.memory)) (sym same) c.self.invariant.current)
          is.current is.err;
    }

pub returns-clause-ok : goal.returns-clause-ok
returns-clause-ok c =
    let t = c.self.inside in
    rw (← c.self.view_is) (on_ok c.restore.result (λ takes. takes t.memory) c.restore.ensures.ok)
