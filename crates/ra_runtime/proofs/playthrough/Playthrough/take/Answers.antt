use Rattle.std.proofs.Common.{◌∙◌, ap, refl, sym, subst}
use Rattle.ra_runtime.specs.Courses.{CourseSeen, over, IsCurrent}
use Rattle.ra_runtime.proofs.Results.{on_ok, either}
use Rattle.ra_runtime.proofs.playthrough.Playthrough.take.Goals as goal

pub invariant_of-self : goal.invariant_of-self
invariant_of-self c =
    let t = c.self.inside in
    let is = c.take.ensures in
    record {
      size = either c.take.result (λ takes. takes.size)
          (λ same. ap (λ (s : CourseSeen). s.size) same) is.taken is.err ∙ c.self.invariant.size;
      current = either c.take.result (λ takes. takes.current t.memory) (λ same. subst (λ
          (s : CourseSeen). IsCurrent (over s t.memory)) (sym same) c.self.invariant.current)
          is.taken is.err;
    }

pub returns-clause-taken : goal.returns-clause-taken
returns-clause-taken c =
    rw (← c.self.view_is) (on_ok c.take.result (λ takes. record {
      set = takes.set;
      size = refl;
      kept = takes.kept;
      events = takes.events;
      lines = takes.lines;
      marked = takes.marked;
      places = takes.places;
      current = takes.current;
    }) c.take.ensures.taken)
