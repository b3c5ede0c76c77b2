use Rattle.std.proofs.Common.{ap, Result, Ok, Err, sym, subst, ◌∙◌}
use Rattle.std.specs.Result.{OnOk, OnErr}
use Rattle.ra_explain.specs.Recordings.{RecordingSeen, IsCurrent}
use Rattle.ra_explain.proofs.recorder.Recorder.save.Goals as goal

either : {T E A B C : Type 0} (r : Result T E) → (A → C) → (B → C) → OnOk r A → OnErr r B → C
either (Ok x) f g ok err = f ok
either (Err e) f g ok err = g err

pub invariant_of-self : goal.invariant_of-self
invariant_of-self c =
    let inv = c.self.invariant in
    let image = c.self.inside.memory in
    record {
      size = either c.save.result (λ saved. ap (λ (s : RecordingSeen). s.size) saved) (λ same. ap
          (λ (s : RecordingSeen). s.size) same) c.save.ensures.saved c.save.ensures.err ∙ inv.size;
      current = either c.save.result (λ saved. subst (λ (s : RecordingSeen). IsCurrent s image)
          (sym saved) inv.current) (λ same. subst (λ (s : RecordingSeen). IsCurrent s image)
          (sym same) inv.current) c.save.ensures.saved c.save.ensures.err;
    }
