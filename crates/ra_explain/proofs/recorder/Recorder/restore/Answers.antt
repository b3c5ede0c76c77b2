use Rattle.std.proofs.Common.{ap, sym, subst, ◌∙◌}
use Rattle.ra_explain.specs.Recorders.{RecorderSeen, IsFilled}
use Rattle.ra_explain.specs.Recordings.{RecordingSeen}
use Rattle.ra_explain.proofs.recorder.Recorder.restore.Goals as goal

pub invariant_of-self : goal.invariant_of-self
invariant_of-self c =
    let filled = subst (λ (r : RecorderSeen). IsFilled r c.args.slot) (sym c.self.view_is) c.requires.filled in
    record {
      size = ap (λ (s : RecordingSeen). s.size) (c.restore.ensures.restored filled.0 filled.1) ∙ c.self.invariant.size;
      current = c.restore.ensures.current c.self.inside.memory;
    }
