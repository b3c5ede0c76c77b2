use Rattle.std.proofs.Common.{◌∙◌, ap, sym, length}
use Rattle.std.proofs.lemmas.List.{length-replicate}
use Rattle.ra_explain.proofs.recorder.Recorder.new.Goals as goal

pub invariant_of-result : goal.invariant_of-result
invariant_of-result c = record {
  size = c.in_ok-recording.ensures.size_too ∙ sym (ap length c.in_ok-memory.ensures ∙ length-replicate c.args.size 0);
  current = c.in_ok-recording.ensures.current c.in_ok-memory.memory;
}
