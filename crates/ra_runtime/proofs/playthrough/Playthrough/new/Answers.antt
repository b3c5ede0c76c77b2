use Rattle.std.proofs.Common.{◌∙◌, ap, sym, length}
use Rattle.std.proofs.lemmas.List.{length-replicate}
use Rattle.ra_runtime.proofs.playthrough.Playthrough.new.Goals as goal

pub invariant_of-result : goal.invariant_of-result
invariant_of-result c = record {
  size = c.in_ok-course.ensures.size_too ∙ sym (ap length c.in_ok-memory.ensures ∙ length-replicate c.args.size 0);
  current = c.in_ok-course.ensures.current c.in_ok-memory.memory;
}
