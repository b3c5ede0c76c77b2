use Rattle.std.proofs.Common.{◌≡◌, length, ap, sym, ◌∙◌}
use Rattle.std.proofs.lemmas.List.{length-replicate}
use Rattle.ra_runtime_tests.proofs.courses.watched.Watched.new.Goals as goal

pub invariant_of-result : goal.invariant_of-result
invariant_of-result c = record {
  size = c.in_ok-course.ensures.size ∙ sym (ap length c.in_ok-memory.ensures ∙ length-replicate c.args.size 0);
  current = c.in_ok-course.ensures.current c.in_ok-memory.memory;
}
