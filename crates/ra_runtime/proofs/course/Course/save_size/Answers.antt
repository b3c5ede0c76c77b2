use Rattle.std.proofs.Common.{◌≡◌, ◌+◌, length, sym, ◌∙◌, ap, arith}
use Rattle.ra_set.specs.Contents.{set_contents}
use Rattle.ra_progress.specs.Contents.{shape_contents}
use Rattle.ra_progress.specs.Layout.{length_of, length_with}
use Rattle.ra_meaning.specs.Order.{shape_of}
use Rattle.ra_runtime.proofs.LazyNames.{length_lazy, names_table, paired_lazy}
use Rattle.ra_runtime.proofs.course.Course.save_size.Goals as goal

pub file_length-requires-clause-paired : goal.file_length-requires-clause-paired
file_length-requires-clause-paired c =
    let t = c.self.inside in
    paired_lazy (shape_of (set_contents t.set)) t.shape.shape _ _ c.self.invariant.lazy.shape
    c.self.invariant.lazy.paired
