use Rattle.std.proofs.lemmas.Result.{IfOk-weaker}
use Rattle.ra_set.specs.Contents.{set_contents}
use Rattle.ra_progress.specs.Contents.{ShapeContents}
use Rattle.ra_meaning.specs.Order.{shape_of}
use Rattle.ra_runtime.specs.Lazy.{IsLazy, IsWhole, NamesTable}
use Rattle.ra_runtime.proofs.LazyNames.{names_table}
use Rattle.ra_runtime.proofs.course.Course.shape.Goals as goal

pub returns : goal.returns
returns c =
    let t = c.self.inside in
    let whole = shape_of (set_contents t.set) in
    rw (← c.self.view_is) (IfOk-weaker c.whole.result (λ shape. (w : ShapeContents)
    → IsLazy w t.shape → NamesTable t.table w → IsWhole w shape) (IsWhole whole)
    (λ shape is. is whole c.self.invariant.lazy
    (names_table (set_contents t.set) t.table c.self.invariant.over)) c.whole.ensures)
