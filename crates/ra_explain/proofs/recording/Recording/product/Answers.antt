use Rattle.std.proofs.Common.{◌<◌, ◌^◌, ◌+◌, ◌*◌, ◌-◌, ap, length, arith}
use Rattle.ra_condition.specs.Contents.{trigger_contents, trigger_hits}
use Rattle.ra_explain.proofs.TakenLemmas.{product_fits, rows_fit}
use Rattle.ra_explain.proofs.recording.Recording.product.Goals as goal

pub overflow_add-result : goal.overflow_add-result
overflow_add-result c =
    let inv = c.self.invariant in
    let rows = rows_fit (length c.self.inside.rows.behind - 1)
    (trigger_hits (trigger_contents c.self.inside.text)) inv.rows_few in
    omega (arith, rows, c.len.ensures)

pub overflow_mul-result : goal.overflow_mul-result
overflow_mul-result c =
    let inv = c.self.invariant in
    let fits : (c.len.result + 1) * (length c.hits.result.now + 1) < 2 ^ 64 = product_fits
    (length c.self.inside.rows.behind - 1) (trigger_hits (trigger_contents c.self.inside.text))
    c.len.result (length c.hits.result.now) inv.rows_few inv.few (omega (arith, c.len.ensures))
    (omega (arith, ap length c.hits.ensures, inv.run_too.hits)) in
    omega (arith, fits)
