use Rattle.std.proofs.Common.{◌≡◌, ◌≤◌, ◌^◌, length, ap, sym, subst, ◌∙◌, arith}
use Rattle.ra_set.specs.Contents.{set_contents}
use Rattle.ra_meaning.specs.Order as spec
use Rattle.ra_meaning.proofs.Openings.Snapshots.{is_paired}
use Rattle.std.specs.Vec.{vec_capacity}
use Rattle.ra_runtime.specs.Lazy.{HasRows, with_names}
use Rattle.ra_runtime.proofs.LazyNames.{new_lazy}
use Rattle.ra_runtime.proofs.shapes.shape_and_room.Goals as goal

pub returns-clause-shape : goal.returns-clause-shape
returns-clause-shape c =
    let set = set_contents c.args.set.now in
    let table = c.args.table.now in
    let s = c.in_ok-shape.shape in
    let is = c.in_ok-shape.ensures in
    let naming = c.in_ok-naming.ensures in
    let lazy = c.in_ok-lazy.ensures in
    let cells : length c.cells.result.now ≡ length table.cells = ap length c.cells.ensures in
    let priors : length c.priors.result.now ≡ length table.priors = ap length c.priors.ensures in
    let rows : HasRows (length table.cells) (length table.priors) s = record {
      cells = omega (arith, cells, naming.cells, ap (λ v. vec_capacity v) is.naming.cells);
      priors = omega (arith, priors, naming.priors, ap (λ v. vec_capacity v) is.naming.priors_too);
      cell_order = omega (arith, cells, naming.cell_order, ap (λ v. vec_capacity v) is.naming.cell_order);
      prior_order = omega (arith, priors, naming.prior_order, ap (λ v. vec_capacity v) is.naming.prior_order);
    } in
    new_lazy set table c.in_ok-lazy.lazy s c.requires.over lazy.shape (is.shape
    ∙ (λ i. with_names (spec.shape_of set) (sym is.naming.cells i).items (sym is.naming.priors_too i).items))
    rows is.entries (is_paired set c.requires.limits c.requires.named) c.requires.short lazy.unnamed
    (subst (λ n. n ≤ c.in_ok-lazy.lazy.orders) cells lazy.cells)
    (subst (λ n. n ≤ c.in_ok-lazy.lazy.orders) priors lazy.priors)
    (lazy.few (omega (arith, cells, c.requires.few)) (omega (arith, priors, c.requires.few)))
