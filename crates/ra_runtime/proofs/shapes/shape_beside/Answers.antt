use Rattle.std.proofs.Common.{◌≡◌, ◌≤◌, ◌++◌, List, ℕ, [], append-nil, sym, ◌∙◌, ap, subst}
use Rattle.ra_set.specs.Contents.{set_contents}
use Rattle.ra_progress.specs.Contents.{ShapeContents, shape_contents}
use Rattle.ra_progress.specs.Layout.{length_of}
use Rattle.ra_progress.specs.Names.{IsOrder, IsPaired, entry_names}
use Rattle.ra_meaning.specs.Order as spec
use Rattle.ra_meaning.proofs.Openings.Snapshots.{is_paired}
use Rattle.ra_runtime.specs.Lazy.{with_names}
use Rattle.ra_runtime.proofs.shapes.shape_beside.Goals as goal

pub returns : goal.returns
returns c =
    let set = set_contents c.args.set.now in
    let shape = c.in_ok-shape.shape in
    let is = c.in_ok-shape.ensures in
    let same : shape_contents shape ≡ spec.shape_of set = is.shape ∙ (λ i. with_names
    (spec.shape_of set) (c.requires.names.cells i) (c.requires.names.priors_too i)) in
    record {
      same = same;
      usable = record {
        searchable = record {
          paired = subst IsPaired (sym same) (is_paired set c.requires.limits c.requires.named);
          cells = rw (is.naming.cells, is.naming.cell_order) (subst (λ (ns : List (List ℕ)). IsOrder
              ns c.in_ok-cell_order.cell_order.items) (ap (λ ns. ns ++ []) c.deref.ensures.value
              ∙ append-nil c.args.names.cells.items) c.in_ok-cell_order.ensures);
          priors = rw (is.naming.priors_too, is.naming.prior_order)
              (subst (λ (ns : List (List ℕ)). IsOrder ns c.in_ok-prior_order.prior_order.items)
              (ap (λ ns. ns ++ []) c.deref-2.ensures.value
              ∙ append-nil c.args.names.priors.items) c.in_ok-prior_order.ensures);
          entries = subst (λ (s : ShapeContents). IsOrder (entry_names s) shape.entry_order.items)
              (sym same) is.entries;
        };
        short = subst (λ (s : ShapeContents). length_of s ≤ 8388608) (sym same) c.requires.short;
      };
    }
