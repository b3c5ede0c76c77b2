use Rattle.std.proofs.Common.{◌≡◌, ◌-◌, ◌∙◌, [], ◌++◌, length, map, replicate, subst, sym, ap, arith}
use Rattle.std.proofs.lemmas.List.{with_items_is}
use Rattle.ra_links.specs.FlatRows.{AreOnRows, rows_by}
use Rattle.ra_links.specs.LateRows.{AreFrom, moved_by}
use Rattle.ra_links.proofs.Cuts.{length-rows_by}
use Rattle.ra_links.proofs.Moved.{rows_late, moved_on}
use Rattle.ra_links.proofs.late_rows.LateRows.new.Goals.{After-deref-2}
use Rattle.ra_links.proofs.late_rows.LateRows.new.Goals as goal

from : (c : After-deref-2) → AreFrom c.first_row-empty.result c.args.entries.items
from c = subst (AreFrom c.first_row-empty.result) c.deref.ensures.value c.first_row-empty.ensures.first

moved : (c : After-deref-2)
    → c.deref-2.result.now ≡ map (moved_by c.first_row-empty.result) c.args.entries.items
moved c =
    c.deref-2.ensures.value
    ∙ with_items_is c.args.entries c.move_by.new.entries (c.move_by.auto.entries ∙ c.deref_mut.ensures.len)
    ∙ c.move_by.ensures
    ∙ ap (map (moved_by c.first_row-empty.result)) c.deref_mut.ensures.value

pub new-requires : goal.new-requires
new-requires c =
    subst (AreOnRows (c.args.rows - c.first_row-empty.result)) (sym (moved c))
    (moved_on c.args.rows c.first_row-empty.result c.args.entries.items (from c) c.requires)

pub invariant_of-result : goal.invariant_of-result
invariant_of-result c = omega (
  arith,
  c.first_row-empty.ensures.most,
  ap length c.in_ok-rows.ensures,
  length-rows_by (c.args.rows - c.first_row-empty.result) c.deref-2.result.now,
  c.ranges.rows.fits,
)

pub returns : goal.returns
returns c =
    let here = (goal.at.returns c).After-deref-2 in
    let first = c.first_row-empty.result in
    ap (λ rs. replicate c.first_row-empty.result [] ++ rs)
    (c.in_ok-rows.ensures ∙ ap (rows_by (c.args.rows - c.first_row-empty.result)) (moved here))
    ∙ rows_late c.args.rows first c.args.entries.items (from here) c.first_row-empty.ensures.most
